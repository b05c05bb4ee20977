-- The end of the input, wherever a reading has stopped.
use Rattle.crx_filter.proofs.Vocabulary
use Vocabulary.{ℕ, ◌≡◌, ◌+◌, List, [], Option, Some, None, ◌∙◌, Fault, Item, WholeReading}
use Vocabulary.{Stop, AtLines, is_skipped, fault_at_end, ended_with, ended_reading, written_lines, warnings_in}
use Vocabulary.{Phase, Step, is_skipped_in, rules, state_end, IsEndedBy, by_bool}
use Rattle.crx_filter.proofs.following.Agreement.{Meaning, IsCarriedOut, place, state_at}
use Rattle.crx_filter.proofs.following.LinesAtStops.{IsStopped, stands, seen_after}
use Rattle.crx_filter.specs.LineByLine.{end_step}
pub use Rattle.crx_filter.proofs.following.LinesAtStops.{closes-well}

module _ {E U O K : Type 0} {m : Meaning E U O K} (h : IsCarriedOut m) where
  -- the end after some items, and as it is fed
  abbrev EndsAs : List (Item E) → WholeReading E → Step O K → Type 0
  EndsAs items whole end = IsEndedBy (written_lines m.unit_lines items) (written_lines m.unit_lines
      whole.items) (warnings_in items) (warnings_in whole.items) whole.fault end

  -- if the phase agrees with the items
  ends-same : (items : List (Item E)) (count : ℕ) (phase : Phase O) (kept : K) (fault : Option Fault)
      → ((f : Fault) → is_skipped m.choices.skip items f ≡ is_skipped_in (state_at m count phase items kept)
      f) → EndsAs items (ended_with m.choices.skip items (count + 1) fault)
      (end_step m.direction [] (state_at m count phase items kept) fault)
  ends-same items count phase kept None same = search rules
  ends-same items count phase kept (Some fault) same = by_bool (is_skipped_in (state_at m count phase items
      kept) fault) (λ on. rw (same fault ∙ on, on) (search rules))
      (λ off. rw (same fault ∙ off, off) (search rules))

  pub next-end : (items : List (Item E)) (stop : Stop) (count : ℕ) → IsStopped (place m) items stop
      (count + 1) → EndsAs items (ended_reading m.choices.skip (record { items = items; stop = stop }))
      (state_end m.direction (seen_after h count (record { items = items; stop = stop })))
  next-end items (AtLines number rest) count stopped =
      let s = (stands h items rest stopped.0).0 in
      rw (stopped.1, s.ends count) (ends-same items count _ _ (fault_at_end items rest) s.skips)
  next-end items stop count stopped = search rules
