-- An invariant of each step of a reading holds of all that it has accepted.
use Rattle.crx_filter.proofs.Vocabulary.{ℕ, zero, suc, ◌≡◌, ◌+◌, max, Bool, true, List, [], ◌∷◌, drop, ReadLine}
use Rattle.crx_filter.proofs.Vocabulary.{At, Place, Done, Fails, FileUnit, Item, Accepted, Warned, Reading}
use Rattle.crx_filter.proofs.Vocabulary.{is_skipped, can_go_on, looked_for, after_fault, reading_within, by_bool}
use Rattle.crx_filter.proofs.Vocabulary.{refl, Stop, AtLines, AtFault, Looking, arith, length, Option, Some}
use Rattle.crx_filter.proofs.Vocabulary.{None, Fault, common_steps, false}
use Rattle.crx_filter.proofs.Vocabulary.{WholeReading, reading_from, whole_reading, ended_reading, ended_with}
use Rattle.crx_filter.proofs.Vocabulary.{fault_at_end}
use Rattle.std.proofs.lemmas.List.{drop-drop, drop_all}
use Rattle.crx_filter.proofs.reading.Resuming.{by_place, within-here, within-wrong, within-wanted}

none-after : {E : Type 0} (items : List (Item E)) (lines : List ReadLine) → fault_at_end items lines ≡ None
    → lines ≡ []
none-after items lines h3 = grind (arith, common_steps)

module _ {E : Type 0} (place : List (Item E) → List ReadLine → Place (FileUnit E)) (skip : Bool)
    (Keeps : List (Item E) → List ReadLine → Type 0) where
  -- an invariant of the items so far and of the lines from there on. It also holds of the lines that are left when a
  -- reading stops
  pub record IsKept : Type 0 where
    pub here : (items : List (Item E)) (lines : List ReadLine) (unit : FileUnit E) (count : ℕ) → place
        items lines ≡ Done unit count → Keeps items lines → Keeps (Accepted unit ∷ items) (drop count lines)
    pub passed : (items : List (Item E)) (lines : List ReadLine) (at : At) (n : ℕ)
        → is_skipped skip items at.fault ≡ true → Keeps items lines → Keeps (Warned at ∷ items) (drop n lines)

  -- the lines that are left there, and at a fault the place that has it
  abbrev IsLeft : List (Item E) → Stop → List ReadLine → Type 0
  IsLeft items (AtLines number rest) lines = lines ≡ rest
  IsLeft items (Looking number) lines = lines ≡ []
  IsLeft items (AtFault at) lines =
      (offset : ℕ) × (place items lines ≡ Fails offset at.fault) × (is_skipped skip items at.fault ≡ false)

  abbrev pub KeptAt : Reading E → Type 0
  KeptAt r = (lines : List ReadLine) × Keeps r.items lines × IsLeft r.items r.stop lines

  pub looked-kept : (items : List (Item E)) (read : ℕ → List ReadLine → Reading E) (number : ℕ)
      (lines : List ReadLine)
      → ((n : ℕ) → Keeps items (drop n lines))
      → ((n : ℕ) (ls : List ReadLine) → Keeps items ls → KeptAt (read n ls))
      → KeptAt (looked_for read items number lines)
  looked-kept items read number [] h next = ([], h 0, refl)
  looked-kept items read number (line ∷ lines) h next = by_bool (can_go_on line)
      (λ on. rw (on, looked_for) (next number (line ∷ lines) (h 0)))
      (λ off. rw (off, looked_for) (looked-kept items read (number + 1) lines (λ n. h (suc n)) next))

  pub within-kept : IsKept → (units : ℕ) (items : List (Item E)) (number : ℕ) (lines : List ReadLine)
      → Keeps items lines → KeptAt (reading_within place skip units items number lines)
  within-kept k zero items number lines h = (lines, h, refl)
  within-kept k (suc units) items number lines h = by_place (place items lines)
      (λ unit count e. rw (within-here place skip units items number lines unit count e) (within-kept k units
      (Accepted unit ∷ items) (number + count) (drop count lines) (k.here items lines unit count e h)))
      (λ offset fault e.
      let at : At = record { line = number + offset; fault = fault } in
      rw (within-wrong place skip units items number lines offset fault e)
      (by_bool (is_skipped skip items fault)
      (λ on. rw (on, after_fault)
      (looked-kept (Warned at ∷ items) (reading_within place skip units (Warned at ∷ items))
      (number + max offset 1) (drop (max offset 1) lines)
      (λ n. rw (drop-drop n (max offset 1) lines) (k.passed items lines at (max offset 1 + n) on h))
      (within-kept k units (Warned at ∷ items)))) (λ off. rw (off, after_fault) (
        lines,
        h,
        grind (arith, common_steps),
      ))))
      (λ e. rw (within-wanted place skip units items number lines e) (lines, h, refl))

  -- ---- the end

  ended-kept : IsKept → (items : List (Item E)) (stop : Stop) → KeptAt (record { items = items; stop = stop })
      → WholeReading.fault (ended_reading skip (record { items = items; stop = stop })) ≡ None
      → Keeps (WholeReading.items (ended_reading skip (record { items = items; stop = stop }))) []
  ended-kept k items (AtFault at) (lines, h, left) f = absurd (cc f)
  ended-kept k items (Looking number) (lines, h, left) f = rw left at h
  ended-kept k items (AtLines number rest) (lines, h, left) f = by_fault (fault_at_end items rest) refl f
    where
      by_fault : (o : Option Fault) → fault_at_end items rest ≡ o
          → WholeReading.fault (ended_with skip items (number + length rest) o) ≡ None
          → Keeps (WholeReading.items (ended_with skip items (number + length rest) o)) []
      by_fault None e f = rw (left, none-after items rest e) at h
      by_fault (Some fault) e f = by_bool (is_skipped skip items fault)
          (λ on. rw (on, ended_with)
          (rw (drop_all (length lines) lines (omega arith)) at (k.passed items lines
          (record { line = number + length rest; fault = fault }) (length lines) on h)))
          (λ off. let never = rw (off, ended_with) at f in absurd (cc never))

  -- the invariant holds at the end of a reading without a fault
  pub whole-kept : IsKept → (number : ℕ) (lines : List ReadLine) → Keeps [] lines
      → WholeReading.fault (whole_reading place skip number lines) ≡ None
      → Keeps (WholeReading.items (whole_reading place skip number lines)) []
  whole-kept k number lines h f =
      let r = reading_from place skip [] number lines in
      ended-kept k r.items r.stop (within-kept k (length lines + 1) [] number lines h) f
