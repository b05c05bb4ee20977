-- The warning after which a line is fed again is the warning of the epoch that it cuts off.
use Rattle.crx_filter.proofs
use proofs.Vocabulary.{common_steps, arith, ℕ, ◌≡◌, ◌+◌, Bool, true, false, List, [], ◌∷◌, ◌++◌, length, Some, refl, sym}
use proofs.Vocabulary.{◌∙◌, ReadLine, Choices, At, Item, Reading, Stop, AtFault, AtLines, Looking, Phase, LookingOn, RunState}
use proofs.Vocabulary.{Made, Completes, Rejects, Notice, is_skipped_in, step_of_made, state_next, made_in, by_bool}
use proofs.Vocabulary.{is_again, types_in_force, is_in_epoch, can_go_on}
use proofs.{ReadyLines.again-lines, following.Agreement.{Agrees, IsCarriedOut, Meaning, place, StandsAt, state_at}}
use proofs.following.Agreement.{failed-ends, failed-skipped}
use proofs.following.{LinesAtStops.{IsStopped, quiet-elsewhere, seen_after, stands, wrong-last}}
use proofs.following.MoreLines.{read_from, state_from}
use proofs.Vocabulary.{Place, FileUnit, ap, Option, ReadEpoch, OpenRawEpoch, Tail, drop, length-drop, Done, first_lines, expansion, expansion_state, compact_place, compact_reading}
use proofs.following.Expansion.{expansion-carried_out}
use proofs.reading.{CompactPrefixes.{remains, reading-at}, Resuming.by_place, Stopping.reading-stopped}
use Rattle.crx_filter.specs.ExpansionByLine.{phase_from_first_lines}
use Rattle.crx_filter.specs.LineByLine.{Answer, noticed_again}
use Rattle.crx_filter.specs.meaning.Directions.{cut_off_by, warned_first}
use Rattle.std.specs.Prelude.{◌&&◌, if◌then◌else◌}

by-flag : (at : At) (b : Bool) → (if b then at ∷ [] else []) ≡ noticed_again (Notice at b)
by-flag at true = refl
by-flag at false = refl

pub none-again : (answer : Answer) → is_again answer ≡ false → noticed_again answer ≡ []
none-again answer e = grind (arith, common_steps)

module _ {E U O K : Type 0} {m : Meaning E U O K} (h : IsCarriedOut m) where
  cut-made : (items : List (Item E)) (number count : ℕ) (rest : List ReadLine) (line : ReadLine) (phase : Phase
      O) (kept : K) → StandsAt m items rest phase kept → number + length rest ≡ count + 1 → (made : Made U O)
      → Agrees m items phase kept (rest ++ line ∷ []) made
      → warned_first m.choices.skip items number line (place m items (rest ++ line ∷ []))
      ≡ noticed_again (step_of_made m.direction (state_at m count phase items kept) line made).answer
  cut-made items number count rest line phase kept s counted (Rejects fault) (offset, here) =
      by_bool (is_skipped_in before fault) (λ on.
      let last = wrong-last h items number count rest line phase kept s counted offset fault here in
      rw (here, s.skips fault ∙ on, last, counted, sym s.inside, failed-skipped m.direction before line fault on)
      (by-flag (record { line = count + 1; fault = fault }) (is_in_epoch phase && can_go_on line)))
      (λ off. rw (here, s.skips fault ∙ off, failed-ends m.direction before line fault off) refl)
    where
      before : RunState O K
      before = state_at m count phase items kept
  cut-made items number count rest line phase kept s counted (Completes unit) agree =
      grind (arith, common_steps, again-lines, none-again)
  cut-made items number count rest line phase kept s counted made agree = grind (arith, common_steps)

  pub cut-off : (number count : ℕ) (lines : List ReadLine) (line : ReadLine) → number + length lines ≡ count + 1
      → cut_off_by (place m) m.choices.skip (read_from h number lines) line
      ≡ noticed_again (state_next m.direction (state_from h number count lines) line).answer
  cut-off number count lines line counted =
      by_stop (read_from h number lines).items (read_from h number lines).stop
      (reading-stopped (place m) h.forward m.choices.skip [] number (count + 1) lines counted)
    where
      by_stop : (items : List (Item E)) (stop : Stop) → IsStopped (place m) items stop (count + 1)
          → cut_off_by (place m) m.choices.skip (record { items = items; stop = stop }) line
          ≡ noticed_again (state_next m.direction (seen_after h count (record { items = items; stop = stop })) line).answer
      by_stop items (AtLines number rest) stopped =
          let all = stands h items rest stopped.0 in
          cut-made items number count rest line _ _ all.0 stopped.1 _ (all.1 line)
      by_stop items (AtFault at) stopped = refl
      by_stop items (Looking number) stopped = sym (none-again _ (quiet-elsewhere m.direction
          (seen_after h count (record { items = items; stop = Looking number })) line _ refl))

warned-nothing : {E : Type 0} (skip : Bool) (number : ℕ) (line : ReadLine) (p : Place (FileUnit E))
    → warned_first skip [] number line p ≡ []
warned-nothing skip number line p = grind (arith, common_steps)

pub expansion-cut-off : (choices : Choices) (lines : List ReadLine) (line : ReadLine)
    → cut_off_by compact_place choices.skip (compact_reading choices.skip lines) line
    ≡ noticed_again (state_next expansion (expansion_state choices lines) line).answer
expansion-cut-off choices lines line = by_place (first_lines lines) (λ two count is.
    let within = (remains lines [] (Done two count) is).0 in
    let read = reading-at choices.skip lines two count is in
    let same : expansion_state choices lines
    ≡ state_from (expansion-carried_out choices) (count + 1) (length lines) (drop count lines) =
    rw (is, phase_from_first_lines, read) refl in
    ap (λ (r : Reading ReadEpoch). cut_off_by compact_place choices.skip r line) read
    ∙ cut-off (expansion-carried_out choices) (count + 1) (length lines) (drop count lines) line
    (omega (arith, length-drop count lines, within))
    ∙ ap (λ (s : RunState OpenRawEpoch (Option Tail)). noticed_again (state_next expansion s line).answer) (sym same))
    (λ offset fault is. grind (arith, common_steps, is)) (λ is.
    let wanted : compact_reading choices.skip lines ≡ record { items = []; stop = AtLines 1 lines } = rw (is, compact_reading) refl in
    let quiet : is_in_epoch (expansion_state choices lines).phase ≡ false = rw (is, phase_from_first_lines) refl in
    ap (λ (r : Reading ReadEpoch). cut_off_by compact_place choices.skip r line) wanted
    ∙ warned-nothing choices.skip 1 line (compact_place [] (lines ++ line ∷ []))
    ∙ sym (none-again _ (quiet-elsewhere expansion (expansion_state choices lines) line _ quiet)))
