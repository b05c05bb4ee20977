-- A checker takes the end of the input.
use Rattle.crx_filter.proofs.Vocabulary.{common_steps, arith, ℕ, ◌≡◌, true, [], List, Option, None}
use Rattle.crx_filter.proofs.Vocabulary.{false, map, length, as_read, Choices, no_choices, check_reading}
use Rattle.crx_filter.proofs.Vocabulary.{first_not_standard, printed_so_far, InputLine, failed_by}
use Rattle.crx_filter.proofs.Vocabulary.{reader_phase, whole_reading_of, findings_of, checking, check_state}
use Rattle.crx_filter.proofs.Vocabulary.{checker_state_with, Held, RinexReader}
use Rattle.crx_filter.proofs.{following.Agreement.state_in, standard.CheckEnded.check-ended}
use Rattle.crx_filter.proofs.steps.{CheckerSteps.{has-reached, reads-on, state-there}}
use Rattle.crx_filter.specs.{CheckingParts.is_reading}
use Rattle.crx_filter.specs.{LineByLine.{end_step, fault_at_end_in}, Stages.{is_ended, bare_phase}}
use Rattle.crx_filter.specs.Totals.{totals_held, found_held}

-- the fault of the whole reading is the stage's fault
end-fault : (reader : RinexReader) (number : ℕ) (totals : Held) (named : Option ℕ) (lines : List InputLine)
    → is_reading (reader_phase reader) ≡ true
    → checker_state_with reader number totals named ≡ check_state lines
    → (whole_reading_of lines).fault ≡ failed_by (end_step checking []
    (checker_state_with reader number totals named).reading (fault_at_end_in
    (bare_phase reader.stage))).answer
end-fault reader number totals named lines reads same = grind (arith, common_steps, check-ended)

-- without a fault at the end the state holds the findings
pub found-at-end : (choices : Choices) (reader : RinexReader) (totals : Held) (named : Option ℕ)
    (lines : List InputLine) → no_choices ≡ choices → state_in choices (length lines) (reader_phase reader)
    reader.types (totals_held totals) ≡ check_reading (map as_read lines)
    → named ≡ first_not_standard 1 lines (printed_so_far lines) → is_ended reader.stage ≡ false
    → fault_at_end_in (bare_phase reader.stage) ≡ None → found_held totals reader.types named ≡ findings_of
    lines
found-at-end choices reader totals named lines taken is named_is running good =
    grind (arith, common_steps, state-there, reads-on, has-reached, check-ended, end-fault)
