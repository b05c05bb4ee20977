-- A check follows its filter line by line: it makes no line ready before the end of the input, and then its report.
use Rattle.crx_filter.proofs.Vocabulary
use Vocabulary.{common_steps, arith, ℕ, ◌≡◌, false, List, [], ◌∷◌, map, refl}
use Vocabulary.{map-append, length-map, ReadLine, as_read, Choices, Count, Epoch, lines_text, noticed_by}
use Vocabulary.{failed_by, is_again, Made, Phase, OpenEpoch, step_of_made, state_next, state_end, LineStep, Totals}
use Vocabulary.{checking, check_by_line, check_reading, check_filter, no_choices, findings_of}
use Rattle.crx_filter.proofs.following.{CheckedOn.{one-on, same-state}, Agreement.{fed-once, state_in}}
use Rattle.crx_filter.proofs.{following.CutOffWarnings.none-again, standard.CheckEnded.check-ended}
use Rattle.std.proofs.Common.{ap, sym, Some}
use Rattle.crx_filter.specs.{EngineLaws.GoesLineByLine, LineByLine.{state_end_with, fault_at_end_in}}
use Rattle.crx_filter.specs.meaning.{Directions.report_unless, Standard.{Findings, report_lines}}

-- ---- a step

-- a step of a check is the step of its reading, without ready lines
pub record IsQuiet (step reads : LineStep OpenEpoch Totals) : Type 0 where
  pub next : step.next ≡ reads.next
  pub failed : failed_by step.answer ≡ failed_by reads.answer
  pub noticed : noticed_by step.answer ≡ []
  pub once : is_again step.answer ≡ false
  pub handed_out : step.handed_out ≡ []

pub made-quiet : (number : ℕ) (phase : Phase OpenEpoch) (types : List Count) (kept : Totals) (line : ReadLine)
    (made : Made Epoch OpenEpoch)
    → IsQuiet (step_of_made check_by_line (state_in no_choices number phase types kept) line made)
    (step_of_made checking (state_in no_choices number phase types kept) line made)
made-quiet number phase types kept line made = grind (arith, common_steps)

pub step-quiet : (lines : List ReadLine) (line : ReadLine) → IsQuiet
    (state_next check_by_line (check_reading lines) line) (state_next checking (check_reading lines) line)
step-quiet lines line = grind (arith, common_steps, made-quiet)

-- ---- the end

-- without a fault at the end the report is ready, and otherwise nothing
record IsReported (found : Findings) (step reads : LineStep OpenEpoch Totals) : Type 0 where
  failed : failed_by step.answer ≡ failed_by reads.answer
  noticed : noticed_by step.answer ≡ []
  text : report_unless (failed_by step.answer) found ≡ lines_text step.handed_out

end-reported : (found : Findings) (number : ℕ) (phase : Phase OpenEpoch) (types : List Count) (kept : Totals)
    → IsReported found (state_end_with check_by_line (report_lines found) (state_in no_choices number phase
    types
    kept)) (state_end checking (state_in no_choices number phase types kept))
end-reported found number phase types kept =
    grind (arith, common_steps, state_end, state_end_with, fault_at_end_in)

-- ---- line by line

pub check-goes : (choices : Choices) → no_choices ≡ choices → GoesLineByLine check_by_line
    (λ lines. report_lines (findings_of lines)) check_reading check_filter
check-goes choices taken = record {
  follows = λ lines line. grind (
    arith,
    common_steps,
    one-on (map as_read lines) (as_read line),
    step-quiet (map as_read lines) (as_read line),
    fed-once check_by_line (check_reading (map as_read lines)) (as_read line),
    map-append as_read lines (line ∷ []),
  );
  ends = λ lines. grind (arith, end-reported, check-ended, same-state);
  number = λ lines. length-map lines as_read;
  cut = λ lines line. ap Some (sym (none-again _ (step-quiet (map as_read lines) (as_read line)).once));
  too_long_first = λ types kept. refl;
  too_long_next = λ so_far. refl;
}
