-- Worked examples: the results of small files.
use Rattle.std.specs.Prelude.{ℕ, Bool, true, false, List, [], ◌∷◌, ◌++◌, Some, None, codes, length}
use Rattle.crx_base.specs.declared.fault.Fault.{Fault}
use Rattle.crx_base.specs.declared.fault.At.{At}
use Rattle.crx_base.specs.meaning.AsRead.{Content}
use Rattle.crx_base.specs.meaning.Lines.{InputLine, lines_of}
use Rattle.crx_base.specs.meaning.Choices.{Choices}
use Rattle.crx_runs.specs.meaning.Messages.{message_text, warning_text}
use Rattle.crx_runs.specs.meaning.Results.{FilterResult}
use Rattle.crx_base.specs.meaning.Lines.{lines_text}
use Rattle.crx_filter.specs.meaning.Compacted.{compacted}
use Rattle.crx_filter.specs.meaning.Expanded.{expanded}
use Rattle.crx_filter.specs.meaning.Standard.{Findings, checked}
use Rattle.crx_filter.specs.CheckByLine.{CheckState, check_state, check_next, found_by}
use Rattle.crx_filter.specs.LineByLine.{Direction, RunState, Step, Answer, Notice, state_next}
use Rattle.crx_filter.specs.Laws.{is_again}
use Rattle.crx_filter.specs.CompactionByLine.{compaction, compaction_state}
use Rattle.crx_filter.specs.ExpansionByLine.{expansion, expansion_state}
use Rattle.crx_laws.specs.SmallFiles.{blanks}

-- two types of GPS
abbrev pub two_types : List ℕ
two_types = codes "G    2 C1C L1C" ++ blanks 46 ++ codes "SYS / # / OBS TYPES"

-- the result of a run, by the lines of its output and its messages
abbrev pub good : List (List ℕ) → FilterResult
good lines = record { output = lines_text lines; messages = []; status = 0; fault = None }

abbrev pub failed : List (List ℕ) → ℕ → Fault → FilterResult
failed lines number fault =
    let at : At = record { line = number; fault = fault } in
    record { output = lines_text lines; messages = message_text (codes "ERROR") at; status = 1; fault = Some at }

abbrev pub warned : List (List ℕ) → List ℕ → FilterResult
warned lines messages = record { output = lines_text lines; messages = messages; status = 2; fault = None }

abbrev pub warning : ℕ → Fault → List ℕ
warning number fault = warning_text (record { line = number; fault = fault })

-- the compaction and the expansion of some lines, each followed by LF
abbrev pub compaction_of : Choices → List (List ℕ) → FilterResult
compaction_of choices lines = compacted (lines_text lines) choices

abbrev pub expansion_of : Choices → List (List ℕ) → FilterResult
expansion_of choices lines = expanded (lines_text lines) choices

-- the answer to a line, and the number of lines that are borrowed
abbrev pub answered : {O K : Type 0} → Step O K → Answer × ℕ
answered step = (step.answer, length step.handed_out)

-- the answers to some lines one after another; a line may be fed again
abbrev pub answers_to : {U O K : Type 0} → Direction U O K → RunState O K → List (List ℕ) → List (Answer × ℕ)
answers_to direction state [] = []
answers_to direction state (line ∷ lines) =
    let one : Step _ _ = state_next direction state (Content line) in
    elim (is_again one.answer) [
      | true ↦ answered one ∷ answered (state_next direction one.next (Content line))
          ∷ answers_to direction (state_next direction one.next (Content line)).next lines
      | false ↦ answered one ∷ answers_to direction one.next lines
    ]

abbrev pub compaction_answers : Choices → List (List ℕ) → List (Answer × ℕ)
compaction_answers choices lines = answers_to compaction (compaction_state choices []) lines

abbrev pub expansion_answers : Choices → List (List ℕ) → List (Answer × ℕ)
expansion_answers choices lines = answers_to expansion (expansion_state choices []) lines

-- a warning as an answer
abbrev pub notice : ℕ → Fault → Bool → Answer
notice number fault again = Notice (record { line = number; fault = fault }) again

-- the report of some lines
abbrev pub report : List (List ℕ) → FilterResult
report lines = checked (lines_text lines)

-- the result of a check, by the lines of its report
abbrev pub reported : List ℕ → List ℕ → List ℕ → List ℕ → List ℕ → ℕ → FilterResult
reported systems epochs events observations standard status = record {
  output = lines_text (codes "format 3.04" ∷ systems ∷ epochs ∷ events ∷ observations ∷ standard ∷ []);
  messages = [];
  status = status;
  fault = None;
}

-- the state of a check after some more lines, line by line
abbrev pub check_state_on : CheckState → List InputLine → CheckState
check_state_on before [] = before
check_state_on before (line ∷ lines) = check_state_on (check_next before line) lines

-- the findings of a check at the end of an input, line by line
abbrev pub found_line_by_line : List ℕ → Findings
found_line_by_line input = found_by (check_state_on (check_state []) (lines_of input))
