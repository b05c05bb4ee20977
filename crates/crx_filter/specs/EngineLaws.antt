-- The conditions of a direction, in the words of a filter.
use Rattle.std.specs.Prelude.{◌≡◌, ℕ, List, ◌++◌, map, length, reverse, Some}
use Rattle.crx_base.specs.meaning.Lines.{InputLine, lines_text}
use Rattle.crx_base.specs.meaning.AsRead.{ReadLine, Overlong, as_read}
use Rattle.crx_base.specs.meaning.Choices.{Choices}
use Rattle.crx_runs.specs.meaning.Filters.{Filter, with_next}
use Rattle.crx_filter.specs.Laws.{Fed, fed, noticed_by, failed_by}
use Rattle.crx_base.specs.declared.fault.Fault.TheVariants.{LineTooLong}
use Rattle.crx_header.specs.meaning.ObservationTypes.{Count}
use Rattle.crx_filter.specs.LineByLine.{noticed_again, state_next}
use Rattle.crx_filter.specs.LineByLine.{RunState, Direction, Rejects, Step as LineStep, state_end_with}

-- feeding one more line has the effect that the filter says
pub record FollowsBy (filter : Filter) {O K : Type 0}
    (lines : List InputLine) (line : InputLine) (state_then : RunState O K) (line_fed : Fed O K) : Type 0 where
  pub next : state_then ≡ line_fed.next
  pub output : (filter.so_far (with_next lines line)).output ≡ (filter.so_far lines).output
      ++ lines_text line_fed.handed_out
  pub warnings : (filter.so_far (with_next lines line)).warnings
      ≡ (filter.so_far lines).warnings ++ reverse line_fed.warned
  pub fault : (filter.so_far (with_next lines line)).fault ≡ line_fed.failed

-- the end of the input has the effect that the filter says
pub record EndsLineByLine (filter : Filter) {O K : Type 0} (lines : List InputLine)
    (end : LineStep O K) : Type 0 where
  pub output : (filter.whole lines).output ≡ (filter.so_far lines).output ++ lines_text end.handed_out
  pub warnings : (filter.whole lines).warnings ≡ (filter.so_far lines).warnings ++ reverse
      (noticed_by end.answer)
  pub fault : (filter.whole lines).fault ≡ failed_by end.answer

-- a direction follows its filter line by line, by the state after some lines, and by the lines that it makes ready if
-- the input ends after them without a fault
pub record GoesLineByLine {U O K : Type 0} (direction : Direction U O K) (lines_at_end_after : List InputLine
    → List (List ℕ)) (state_after_lines : List ReadLine → RunState O K)
    (filter : Filter) : Type 0 where
  pub follows : (lines : List InputLine) (line : InputLine) → FollowsBy filter lines line
      (state_after_lines (map as_read (with_next lines line))) (fed direction (state_after_lines (map as_read lines)) (as_read line))
  pub ends : (lines : List InputLine) → EndsLineByLine filter lines
      (state_end_with direction (lines_at_end_after lines) (state_after_lines (map as_read lines)))
  pub number : (lines : List InputLine) → (state_after_lines (map as_read lines)).number ≡ length lines
  -- if memory runs out at a line that is fed again, this is after the line's warning
  pub cut : (lines : List InputLine) (line : InputLine) → filter.memory_after lines line ≡ Some (noticed_again
      (state_next direction (state_after_lines (map as_read lines)) (as_read line)).answer)
  -- a line that is too long is a fault
  pub too_long_first : (types : List Count) (kept : K) → direction.begins types kept Overlong ≡ Rejects LineTooLong
  pub too_long_next : (so_far : O) → direction.continues so_far Overlong ≡ Rejects LineTooLong

-- a direction follows its filter, with any options that it takes as the user's
abbrev pub IsLawfulDirection : {U O K : Type 0} → Direction U O K → (Choices → Choices)
    → (Choices → List InputLine → List (List ℕ)) → (Choices → List ReadLine → RunState O K)
    → (Choices → Filter) → Type 0
IsLawfulDirection direction chosen lines_at_end_after state_after_lines filter = (choices : Choices)
    → chosen choices ≡ choices → GoesLineByLine direction (lines_at_end_after choices) (state_after_lines choices)
    (filter choices)
