-- The laws of a check.
use Rattle.std.specs.Prelude.{◌≡◌, ◌↔◌, ℕ, true, false, List, [], ◌∷◌, ◌++◌, None}
use Rattle.crx_base.specs.meaning.Lines.{InputLine, lines_of}
use Rattle.crx_base.specs.meaning.Choices.{Choices, is_date}
use Rattle.crx_filter.specs.LineByLine.{state_end}
use Rattle.crx_filter.specs.Laws.{failed_by, is_again}
use Rattle.crx_filter.specs.meaning.Compacted.{compacted}
use Rattle.crx_filter.specs.meaning.Expanded.{expanded}
use Rattle.crx_filter.specs.meaning.Standard.{whole_of, whole_reading_of, findings_of, checked, IsStandard}
use Rattle.crx_filter.specs.CheckByLine.{checking, check_state, check_step, check_next, found_by}
use Rattle.crx_filter.specs.meaning.Directions.{fault_so_far}

-- a check takes one more line: no line is fed again; the line's fault is the one that ends the reading; and without a
-- fault the new state depends only on the line and on the state before it
pub record IsCheckedOn (lines : List InputLine) (line : InputLine) : Type 0 where
  pub once : is_again (check_step (check_state lines) line).answer ≡ false
  pub fault : fault_so_far (lines ++ line ∷ []) ≡ failed_by (check_step (check_state lines) line).answer
  pub next : fault_so_far (lines ++ line ∷ []) ≡ None
      → check_state (lines ++ line ∷ []) ≡ check_next (check_state lines) line

-- the end of the input: its fault is the fault of the whole reading, and without one the state holds the findings
pub record IsCheckEnded (lines : List InputLine) : Type 0 where
  pub fault : (whole_reading_of lines).fault ≡ failed_by (state_end checking (check_state lines).reading).answer
  pub found : (whole_reading_of lines).fault ≡ None → found_by (check_state lines) ≡ findings_of lines

-- a file that is read to its end without a fault has no line to name if and only if it is standard
abbrev pub IsNamedWhereNot : List ℕ → Type 0
IsNamedWhereNot input = (whole_of input).fault ≡ None
    → (findings_of (lines_of input)).not_standard ≡ None ↔ IsStandard input

-- a file that is read to its end without a fault is reported as standard, with status 0, if and only if the expansion
-- of its compaction restores it, with any options
abbrev pub IsStandardExactlyWhereSame : List ℕ → Choices → Choices → Type 0
IsStandardExactlyWhereSame input compacting expanding =
    is_date compacting.date ≡ true → (whole_of input).fault ≡ None
    → ((checked input).status ≡ 0) ↔ ((expanded (compacted input compacting).output expanding).output ≡ input)
