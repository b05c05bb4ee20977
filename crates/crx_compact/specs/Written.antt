-- An epoch whose rows are written one by one: the history and the lines so far.
use Rattle.std.specs.Prelude.{◌≡◌, ◌++◌, ◌∷◌, [], ℕ, List, All, Bool, IfOk, OnErr, Result, map, not, true, false}
use Rattle.crx_compact.specs.Blocks.{HasTakenLine, PendingLines}
use Rattle.crx_compact.specs.Placing.{OpenHistory, row_tail_named, tail_of_history}
use Rattle.crx_compact.specs.Steps.{lines_after_tail, row_line_in, row_tail_in, tail_after}
use Rattle.crx_compact.specs.Tails.{Tail}
use Rattle.crx_rinex.specs.meaning.EpochLines.{ObservationHead}
use Rattle.crx_rinex.specs.meaning.Epochs.{are_different, has_satellite}
use Rattle.crx_rinex.specs.meaning.Observations.{Epoch, Row}
use Rattle.crx_rinex.specs.meaning.SatelliteLines.{IsSoundRow}

-- the rows of an epoch so far, no two of one satellite, and their compact lines, after a tail: the history holds these satellites as they
-- are after their rows, and every other one as it is in the tail
pub record AreRowsWritten (after : Tail) (rows : List Row) (history : OpenHistory) (lines : List (List ℕ)) : Type 0 where
  pub text : history.text ≡ after.text
  pub clock : history.clock ≡ after.clock
  pub rows_after : history.satellites.rows ≡ map (row_tail_in after.rows) rows
  pub others : (name : List ℕ) → has_satellite name rows ≡ false
      → row_tail_named name history.satellites.rest ≡ row_tail_named name after.rows
  pub lines_made : lines ≡ map (row_line_in after.rows) rows
  pub sound : All IsSoundRow rows
  pub apart : are_different rows ≡ true

-- the epoch with this line and these rows
abbrev pub epoch_by_rows : ObservationHead → List Row → Epoch
epoch_by_rows head rows = record { head = head.head; clock = head.clock; rows = rows }

-- `is_new`: the row is the first of its satellite, and is written after the rows so far; otherwise nothing changes
pub record IsRowWritten (after : Tail) (rows : List Row) (row : Row) (old : OpenHistory) (before : PendingLines)
    (history : OpenHistory) (block : PendingLines) (is_new : Bool) : Type 0 where
  pub answer : is_new ≡ not (has_satellite row.name rows)
  pub written : is_new ≡ true → AreRowsWritten after (rows ++ row ∷ []) history block.lines
  pub taken : is_new ≡ true → HasTakenLine before block
  pub same : is_new ≡ false → (history ≡ old) × (block ≡ before)

-- the row is written, or it is refused, which happens only to the first row of a satellite
pub record AnswersWriting {E : Type 0} (after : Tail) (rows : List Row) (row : Row) (old : OpenHistory) (before : PendingLines)
    (history : OpenHistory) (block : PendingLines) (answer : Result Bool E) : Type 0 where
  pub ok : IfOk answer (IsRowWritten after rows row old before history block)
  pub err : OnErr answer (has_satellite row.name rows ≡ false)

-- an epoch is written after a tail: the history holds the tail after it, and the lines are its compact lines
pub record IsEpochWritten (after : Tail) (epoch : Epoch) (history : OpenHistory) (lines : List (List ℕ))
    : Type 0 where
  pub tail : tail_of_history history ≡ tail_after after epoch
  pub lines_made : lines ≡ lines_after_tail after epoch
