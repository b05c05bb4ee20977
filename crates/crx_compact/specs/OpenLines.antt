-- The state of a reader of compact epochs as code stores it: the line that is expected next, and the history.
use Rattle.std.specs.Prelude.{⊤, ◌≡◌, ◌≤◌, ◌<◌, ◌==◌, ◌+◌, ℕ, List, length, Bool, true, false, Some, None, if◌then◌else◌}
use Rattle.crx_base.specs.meaning.AsRead.{Content, ReadLine}
use Rattle.crx_header.specs.meaning.EpochColumns.{begins_epoch}
use Rattle.crx_compact.specs.OpenEpochs.{RawStep, before_clock, step_in, step_with_rows, with_rows}
use Rattle.crx_compact.specs.OpenEpochs.{ColumnsState, Idle, Reading}
use Rattle.crx_compact.specs.PrintedBlocks.{lines_to}
use Rattle.crx_compact.specs.Placing.{OpenHistory, IsAnnounced, tail_of_history}
use Rattle.crx_compact.specs.declared.columns.Expected.{Expected}
use Rattle.crx_compact.specs.declared.columns.Expected.TheVariants.{EpochLine, ClockLine, SatelliteLine}

-- a reader of compact epochs; `is_kept`: whether the history holds an epoch
abbrev pub columns_state : Bool → Expected → ℕ → OpenHistory → ColumnsState
columns_state is_kept EpochLine count history = Idle (if is_kept then Some (tail_of_history history) else None)
columns_state is_kept ClockLine count history = Reading (before_clock (tail_of_history history))
columns_state is_kept SatelliteLine count history = Reading (with_rows (tail_of_history history) count)

-- in an open epoch the satellites are those that its text announces, and a line isn't read yet
abbrev pub IsSoundState : Expected → ℕ → OpenHistory → Type 0
IsSoundState EpochLine count history = ⊤
IsSoundState ClockLine count history = IsAnnounced history
IsSoundState SatelliteLine count history = IsAnnounced history × (count < length history.satellites.rows)

-- the step that a line makes, by the line that is expected; an epoch that is kept doesn't matter
abbrev pub step_at : Expected → ℕ → OpenHistory → ReadLine → RawStep
step_at expected count history line = step_in (columns_state true expected count history) line

-- a line of an open epoch was read, with which `come` rows have been read: more are expected, or the epoch is whole; the rows before the
-- last one stay
pub record IsLineTaken (line : List ℕ) (expected : Expected) (count : ℕ) (history : OpenHistory)
    (after : Expected) (come : ℕ) (new : OpenHistory) (is_whole : Bool) : Type 0 where
  pub rows : after ≡ SatelliteLine
  pub made : step_at expected count history (Content line) ≡ step_with_rows (tail_of_history new) come
  pub whole : is_whole ≡ (come == length new.satellites.rows)
  pub within : come ≤ length new.satellites.rows
  pub announced : IsAnnounced new
  pub start : begins_epoch line ≡ false
  pub awaited : 0 < come → expected ≡ SatelliteLine
  pub last : 0 < come → (come ≡ count + 1) × (lines_to count (tail_of_history new) ≡ lines_to count (tail_of_history history))
