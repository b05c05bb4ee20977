-- An encoder between two lines: the tail of the earlier epochs, and the open epoch's rows so far.
use Rattle.std.specs.Prelude.{◌≡◌, ◌+◌, ℕ, List, length, [], Bool, true, false, Option, None, Some, if◌then◌else◌}
use Rattle.crx_compact.specs.Blocks.{PendingLines}
use Rattle.crx_compact.specs.Placing.{OpenHistory, tail_of_history}
use Rattle.crx_compact.specs.Steps.{lines_after_tail, tail_after, tail_written_after}
use Rattle.crx_compact.specs.Tails.{Tail}
use Rattle.crx_compact.specs.Written.{AreRowsWritten, epoch_by_rows}
use Rattle.crx_compact.specs.declared.block.TheConstants.{FIRST_LINES, LINES_LIMIT}
use Rattle.crx_rinex.specs.meaning.EpochLines.{ObservationHead}
use Rattle.crx_rinex.specs.meaning.Observations.{Row}

-- the tail of the earlier epochs, or none; whether an epoch is open, and then whether it was begun as full, and its rows so far; the
-- pending lines
pub record EncoderState : Type 0 where
  pub before : Option Tail
  pub is_open : Bool
  pub in_full : Bool
  pub rows : List Row
  pub pending : List (List ℕ)

-- every epoch is forgotten, and these lines are pending
abbrev pub forgotten : EncoderState → List (List ℕ) → EncoderState
forgotten state pending = record state { before = None; is_open = false; rows = []; pending = pending }

-- the tail that the rows of the open epoch are written after
abbrev pub tail_in : EncoderState → Tail
tail_in state = tail_written_after state.in_full state.before

-- the open epoch, with the epoch line `head`, has ended: its lines are pending, and the tail is the one after it
pub record EndsEpoch (head : ObservationHead) (old new : EncoderState) : Type 0 where
  pub lines : new.pending ≡ lines_after_tail (tail_in old) (epoch_by_rows head old.rows)
  pub before : new.before ≡ Some (tail_after (tail_in old) (epoch_by_rows head old.rows))
  pub closed : new.is_open ≡ false
  pub rows : new.rows ≡ []

abbrev pub tail_or_none : Bool → Tail → Option Tail
tail_or_none is_kept tail = if is_kept then Some tail else None

-- the parts of an encoder fit together: whether an epoch is open; whether an earlier tail is kept, and this tail; whether the open epoch is
-- full; its rows so far; the history; and the lines so far, with space for every other satellite that an epoch may have
abbrev pub IsEncoding : Bool → Bool → Tail → Bool → List Row → OpenHistory → PendingLines → Type 0
IsEncoding false is_kept before in_full rows history made =
    tail_or_none is_kept before ≡ tail_or_none is_kept (tail_of_history history)
IsEncoding true is_kept before in_full rows history made =
    AreRowsWritten (tail_written_after in_full (tail_or_none is_kept before)) rows history made.lines
    × (made.front ≡ FIRST_LINES) × (made.left + length rows ≡ LINES_LIMIT)
