-- The epoch that a reader of compact text holds open.
use Rattle.std.specs.Prelude.{Bool, true, false, Option, Some, None}
use Rattle.crx_compact.specs.Tails.{RowTail}
use Rattle.crx_compact.specs.OpenEpochs.{OpenRawEpoch, OpenClock, Before, After, awaited_row, ColumnsState, is_idle}
use Rattle.crx_compact.specs.OpenEpochs.ColumnsState.{Idle, Reading}
use Rattle.crx_filter.specs.declared.stage.Stage.{Stage}
use Rattle.crx_filter.specs.declared.stage.Stage.TheVariants.{FirstLines, Header, Between, Event, Open, Looking}
use Rattle.crx_filter.specs.declared.stage.Stage.TheVariants.{Closed}
use Rattle.crx_filter.specs.declared.stage.Stage.TheVariants.{Ended}

-- the open epoch, of which some lines have been read
abbrev pub open_in : ColumnsState → Option OpenRawEpoch
open_in (Idle tail) = None
open_in (Reading begun) = Some begun

-- whether another line is expected, by the clock and by the row that is expected next
abbrev pub wants_line : OpenClock → Option RowTail → Bool
wants_line (Before arc) row = true
wants_line (After arc) None = false
wants_line (After arc) (Some row) = true

-- an epoch is open, and expects lines
abbrev pub wants_lines : ColumnsState → Bool
wants_lines (Idle tail) = false
wants_lines (Reading begun) = wants_line begun.clock (awaited_row begun)

-- an epoch is open only in the stage `Open`, and there it expects lines
abbrev pub is_compact_stage : Stage → ColumnsState → Bool
is_compact_stage Open columns = wants_lines columns
is_compact_stage (FirstLines count) columns = is_idle columns
is_compact_stage (Header is_first) columns = is_idle columns
is_compact_stage Between columns = is_idle columns
is_compact_stage (Event left counted) columns = is_idle columns
is_compact_stage Looking columns = is_idle columns
is_compact_stage Closed columns = is_idle columns
is_compact_stage (Ended at) columns = is_idle columns
