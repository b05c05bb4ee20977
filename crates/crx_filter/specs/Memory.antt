-- The lines at which an engine may run out of memory: types lines that count, and lines of observation epochs.
use Rattle.std.specs.Prelude.{Bool, false, not, ◌&&◌}
use Rattle.std.specs.Option.{is_some}
use Rattle.crx_base.specs.meaning.AsRead.{ReadLine, Content, Overlong}
use Rattle.crx_header.specs.meaning.EpochColumns.{begins_epoch, is_event_line}
use Rattle.crx_header.specs.meaning.ObservationTypes.{count_of_types_line}
use Rattle.crx_filter.specs.LineByLine.{Phase, InFirstLines, InHeader, BetweenUnits, InEvent, InEpoch, LookingOn}
use Rattle.crx_filter.specs.LineByLine.{Closed, Ended}

-- whether a line that isn't too long may reserve memory in a phase: a types line, in the header and among the records
-- of some events; the first line of an epoch, if `first`; and another line of an epoch that doesn't begin with >, if
-- `next`
abbrev pub may_reserve : {O : Type 0} → Bool → Bool → Phase O → ReadLine → Bool
may_reserve first next phase Overlong = false
may_reserve first next (InFirstLines count) (Content line) = false
may_reserve first next (InHeader is_first) (Content line) = is_some (count_of_types_line line)
may_reserve first next BetweenUnits (Content line) = first && not (is_event_line line)
may_reserve first next (InEvent left counted) (Content line) = counted && is_some (count_of_types_line line)
may_reserve first next (InEpoch so_far) (Content line) = next && not (begins_epoch line)
may_reserve first next LookingOn (Content line) = first && (begins_epoch line && not (is_event_line line))
may_reserve first next Closed (Content line) = false
may_reserve first next (Ended at) (Content line) = false
