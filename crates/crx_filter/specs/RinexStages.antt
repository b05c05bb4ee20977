-- The epoch that a reader of RINEX holds open.
use Rattle.std.specs.Prelude.{Bool, true, false, ◌&&◌, ◌==◌, ℕ, List, [], Option, Some, None, length, nat_lt}
use Rattle.crx_rinex.specs.meaning.Observations.{Row}
use Rattle.crx_rinex.specs.meaning.EpochLines.{ObservationHead}
use Rattle.crx_rinex.specs.meaning.EpochPlaces.{OpenEpoch}
use Rattle.crx_header.specs.meaning.ObservationTypes.{Count}
use Rattle.crx_filter.specs.declared.stage.Stage.{Stage}
use Rattle.crx_filter.specs.declared.stage.Stage.TheVariants.{FirstLines, Header, Between, Event, Open, Looking}
use Rattle.crx_filter.specs.declared.stage.Stage.TheVariants.{Closed}
use Rattle.crx_filter.specs.declared.stage.Stage.TheVariants.{Ended}

-- an open epoch, by its line and the rows read so far
abbrev pub open_epoch : List Count → Option ObservationHead → List Row → Option OpenEpoch
open_epoch types None rows = None
open_epoch types (Some head) rows = Some (record { types = types; head = head; rows = rows })

-- whether a row of an open epoch is expected
abbrev pub is_open_stage : Stage → Bool
is_open_stage Open = true
is_open_stage stage = false

-- the rows of the open epoch
abbrev pub rows_open : Stage → List Row → List Row
rows_open Open rows = rows
rows_open stage rows = []

-- `count` rows have been read of an epoch that expects more
abbrev pub wants_rows : Option ObservationHead → ℕ → List Row → Bool
wants_rows None count rows = false
wants_rows (Some head) count rows = (count == length rows) && nat_lt count head.count

-- RINEX begins with its header; and in the stage `Open` an epoch is open that expects rows
abbrev pub is_rinex_stage : Stage → Option ObservationHead → ℕ → List Row → Bool
is_rinex_stage (FirstLines lines) head count rows = false
is_rinex_stage Open head count rows = wants_rows head count rows
is_rinex_stage (Header is_first) head count rows = true
is_rinex_stage Between head count rows = true
is_rinex_stage (Event left counted) head count rows = true
is_rinex_stage Looking head count rows = true
is_rinex_stage Closed head count rows = true
is_rinex_stage (Ended at) head count rows = true
