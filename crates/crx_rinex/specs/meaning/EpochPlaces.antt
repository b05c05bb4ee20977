-- Observation epochs among the lines of a file, and epochs that are read in part: RINEX 3.05, table A3.
use Rattle.std.specs.Prelude.{ℕ, zero, suc, ◌-◌, List, [], ◌∷◌, ◌++◌, length, Result, Ok, Err, if◌then◌else◌}
use Rattle.crx_base.specs.meaning.AsRead.{ReadLine}
use Rattle.crx_base.specs.declared.fault.Fault.{Fault}
use Rattle.crx_base.specs.declared.fault.Fault.TheVariants.{RepeatedSatellite, Truncated}
use Rattle.crx_rinex.specs.meaning.Observations.{Row, Epoch}
use Rattle.crx_rinex.specs.meaning.Units.{Unit, EventLine, Observation}
use Rattle.crx_rinex.specs.meaning.Places.{Place, Done, then_place, first_line}
use Rattle.crx_rinex.specs.meaning.EpochLines.{HeadLine, EventHead, EpochHead, ObservationHead, head_of}
use Rattle.crx_header.specs.meaning.EpochColumns.{begins_epoch}
use Rattle.crx_rinex.specs.meaning.Epochs.{has_satellite}
use Rattle.crx_header.specs.meaning.ObservationTypes.{Count}
use Rattle.crx_rinex.specs.meaning.SatelliteLines.{row_of}

-- an epoch that is read in part: the counts of types in force, the epoch line's parts, and the rows so far
pub record OpenEpoch : Type 0 where
  pub types : List Count
  pub head : ObservationHead
  pub rows : List Row

-- an epoch of which only the epoch line is read
abbrev pub opened : List Count → ObservationHead → OpenEpoch
opened types head = record { types = types; head = head; rows = [] }

-- how many satellite lines are missing
abbrev pub rows_wanted : OpenEpoch → ℕ
rows_wanted so_far = so_far.head.count - length so_far.rows

-- the epoch of these rows
abbrev pub epoch_of : OpenEpoch → Epoch
epoch_of so_far = record { head = so_far.head.head; clock = so_far.head.clock; rows = so_far.rows }

-- one more row, at the end
abbrev pub with_next_row : OpenEpoch → Row → OpenEpoch
with_next_row so_far row = record so_far { rows = so_far.rows ++ row ∷ [] }

-- a row whose satellite the epoch doesn't have yet
abbrev pub row_if_new : List Row → Result Row Fault → Result Row Fault
row_if_new rows (Err fault) = Err fault
row_if_new rows (Ok row) = if has_satellite row.name rows then Err RepeatedSatellite else Ok row

-- the reading of a line where an epoch's next satellite line is expected: a new epoch line cuts the epoch off
abbrev pub next_row : OpenEpoch → List ℕ → Result Row Fault
next_row so_far line = if begins_epoch line then Err Truncated else row_if_new so_far.rows (row_of so_far.types line)

-- the row at the first of some lines
abbrev pub row_at : OpenEpoch → List ReadLine → Place Row
row_at so_far lines = first_line lines (next_row so_far)

-- the epoch after `count` more rows
abbrev pub rows_at : OpenEpoch → ℕ → List ReadLine → Place Epoch
rows_at so_far zero lines = Done (epoch_of so_far) 0
rows_at so_far (suc count) lines =
    then_place (row_at so_far lines) lines (λ row rest. rows_at (with_next_row so_far row) count rest)

-- the epoch after all rows that its line announces
abbrev pub rest_at : OpenEpoch → List ReadLine → Place Epoch
rest_at so_far lines = rows_at so_far (rows_wanted so_far) lines

-- ---- where an epoch or an event may begin

-- the first line of an event, or of an observation epoch
pub data Beginning : Type 0 where
  EventBegins : List ℕ → Beginning
  EpochBegins : ObservationHead → Beginning

abbrev pub begun_by : List ℕ → Result HeadLine Fault → Result Beginning Fault
begun_by line (Err fault) = Err fault
begun_by line (Ok (EventHead flag count)) = Ok (EventBegins line)
begun_by line (Ok (EpochHead head count clock)) =
    Ok (EpochBegins (record { head = head; count = count; clock = clock }))

abbrev pub beginning_of : List ℕ → Result Beginning Fault
beginning_of line = begun_by line (head_of line)

-- an event's first line is a unit of its own; an observation epoch has its rows after its line
abbrev pub unit_begun : List Count → Beginning → List ReadLine → Place (Unit Epoch)
unit_begun types (EventBegins line) lines = Done (EventLine line) 0
unit_begun types (EpochBegins head) lines =
    then_place (rest_at (opened types head) lines) lines (λ epoch rest. Done (Observation epoch) 0)

-- the unit at a place where an epoch or an event may begin
abbrev pub epoch_place : List Count → List ReadLine → Place (Unit Epoch)
epoch_place types lines = then_place (first_line lines beginning_of) lines (unit_begun types)
