-- The unit at a line of an observation file. The header and an event's records are read in the same way in RINEX and
-- in compact text: RINEX 3.05, tables A2 and A3, with this project's profile.
use Rattle.std.specs.Prelude.{ℕ, Bool, List, Option, Some, None, Result, Ok, Err, if◌then◌else◌, nat_lt, not}
use Rattle.crx_base.specs.meaning.AsRead.{ReadLine}
use Rattle.crx_base.specs.declared.fault.Fault.{Fault}
use Rattle.crx_base.specs.declared.fault.Fault.TheVariants.{BadTypesLine}
use Rattle.crx_rinex.specs.meaning.Places.{Place, first_line}
use Rattle.crx_rinex.specs.meaning.Units.{Unit, HeaderLine, EventRecord}
use Rattle.crx_header.specs.meaning.Header.{first_header_fault}
use Rattle.crx_header.specs.meaning.ObservationTypes.{is_bad_types_line}
use Rattle.crx_filter.specs.meaning.Items.{Item, is_at_start, header_has_ended, records_left, records_count_types}

-- a unit, or the fault of its line
abbrev pub unless_wrong : {E : Type 0} → Unit E → Option Fault → Result (Unit E) Fault
unless_wrong unit None = Ok unit
unless_wrong unit (Some fault) = Err fault

-- the fault of a types line whose letter or count is wrong
abbrev pub types_fault : List ℕ → Option Fault
types_fault line = if is_bad_types_line line then Some BadTypesLine else None

-- the first of two faults
abbrev pub first_fault : Option Fault → Option Fault → Option Fault
first_fault None later = later
first_fault (Some fault) later = Some fault

-- the fault of a header line; the first header line has checks of its own
abbrev pub header_line_fault : Bool → List ℕ → Option Fault
header_line_fault is_first line = first_fault (if is_first then first_header_fault line else None) (types_fault line)

-- a header line, the first one or a later one
abbrev pub header_line : {E : Type 0} → Bool → List ℕ → Result (Unit E) Fault
header_line is_first line = unless_wrong (HeaderLine line) (header_line_fault is_first line)

-- an event's record. It is copied unchecked, except types lines if these count
abbrev pub event_record : {E : Type 0} → Bool → List ℕ → Result (Unit E) Fault
event_record counts_types line = unless_wrong (EventRecord line) (if counts_types then types_fault line else None)

-- the unit that these lines begin with, after these items: a header line, an event's record, or a unit that
-- `beginning` finds
abbrev pub unit_place : {E : Type 0}
    → (List (Item E) → List ReadLine → Place (Unit E)) → List (Item E) → List ReadLine → Place (Unit E)
unit_place beginning before lines =
    if not (header_has_ended before) then first_line lines (header_line (is_at_start before))
    else if nat_lt 0 (records_left before) then first_line lines (event_record (records_count_types before))
    else beginning before lines
