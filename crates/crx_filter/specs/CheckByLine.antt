-- A check line by line: its state after some lines, and the state after one more line. It holds only the state of the
-- reading and four totals. Lists of items have the newest first.
use Rattle.std.specs.Prelude.{ℕ, Bool, false, ◌+◌, List, [], ◌∷◌, ◌++◌, length, map, Option, Some, None, if◌then◌else◌}
use Rattle.crx_base.specs.meaning.Lines.{InputLine}
use Rattle.crx_base.specs.meaning.AsRead.{ReadLine, as_read}
use Rattle.crx_rinex.specs.meaning.Observations.{Epoch, observations_in}
use Rattle.crx_rinex.specs.meaning.Units.{Unit, HeaderLine, EventLine, EventRecord, Observation, printed_unit}
use Rattle.crx_rinex.specs.meaning.Printing.{printed_epoch}
use Rattle.crx_rinex.specs.Printing.{last_line}
use Rattle.crx_rinex.specs.meaning.EpochPlaces.{OpenEpoch, epoch_of}
use Rattle.crx_base.specs.meaning.Choices.{Choices}
use Rattle.crx_filter.specs.meaning.Items.{Item, Accepted, Warned, is_at_start}
use Rattle.crx_filter.specs.meaning.Reading.{Reading}
use Rattle.crx_filter.specs.meaning.Compacted.{epochs_accepted}
use Rattle.crx_filter.specs.meaning.Directions.{rinex_reading}
use Rattle.crx_filter.specs.LineByLine.{Phase, InEpoch, RunState, Made, Completes, Moves, Rejects, Repeats, Direction, Step}
use Rattle.crx_filter.specs.LineByLine.{made_in, state_next, state_of, phase_of}
use Rattle.crx_filter.specs.CompactionByLine.{rinex_begins, rinex_continues, rinex_open, is_before_header}
use Rattle.crx_filter.specs.meaning.Standard.{Findings, printed_items, version_in, events_accepted}
use Rattle.crx_filter.specs.meaning.Standard.{observations_accepted, is_standard_line, first_not_standard}

-- ---- the units so far

-- the version in the first header line, and how many epochs, events and observations were accepted
pub record Totals : Type 0 where
  pub version : List ℕ
  pub epochs : ℕ
  pub events : ℕ
  pub observations : ℕ

-- the totals after a unit is accepted. `is_first`: it is the header's first line
abbrev pub totals_with : Totals → Bool → Unit Epoch → Totals
totals_with totals is_first (HeaderLine line) =
    record totals { version = if is_first then version_in line else totals.version }
totals_with totals is_first (EventLine line) = record totals { events = totals.events + 1 }
totals_with totals is_first (EventRecord line) = totals
totals_with totals is_first (Observation epoch) =
    record totals { epochs = totals.epochs + 1; observations = totals.observations + observations_in epoch }

abbrev pub totals_after : RunState OpenEpoch Totals → Unit Epoch → Totals
totals_after state unit = totals_with state.kept (is_before_header state.phase) unit

-- the totals after a line with this outcome
abbrev pub totals_made : Totals → Bool → Made Epoch OpenEpoch → Totals
totals_made totals is_first (Completes unit) = totals_with totals is_first unit
totals_made totals is_first (Moves phase) = totals
totals_made totals is_first (Rejects fault) = totals
totals_made totals is_first (Repeats at) = totals

-- a check's reading as a direction: it reads as a compaction does, keeps the totals, and a unit's lines are as RINEX
-- prints them
abbrev pub checking : Direction Epoch OpenEpoch Totals
checking = record {
  begins = rinex_begins;
  continues = rinex_continues;
  reserves_first = false;
  reserves_next = false;
  kept_after = totals_after;
  kept_open = λ kept. kept;
  emptied = λ kept. kept;
  written = λ state. printed_unit;
}

-- a check as an engine's direction: before the end of the input it makes no line ready
abbrev pub check_by_line : Direction Epoch OpenEpoch Totals
check_by_line = record checking { written = λ state unit. [] }

-- the version in the first header line
abbrev pub version_accepted : List (Item Epoch) → List ℕ
version_accepted [] = []
version_accepted (Accepted (HeaderLine line) ∷ before) =
    if is_at_start before then version_in line else version_accepted before
version_accepted (Accepted (EventLine line) ∷ before) = version_accepted before
version_accepted (Accepted (EventRecord line) ∷ before) = version_accepted before
version_accepted (Accepted (Observation epoch) ∷ before) = version_accepted before
version_accepted (Warned at ∷ before) = version_accepted before

abbrev pub totals_of : List (Item Epoch) → Totals
totals_of items = record {
  version = version_accepted items;
  epochs = epochs_accepted items;
  events = events_accepted items;
  observations = observations_accepted items;
}

-- ---- standard lines

-- the lines of an open epoch, as RINEX prints them
abbrev pub printed_open : Phase OpenEpoch → List (List ℕ)
printed_open (InEpoch so_far) = printed_epoch (epoch_of so_far)
printed_open phase = []

-- the printed lines for some lines: those of the units, and of the open epoch
abbrev pub printed_so_far : List InputLine → List (List ℕ)
printed_so_far lines =
    let r : Reading Epoch = rinex_reading false (map as_read lines) in
    printed_items r.items ++ printed_open (phase_of rinex_open r)

-- the printed lines of the unit or the open epoch that a line belongs to; that line is the last of them
abbrev pub printed_made : Made Epoch OpenEpoch → List (List ℕ)
printed_made (Completes unit) = printed_unit unit
printed_made (Moves phase) = printed_open phase
printed_made (Rejects fault) = []
printed_made (Repeats at) = []

-- the number of the first line that isn't standard, after one more line
abbrev pub earliest : Option ℕ → Bool → ℕ → Option ℕ
earliest (Some first) is_standard number = Some first
earliest None is_standard number = if is_standard then None else Some number

-- ---- the state

-- the state of the reading, with the totals; and the number of the first line that isn't standard, if there is one
pub record CheckState : Type 0 where
  pub reading : RunState OpenEpoch Totals
  pub not_standard : Option ℕ

-- a check has no options, and never skips a fault
abbrev pub no_choices : Choices
no_choices = record { every = None; skip = false; date = [] }

-- the state of a check's reading after some lines
abbrev pub check_reading : List ReadLine → RunState OpenEpoch Totals
check_reading lines = state_of checking rinex_open totals_of no_choices (length lines) (rinex_reading false lines)

-- the state of a check after some lines
abbrev pub check_state : List InputLine → CheckState
check_state lines = record {
  reading = state_of checking rinex_open totals_of no_choices (length lines) (rinex_reading false (map as_read lines));
  not_standard = first_not_standard 1 lines (printed_so_far lines);
}

-- the step of the reading
abbrev pub check_step : CheckState → InputLine → Step OpenEpoch Totals
check_step before line = state_next checking before.reading (as_read line)

-- whether a line is standard, by its outcome
abbrev pub is_standard_after : CheckState → InputLine → Bool
is_standard_after before line = is_standard_line line (last_line
    (printed_made (made_in checking before.reading.phase before.reading.types before.reading.kept (as_read line))))

-- the state after one more line
abbrev pub check_next : CheckState → InputLine → CheckState
check_next before line = record {
  reading = (check_step before line).next;
  not_standard = earliest before.not_standard (is_standard_after before line) (before.reading.number + 1);
}

-- the findings of a check at the end, by its state
abbrev pub found_by : CheckState → Findings
found_by end = record {
  version = end.reading.kept.version;
  systems = end.reading.types;
  epochs = end.reading.kept.epochs;
  events = end.reading.kept.events;
  observations = end.reading.kept.observations;
  not_standard = end.not_standard;
}
