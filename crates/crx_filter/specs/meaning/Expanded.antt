-- The expansion of compact text: Hatanaka's Compact RINEX 3.0, with this project's profile.
-- Lists of items have the newest first.
use Rattle.std.specs.Prelude.{ℕ, Bool, ◌&&◌, ◌+◌, List, [], ◌∷◌, ◌==◌, length, drop, Some, None, Result, Ok, Err}
use Rattle.std.specs.Prelude.{if◌then◌else◌, map}
use Rattle.std.specs.Str.{bytes_eq}
use Rattle.crx_text.specs.meaning.Columns.{columns, without_blanks}
use Rattle.crx_base.specs.meaning.AsRead.{ReadLine, Content, Overlong, as_read}
use Rattle.crx_base.specs.meaning.Lines.{lines_of}
use Rattle.crx_base.specs.declared.fault.Fault.{Fault}
use Rattle.crx_base.specs.declared.fault.Fault.TheVariants.{NotCompact, BadProgLine, BadEpoch}
use Rattle.crx_rinex.specs.meaning.Observations.{Epoch}
use Rattle.crx_header.specs.meaning.Label.{has_label}
use Rattle.crx_header.specs.meaning.EpochColumns.{is_event_line, records_in}
use Rattle.crx_header.specs.meaning.ObservationTypes.{Count, is_types_line}
use Rattle.crx_rinex.specs.meaning.Places.{Place, Done, Fails, NeedsMore, then_place, first_line, one_line}
use Rattle.crx_rinex.specs.meaning.Units.{Unit, HeaderLine, EventLine, EventRecord, Observation, printed_unit}
use Rattle.crx_compact.specs.meaning.Expansion.{RawEpoch}
use Rattle.crx_compact.specs.meaning.CompactPlaces.{ReadEpoch, epoch_at}
use Rattle.crx_header.specs.declared.crinex.TheConstants.{CRINEX_VERSION, CRINEX_VERSION_LABEL, CRINEX_PROGRAM_LABEL}
use Rattle.crx_base.specs.meaning.Choices.{Choices}
use Rattle.crx_filter.specs.meaning.Items.{Item, Accepted, Warned, types_in_force, records_count_types}
use Rattle.crx_filter.specs.meaning.UnitPlaces.{unit_place}
use Rattle.crx_filter.specs.meaning.Reading.{WholeReading, whole_reading}
use Rattle.crx_runs.specs.meaning.Results.{FilterResult}
use Rattle.crx_filter.specs.meaning.Written.{result_of}

-- ---- the reader's state

-- whether an accepted record empties the reader's state: a types line does, if types lines count
abbrev pub empties_state : Bool → List ℕ → Bool
empties_state counts_types record_line = counts_types && is_types_line record_line

-- the raw epochs accepted since the reader's state was last emptied, newest first. A warning empties it, and so does
-- a types line among an event's records; an event without one leaves it
abbrev pub raws_kept : List (Item ReadEpoch) → List RawEpoch
raws_kept [] = []
raws_kept (Accepted (HeaderLine line) ∷ before) = []
raws_kept (Accepted (EventLine line) ∷ before) = raws_kept before
raws_kept (Accepted (EventRecord line) ∷ before) =
    if empties_state (records_count_types before) line then [] else raws_kept before
raws_kept (Accepted (Observation read) ∷ before) = read.raw ∷ raws_kept before
raws_kept (Warned at ∷ before) = []

-- ---- places

-- an event's first line, or its fault
abbrev pub event_line : {E : Type 0} → List ℕ → Result (Unit E) Fault
event_line line = elim (records_in line) [ Some count ↦ Ok (EventLine line) | None ↦ Err BadEpoch ]

-- an observation epoch as a unit
abbrev pub as_observation : {E : Type 0} → Place E → Place (Unit E)
as_observation (Done epoch count) = Done (Observation epoch) count
as_observation (Fails offset fault) = Fails offset fault
as_observation NeedsMore = NeedsMore

-- the unit that these lines begin with, if an epoch or an event may begin there. A line's own bytes show whether it
-- is an event's first line
abbrev pub compact_epoch_place : List Count → List RawEpoch → List ReadLine → Place (Unit ReadEpoch)
compact_epoch_place types older [] = NeedsMore
compact_epoch_place types older (Overlong ∷ lines) = as_observation (epoch_at types older (Overlong ∷ lines))
compact_epoch_place types older (Content line ∷ lines) =
    if is_event_line line then one_line (event_line line)
    else as_observation (epoch_at types older (Content line ∷ lines))

-- the unit that these lines of compact text begin with, from the third line on, after these items
abbrev pub compact_place : List (Item ReadEpoch) → List ReadLine → Place (Unit ReadEpoch)
compact_place before lines = unit_place
    (λ (items : List (Item ReadEpoch)). compact_epoch_place (types_in_force items) (raws_kept items)) before lines

-- ---- the first two lines

-- line 1: the version in columns 1 to 20, and the label
abbrev pub crinex_version : List ℕ → Result (List ℕ) Fault
crinex_version line = if bytes_eq (without_blanks (columns line 1 20)) CRINEX_VERSION
    && has_label CRINEX_VERSION_LABEL line then Ok line else Err NotCompact

-- line 2: the label
abbrev pub crinex_program : List ℕ → Result (List ℕ) Fault
crinex_program line = if has_label CRINEX_PROGRAM_LABEL line then Ok line else Err BadProgLine

-- the two lines before the header
abbrev pub first_lines : List ReadLine → Place (List (List ℕ))
first_lines lines =
    then_place (first_line lines crinex_version) lines (λ version others.
    then_place (first_line others crinex_program) others (λ program rest.
    Done (version ∷ program ∷ []) 0))

-- the fault if the input ends after `count` of them
abbrev pub fault_in_first_lines : ℕ → Fault
fault_in_first_lines count = if count == 0 then NotCompact else BadProgLine

-- ---- whole files

-- the reading of all lines of compact text. A fault in the first two ends it, whether faults are skipped or not
abbrev pub whole_compact : Bool → List ReadLine → WholeReading ReadEpoch
whole_compact skip lines =
    elim (first_lines lines) [
      | Done two count ↦ whole_reading compact_place skip (count + 1) (drop count lines)
      | Fails offset fault ↦ record { items = []; fault = Some (record { line = offset + 1; fault = fault }) }
      | NeedsMore ↦ record {
        items = [];
        fault = Some (record { line = length lines + 1; fault = fault_in_first_lines (length lines) });
      }
    ]

-- a unit of compact text as the unit of RINEX that it encodes
abbrev pub rinex_unit : Unit ReadEpoch → Unit Epoch
rinex_unit (HeaderLine line) = HeaderLine line
rinex_unit (EventLine line) = EventLine line
rinex_unit (EventRecord line) = EventRecord line
rinex_unit (Observation read) = Observation read.epoch

-- the lines of a unit in RINEX
abbrev pub expanded_unit : List (Item ReadEpoch) → Unit ReadEpoch → List (List ℕ)
expanded_unit before unit = printed_unit (rinex_unit unit)

-- the expansion of `lines`, all lines of an input. The only option that it uses is whether faults are skipped
abbrev pub expansion_result : Choices → List ReadLine → FilterResult
expansion_result choices lines = result_of expanded_unit (whole_compact choices.skip lines)

-- the expansion of an input
abbrev pub expanded : List ℕ → Choices → FilterResult
expanded input choices = expansion_result choices (map as_read (lines_of input))
