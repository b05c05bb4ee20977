-- Expansion line by line: between two lines it keeps only the tail of the epochs.
use Rattle.std.specs.Prelude.{Bool, true, false, List, [], ◌∷◌, length, Option, Some, None, if◌then◌else◌}
use Rattle.crx_base.specs.meaning.AsRead.{ReadLine, Content, Overlong}
use Rattle.crx_header.specs.meaning.EpochColumns.{is_event_line}
use Rattle.crx_rinex.specs.meaning.Places.{Done, Fails, NeedsMore}
use Rattle.crx_rinex.specs.meaning.Units.{Unit, HeaderLine, EventLine, EventRecord, Observation, printed_unit}
use Rattle.crx_header.specs.meaning.ObservationTypes.{Count}
use Rattle.crx_rinex.specs.meaning.Observations.{Epoch}
use Rattle.crx_compact.specs.meaning.CompactPlaces.{ReadEpoch}
use Rattle.crx_compact.specs.Tails.{Tail, tail_left}
use Rattle.crx_compact.specs.OpenEpochs.{OpenRawEpoch, HeldEpoch, RawStep, Going, Whole, Faulty, first_step, next_step}
use Rattle.crx_compact.specs.OpenEpochs.{open_raw_with}
use Rattle.crx_base.specs.meaning.Choices.{Choices}
use Rattle.crx_filter.specs.meaning.Items.{Item, types_in_force}
use Rattle.crx_filter.specs.LineByLine.{Phase, InFirstLines, InEpoch, RunState, Made, Completes, Moves, Rejects}
use Rattle.crx_filter.specs.LineByLine.{made_of_line}
use Rattle.crx_filter.specs.LineByLine.{made_of_unit, are_types_counted, Direction, state_of}
use Rattle.crx_filter.specs.meaning.Expanded.{raws_kept, empties_state, event_line, first_lines}
use Rattle.crx_filter.specs.meaning.Directions.{compact_reading}

-- ---- the outcome of a line

abbrev pub made_of_raw_step : RawStep → Made HeldEpoch OpenRawEpoch
made_of_raw_step (Going so_far) = Moves (InEpoch so_far)
made_of_raw_step (Whole held) = Completes (Observation held)
made_of_raw_step (Faulty fault) = Rejects fault

-- the outcome of a line if an epoch or an event may begin, by the tail of the epochs before, or none
abbrev pub compact_begins : List Count → Option Tail → ReadLine → Made HeldEpoch OpenRawEpoch
compact_begins types tail line =
    made_of_line (λ content. if is_event_line content then made_of_unit (event_line content)
    else made_of_raw_step (first_step types tail (Content content))) line

-- the outcome of a line in an epoch
abbrev pub compact_continues : OpenRawEpoch → ReadLine → Made HeldEpoch OpenRawEpoch
compact_continues so_far line = made_of_raw_step (next_step so_far line)

-- ---- the state, and the lines written

-- an accepted types line among an event's records empties the reader's state, and so does a header line
abbrev pub tail_kept : RunState OpenRawEpoch (Option Tail) → Unit HeldEpoch → Option Tail
tail_kept state (HeaderLine line) = None
tail_kept state (EventLine line) = state.kept
tail_kept state (EventRecord line) = if empties_state (are_types_counted state.phase) line then None else state.kept
tail_kept state (Observation held) = Some held.tail

-- a unit with its epoch
abbrev pub held_unit : Unit HeldEpoch → Unit Epoch
held_unit (HeaderLine line) = HeaderLine line
held_unit (EventLine line) = EventLine line
held_unit (EventRecord line) = EventRecord line
held_unit (Observation held) = Observation held.epoch

-- expansion as a direction; an open epoch holds the tail that its lines continue from
abbrev pub expansion : Direction HeldEpoch OpenRawEpoch (Option Tail)
expansion = record {
  begins = compact_begins;
  continues = compact_continues;
  reserves_first = true;
  reserves_next = false;
  kept_after = tail_kept;
  kept_open = λ tail. None;
  emptied = λ tail. None;
  written = λ state unit. printed_unit (held_unit unit);
}

-- ---- the state after some lines

-- the state after the epochs of some items
abbrev pub tail_of_items : List (Item ReadEpoch) → Option Tail
tail_of_items items = tail_left (raws_kept items)

-- whether the first of some lines begins an event, which leaves no epoch open
abbrev pub begins_event : List ReadLine → Bool
begins_event [] = false
begins_event (Overlong ∷ lines) = false
begins_event (Content line ∷ lines) = is_event_line line

-- the epoch that lines after some items leave open
abbrev pub compact_open : List (Item ReadEpoch) → List ReadLine → Option OpenRawEpoch
compact_open items lines = if begins_event lines then None
    else open_raw_with (types_in_force items) (tail_of_items items) lines

-- the first two lines have a phase of their own
abbrev pub phase_from_first_lines : {O : Type 0} → List ReadLine → Phase O → Phase O
phase_from_first_lines lines phase =
    elim (first_lines lines) [
      | Done two count ↦ phase
      | Fails offset fault ↦ phase
      | NeedsMore ↦ InFirstLines (length lines)
    ]

-- the state of an expansion after some lines
abbrev pub expansion_state : Choices → List ReadLine → RunState OpenRawEpoch (Option Tail)
expansion_state choices lines =
    let state : RunState OpenRawEpoch (Option Tail) =
    state_of expansion compact_open tail_of_items choices (length lines) (compact_reading choices.skip lines) in
    record state { phase = phase_from_first_lines lines state.phase }
