-- Compaction line by line: between two lines it keeps only the tail of the epochs.
use Rattle.std.specs.Prelude.{ℕ, Bool, true, false, ◌+◌, List, [], ◌∷◌, ◌++◌, length, Option, Some, None, Result, Ok}
use Rattle.std.specs.Prelude.{Err, if◌then◌else◌}
use Rattle.crx_base.specs.meaning.AsRead.{ReadLine}
use Rattle.crx_base.specs.declared.fault.Fault.{Fault}
use Rattle.crx_rinex.specs.meaning.Observations.{Epoch}
use Rattle.crx_rinex.specs.meaning.Units.{Unit, HeaderLine, EventLine, EventRecord, Observation}
use Rattle.crx_header.specs.meaning.ObservationTypes.{Count}
use Rattle.crx_rinex.specs.meaning.EpochPlaces.{OpenEpoch, Beginning, EventBegins, EpochBegins, beginning_of, opened}
use Rattle.crx_rinex.specs.EpochPlaces.{EpochStep, Going, Whole, Faulty, whole_or_going, epoch_step, open_with}
use Rattle.crx_compact.specs.Tails.{Tail, tail_or_nothing}
use Rattle.crx_compact.specs.Steps.{lines_after_tail, tail_after, tail_written_after}
use Rattle.crx_base.specs.meaning.Choices.{Choices}
use Rattle.crx_filter.specs.meaning.Items.{Item, types_in_force}
use Rattle.crx_filter.specs.LineByLine.{Phase, InHeader, InEpoch, RunState, Made, Completes, Moves, Rejects}
use Rattle.crx_filter.specs.LineByLine.{made_of_line, Direction, state_of}
use Rattle.crx_filter.specs.meaning.Compacted.{epochs_accepted, is_interrupted, is_at_every, marked_epochs}
use Rattle.crx_header.specs.meaning.CompactHeader.{lines_before_header}
use Rattle.crx_filter.specs.meaning.Directions.{rinex_reading}

-- the state of the epochs: the next one's index, from 0; and the tail of the epochs before it, or none if the next
-- one is the first or follows an event or a warning
pub record Written : Type 0 where
  pub index : ℕ
  pub tail : Option Tail

-- ---- the outcome of a line

abbrev pub made_of_epoch_step : EpochStep → Made Epoch OpenEpoch
made_of_epoch_step (Going so_far) = Moves (InEpoch so_far)
made_of_epoch_step (Whole epoch) = Completes (Observation epoch)
made_of_epoch_step (Faulty fault) = Rejects fault

abbrev pub made_of_beginning : List Count → Result Beginning Fault → Made Epoch OpenEpoch
made_of_beginning types (Err fault) = Rejects fault
made_of_beginning types (Ok (EventBegins line)) = Completes (EventLine line)
made_of_beginning types (Ok (EpochBegins head)) = made_of_epoch_step (whole_or_going (opened types head))

-- the outcome of a line if an epoch or an event may begin
abbrev pub rinex_begins : {K : Type 0} → List Count → K → ReadLine → Made Epoch OpenEpoch
rinex_begins types kept line = made_of_line (λ content. made_of_beginning types (beginning_of content)) line

-- the outcome of a line in an epoch
abbrev pub rinex_continues : OpenEpoch → ReadLine → Made Epoch OpenEpoch
rinex_continues so_far line = made_of_epoch_step (epoch_step so_far line)

-- ---- the state, and the lines written

-- the tail that the next epoch continues from: empty if its index makes it a full epoch, or if no tail is kept
abbrev pub tail_before_epoch : RunState OpenEpoch Written → Tail
tail_before_epoch state = tail_written_after (is_at_every state.choices.every state.kept.index) state.kept.tail

-- the state after a unit: an event interrupts the epochs, a header line precedes them
abbrev pub written_kept : RunState OpenEpoch Written → Unit Epoch → Written
written_kept state (HeaderLine line) = record { index = state.kept.index; tail = None }
written_kept state (EventLine line) = record { index = state.kept.index; tail = None }
written_kept state (EventRecord line) = record { index = state.kept.index; tail = None }
written_kept state (Observation epoch) =
    record { index = state.kept.index + 1; tail = Some (tail_after (tail_before_epoch state) epoch) }

abbrev pub is_before_header : {O : Type 0} → Phase O → Bool
is_before_header (InHeader is_first) = is_first
is_before_header phase = false

-- the compact lines of a unit
abbrev pub compact_written : RunState OpenEpoch Written → Unit Epoch → List (List ℕ)
compact_written state (HeaderLine line) =
    lines_before_header state.choices.date (is_before_header state.phase) ++ line ∷ []
compact_written state (EventLine line) = line ∷ []
compact_written state (EventRecord line) = line ∷ []
compact_written state (Observation epoch) = lines_after_tail (tail_before_epoch state) epoch

-- compaction as a direction
abbrev pub compaction : Direction Epoch OpenEpoch Written
compaction = record {
  begins = rinex_begins;
  continues = rinex_continues;
  reserves_first = false;
  reserves_next = true;
  kept_after = written_kept;
  kept_open = λ kept. kept;
  emptied = λ kept. record { index = kept.index; tail = None };
  written = compact_written;
}

-- ---- the state after some lines

-- the state after the epochs of some items
abbrev pub written_of : Option ℕ → List (Item Epoch) → Written
written_of every items = record {
  index = epochs_accepted items;
  tail = if is_interrupted items then None else tail_or_nothing (marked_epochs every items);
}

-- the epoch that lines after some items leave open
abbrev pub rinex_open : List (Item Epoch) → List ReadLine → Option OpenEpoch
rinex_open items lines = open_with (types_in_force items) lines

-- the state of a compaction after some lines
abbrev pub compaction_state : Choices → List ReadLine → RunState OpenEpoch Written
compaction_state choices lines =
    state_of compaction rinex_open (written_of choices.every) choices (length lines) (rinex_reading choices.skip lines)
