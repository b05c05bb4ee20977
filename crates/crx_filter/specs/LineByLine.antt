-- A run line by line: the state between two lines, and the state after one more line. Both directions work like this,
-- and their differences are in a `Direction`. O is the state of an open epoch, K the state kept from the epochs
-- before, and U the data of a whole epoch.
use Rattle.std.specs.Prelude.{ℕ, zero, suc, Bool, true, false, not, ◌&&◌, ◌+◌, ◌-◌, List, [], ◌∷◌, Option, Some, None}
use Rattle.std.specs.Prelude.{Result, Ok, Err, if◌then◌else◌}
use Rattle.crx_base.specs.meaning.AsRead.{ReadLine, Content, Overlong}
use Rattle.crx_base.specs.declared.fault.At.{At}
use Rattle.crx_base.specs.declared.fault.Fault.{Fault}
use Rattle.crx_base.specs.declared.fault.Fault.TheVariants.{LineTooLong, MissingVersion, NoEndOfHeader, Truncated}
use Rattle.crx_header.specs.meaning.Header.{is_end_of_header}
use Rattle.crx_header.specs.meaning.ObservationTypes.{Count}
use Rattle.crx_header.specs.ObservationTypes.{with_line}
use Rattle.crx_rinex.specs.meaning.Units.{Unit, HeaderLine, EventLine, EventRecord, Observation}
use Rattle.crx_base.specs.meaning.Choices.{Choices}
use Rattle.crx_filter.specs.meaning.Items.{Item, is_at_start, header_has_ended, records_announced, records_left}
use Rattle.crx_filter.specs.meaning.Items.{counts_types, records_count_types, types_in_force}
use Rattle.crx_filter.specs.meaning.UnitPlaces.{header_line, event_record}
use Rattle.crx_filter.specs.meaning.Reading.{Reading, AtFault, AtLines, Looking, can_go_on}
use Rattle.crx_base.specs.meaning.Faults.{is_skippable}
use Rattle.crx_filter.specs.meaning.Expanded.{crinex_version, crinex_program, fault_in_first_lines}

-- ---- the state between two lines

-- the phase of a run: in the first two lines of compact text, with how many of them have been read; in the header,
-- before its first line or later; between two units; in an event, with how many records are still to be read, and
-- whether types lines count among them; in an epoch; after a warning, looking for a line that begins with >; after
-- the end of the input; or ended by a fault
pub data Phase (O : Type 0) : Type 0 where
  InFirstLines : ℕ → Phase O
  InHeader : Bool → Phase O
  BetweenUnits : Phase O
  InEvent : ℕ → Bool → Phase O
  InEpoch : O → Phase O
  LookingOn : Phase O
  Closed : Phase O
  Ended : At → Phase O

-- the user's options, the last line's number, the phase, the observation types in force, and the state of the epochs
pub record RunState (O K : Type 0) : Type 0 where
  pub choices : Choices
  pub number : ℕ
  pub phase : Phase O
  pub types : List Count
  pub kept : K

-- ---- the outcome of one more line

-- the outcome of a line: it completes a unit; it moves to another phase, with no unit; it has a fault; or it repeats
-- the fault that ended the run
pub data Made (U O : Type 0) : Type 0 where
  Completes : Unit U → Made U O
  Moves : Phase O → Made U O
  Rejects : Fault → Made U O
  Repeats : At → Made U O

-- the differences between the two directions: the outcome of a line if an epoch or an event may begin; its outcome in
-- an epoch; whether the first line of an epoch may reserve memory, and whether another may; the state after a unit,
-- while an epoch is open, and after a fault; and the lines written for a unit
pub record Direction (U O K : Type 0) : Type 0 where
  pub begins : List Count → K → ReadLine → Made U O
  pub continues : O → ReadLine → Made U O
  pub reserves_first : Bool
  pub reserves_next : Bool
  pub kept_after : RunState O K → Unit U → K
  pub kept_open : K → K
  pub emptied : K → K
  pub written : RunState O K → Unit U → List (List ℕ)

-- the outcome of a line by its content; a line that is too long is a fault
abbrev pub made_of_line : {U O : Type 0} → (List ℕ → Made U O) → ReadLine → Made U O
made_of_line make Overlong = Rejects LineTooLong
made_of_line make (Content line) = make line

-- a unit of one line, or the line's fault
abbrev pub made_of_unit : {U O : Type 0} → Result (Unit U) Fault → Made U O
made_of_unit (Ok unit) = Completes unit
made_of_unit (Err fault) = Rejects fault

-- another phase, or the line's fault
abbrev pub moved_to : {U O : Type 0} → Phase O → Result (List ℕ) Fault → Made U O
moved_to phase (Ok line) = Moves phase
moved_to phase (Err fault) = Rejects fault

-- the outcome of the first line of compact text, or of the second
abbrev pub made_of_first_lines : {U O : Type 0} → ℕ → List ℕ → Made U O
made_of_first_lines zero line = moved_to (InFirstLines 1) (crinex_version line)
made_of_first_lines (suc count) line = moved_to (InHeader true) (crinex_program line)

-- the outcome of a line in a phase
abbrev pub made_in : {U O K : Type 0} → Direction U O K → Phase O → List Count → K → ReadLine → Made U O
made_in direction (InFirstLines count) types kept line = made_of_line (made_of_first_lines count) line
made_in direction (InHeader is_first) types kept line =
    made_of_line (λ content. made_of_unit (header_line is_first content)) line
made_in direction BetweenUnits types kept line = direction.begins types kept line
made_in direction (InEvent left counted) types kept line =
    made_of_line (λ content. made_of_unit (event_record counted content)) line
made_in direction (InEpoch so_far) types kept line = direction.continues so_far line
made_in direction LookingOn types kept line =
    if can_go_on line then direction.begins types kept line else Moves LookingOn
made_in direction Closed types kept line = Moves Closed
made_in direction (Ended at) types kept line = Repeats at

-- ---- after a unit

-- the phase with this number of records of an event still to be read
abbrev pub with_records_left : {O : Type 0} → ℕ → Bool → Phase O
with_records_left zero counted = BetweenUnits
with_records_left (suc left) counted = InEvent (suc left) counted

-- the phase after a record of the event
abbrev pub after_record : {O : Type 0} → Phase O → Phase O
after_record (InEvent left counted) = with_records_left (left - 1) counted
after_record phase = BetweenUnits

abbrev pub phase_after : {U O : Type 0} → Phase O → Unit U → Phase O
phase_after phase (HeaderLine line) = if is_end_of_header line then BetweenUnits else InHeader false
phase_after phase (EventLine line) = with_records_left (records_announced line) (counts_types line)
phase_after phase (EventRecord line) = after_record phase
phase_after phase (Observation epoch) = BetweenUnits

-- whether types lines count among the records that are read now
abbrev pub are_types_counted : {O : Type 0} → Phase O → Bool
are_types_counted (InEvent left counted) = counted
are_types_counted phase = false

abbrev pub types_after : {U O : Type 0} → Phase O → List Count → Unit U → List Count
types_after phase types (HeaderLine line) = with_line types line
types_after phase types (EventLine line) = types
types_after phase types (EventRecord line) = if are_types_counted phase then with_line types line else types
types_after phase types (Observation epoch) = types

-- ---- the answer, the ready lines, and the state then

-- the answer to a line: nothing; lines are pending; a fault that is skipped, and whether reading resumes at this very
-- line, which is then fed again and doesn't count yet; or the fault that ended the run
pub data Answer : Type 0 where
  Quiet : Answer
  Ready : Answer
  Notice : At → Bool → Answer
  Failed : At → Answer

-- the warning after which a line is fed again
abbrev pub noticed_again : Answer → List At
noticed_again (Notice at true) = at ∷ []
noticed_again answer = []

-- the answer to a line that makes these lines ready; nothing if there are none
abbrev pub answer_of_lines : List (List ℕ) → Answer
answer_of_lines [] = Quiet
answer_of_lines (line ∷ lines) = Ready

pub record Step (O K : Type 0) : Type 0 where
  pub answer : Answer
  pub handed_out : List (List ℕ)
  pub next : RunState O K

-- faults may be skipped between two units, in an epoch, and after a warning
abbrev pub may_skip : {O : Type 0} → Phase O → Bool
may_skip BetweenUnits = true
may_skip (InEpoch so_far) = true
may_skip LookingOn = true
may_skip phase = false

abbrev pub is_in_epoch : {O : Type 0} → Phase O → Bool
is_in_epoch (InEpoch so_far) = true
is_in_epoch phase = false

-- whether a fault is skipped
abbrev pub is_skipped_in : {O K : Type 0} → RunState O K → Fault → Bool
is_skipped_in state fault = state.choices.skip && (may_skip state.phase && is_skippable fault)

-- the state of the epochs in a phase: an open epoch may hold it instead, and a fault empties it
abbrev pub kept_in : {U O K : Type 0} → Direction U O K → Phase O → K → K
kept_in direction (InEpoch so_far) kept = direction.kept_open kept
kept_in direction (Ended at) kept = direction.emptied kept
kept_in direction phase kept = kept

abbrev pub after_unit : {U O K : Type 0} → Direction U O K → RunState O K → Unit U → RunState O K
after_unit direction state unit = record {
  choices = state.choices;
  number = state.number + 1;
  phase = phase_after state.phase unit;
  types = types_after state.phase state.types unit;
  kept = direction.kept_after state unit;
}

-- the next line's phase, and the state of the epochs in it
abbrev pub with_phase : {U O K : Type 0} → Direction U O K → RunState O K → Phase O → RunState O K
with_phase direction state phase =
    record state { number = state.number + 1; phase = phase; kept = kept_in direction phase state.kept }

-- after a warning: a line that is to be fed again doesn't count yet
abbrev pub after_warning : {U O K : Type 0} → Direction U O K → RunState O K → Bool → RunState O K
after_warning direction state again = record state {
  number = if again then state.number else state.number + 1;
  phase = LookingOn;
  kept = direction.emptied state.kept;
}

-- the step of a line's fault: reading resumes at this very line if it is in an epoch and begins with >
abbrev pub failed_step : {U O K : Type 0} → Direction U O K → RunState O K → ReadLine → Fault → Step O K
failed_step direction state line fault =
    let at : At = record { line = state.number + 1; fault = fault } in
    let again : Bool = is_in_epoch state.phase && can_go_on line in
    if is_skipped_in state fault
    then record { answer = Notice at again; handed_out = []; next = after_warning direction state again }
    else record { answer = Failed at; handed_out = []; next = with_phase direction state (Ended at) }

abbrev pub step_of_made : {U O K : Type 0} → Direction U O K → RunState O K → ReadLine → Made U O → Step O K
step_of_made direction state line (Completes unit) = record {
  answer = answer_of_lines (direction.written state unit);
  handed_out = direction.written state unit;
  next = after_unit direction state unit;
}
step_of_made direction state line (Moves phase) =
    record { answer = Quiet; handed_out = []; next = with_phase direction state phase }
step_of_made direction state line (Rejects fault) = failed_step direction state line fault
step_of_made direction state line (Repeats at) =
    record { answer = Failed at; handed_out = []; next = record state { number = state.number + 1 } }

-- the step of one more line
abbrev pub state_next : {U O K : Type 0} → Direction U O K → RunState O K → ReadLine → Step O K
state_next direction state line =
    step_of_made direction state line (made_in direction state.phase state.types state.kept line)

-- ---- the end of the input

-- the fault that the end of the input means in a phase
abbrev pub fault_at_end_in : {O : Type 0} → Phase O → Option Fault
fault_at_end_in (InFirstLines count) = Some (fault_in_first_lines count)
fault_at_end_in (InHeader is_first) = Some (if is_first then MissingVersion else NoEndOfHeader)
fault_at_end_in BetweenUnits = None
fault_at_end_in (InEvent left counted) = Some Truncated
fault_at_end_in (InEpoch so_far) = Some Truncated
fault_at_end_in LookingOn = None
fault_at_end_in Closed = None
fault_at_end_in (Ended at) = None

-- the input has ended with a warning
abbrev pub closed_after_warning : {U O K : Type 0} → Direction U O K → RunState O K → RunState O K
closed_after_warning direction state = record state { phase = Closed; kept = direction.emptied state.kept }

-- the input has ended, with a fault or without; without one the lines `closing` become ready
abbrev pub end_step : {U O K : Type 0} → Direction U O K → List (List ℕ) → RunState O K → Option Fault → Step O K
end_step direction closing state None =
    record { answer = answer_of_lines closing; handed_out = closing; next = record state { phase = Closed } }
end_step direction closing state (Some fault) =
    let at : At = record { line = state.number + 1; fault = fault } in
    if is_skipped_in state fault
    then record { answer = Notice at false; handed_out = []; next = closed_after_warning direction state }
    else record {
      answer = Failed at;
      handed_out = [];
      next = record state { phase = Ended at; kept = direction.emptied state.kept };
    }

-- the step of the end of the input, with the lines that become ready if it has no fault. A fault that ended the run
-- is returned again
abbrev pub state_end_with : {U O K : Type 0} → Direction U O K → List (List ℕ) → RunState O K → Step O K
state_end_with direction closing state =
    elim (state.phase) [
      | Ended at ↦ record { answer = Failed at; handed_out = []; next = state }
      | phase ↦ end_step direction closing state (fault_at_end_in phase)
    ]

-- the same if no lines become ready
abbrev pub state_end : {U O K : Type 0} → Direction U O K → RunState O K → Step O K
state_end direction state = state_end_with direction [] state

-- ---- the state that a reading leaves

-- the phase between two units, in an epoch, or in an event
abbrev pub phase_in_body : {O : Type 0} → ℕ → Bool → Option O → Phase O
phase_in_body zero counted None = BetweenUnits
phase_in_body zero counted (Some so_far) = InEpoch so_far
phase_in_body (suc left) counted so_far = InEvent (suc left) counted

-- the phase after some items, by the epoch, if any, that the lines after them leave open
abbrev pub phase_after_items : {E O : Type 0} → List (Item E) → Option O → Phase O
phase_after_items items so_far = if not (header_has_ended items) then InHeader (is_at_start items)
    else phase_in_body (records_left items) (records_count_types items) so_far

-- the phase in which a reading stops, by the epoch that lines after some items leave open
abbrev pub phase_of : {E O : Type 0} → (List (Item E) → List ReadLine → Option O) → Reading E → Phase O
phase_of open_with r =
    elim (r.stop) [
      | AtFault at ↦ Ended at
      | AtLines number lines ↦ phase_after_items r.items (open_with r.items lines)
      | Looking number ↦ LookingOn
    ]

-- the state after `count` lines, by where their reading stops and by the epochs of its items
abbrev pub state_of : {E U O K : Type 0} → Direction U O K
    → (List (Item E) → List ReadLine → Option O) → (List (Item E) → K) → Choices → ℕ → Reading E → RunState O K
state_of direction open_with kept_of choices count r = record {
  choices = choices;
  number = count;
  phase = phase_of open_with r;
  types = types_in_force r.items;
  kept = kept_in direction (phase_of open_with r) (kept_of r.items);
}
