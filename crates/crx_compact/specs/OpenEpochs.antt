-- Compact text read line by line, by the tail: the state between two lines, and the step that the next line makes.
use Rattle.std.specs.Prelude.{◌≡◌, ◌≤◌, ◌+◌, ◌*◌, ⊤, length, IfSome, ℕ, suc, Bool, true, false, List, [], ◌∷◌}
use Rattle.std.specs.Prelude.{map, Option, Some, None, Result, Ok, Err, if◌then◌else◌, unwrap_or, slice_get, slice_set}
use Rattle.std.specs.List.{AllByRecursion}
use Rattle.std.specs.Option.{option_map}
use Rattle.crx_text.specs.Texts.{patched}
use Rattle.crx_base.specs.meaning.AsRead.{ReadLine, Content, Overlong}
use Rattle.crx_base.specs.declared.limits.TheConstants.{CLOCK_WIDTH, HEAD_WIDTH, NAME_WIDTH, ORDER_LIMIT}
use Rattle.crx_base.specs.declared.limits.TheConstants.{SATELLITES_LIMIT}
use Rattle.crx_base.specs.declared.fault.Fault.{Fault}
use Rattle.crx_base.specs.declared.fault.Fault.TheVariants.{LineTooLong, NotAnEpoch}
use Rattle.crx_rinex.specs.meaning.Observations.{Epoch}
use Rattle.crx_rinex.specs.meaning.Printing.{printed_epoch}
use Rattle.crx_header.specs.meaning.ObservationTypes.{Count}
use Rattle.crx_rinex.specs.meaning.Places.{Place, Done, Fails, NeedsMore}
use Rattle.crx_compact.specs.meaning.Sequences.{and_then}
use Rattle.crx_header.specs.meaning.EpochColumns.{begins_epoch}
use Rattle.crx_compact.specs.meaning.EpochText.{Satellite}
use Rattle.crx_compact.specs.meaning.Cells.{ReadCell}
use Rattle.crx_compact.specs.meaning.Past.{Past}
use Rattle.crx_compact.specs.meaning.CompactPlaces.{ReadEpoch, satellites_of_line, clock_line_read, epoch_against}
use Rattle.crx_compact.specs.ArcTails.{ArcTail, IsBoundedArc}
use Rattle.crx_compact.specs.Tails.{RowTail, Tail, IsBoundedRowTail, IsBoundedTail}
use Rattle.crx_compact.specs.Steps.{no_tail, raw_tail_after, tail_named}
use Rattle.crx_compact.specs.ArcSteps.{arc_of_code, value_of_code}
use Rattle.crx_compact.specs.HeldRows.{past_of_tail, row_held}
use Rattle.crx_compact.specs.Placing.{padded, satellite_of}
use Rattle.crx_compact.specs.ShownRows.{shown_epoch}

-- ---- an epoch after a tail

-- the tail that an epoch line is read after: the empty one if the line begins with >, otherwise the tail before it, or none
abbrev pub tail_for_line : Option Tail → List ℕ → Option Tail
tail_for_line tail line = if begins_epoch line then Some no_tail else tail

-- the observation epoch at the first of some lines, which begins no event, by the tail before it, or none
abbrev pub epoch_after : List Count → Option Tail → List ReadLine → Place ReadEpoch
epoch_after types tail lines = epoch_against types (λ line. option_map past_of_tail (tail_for_line tail line)) lines

-- ---- an open epoch

-- the clock's arc, before the clock line or after it
pub data OpenClock : Type 0 where
  Before : Option ArcTail → OpenClock
  After : Option ArcTail → OpenClock

abbrev pub arc_in : OpenClock → Option ArcTail
arc_in (Before arc) = arc
arc_in (After arc) = arc

-- whether the clock line has been read
abbrev pub has_come : OpenClock → Bool
has_come (Before arc) = false
has_come (After arc) = true

-- an epoch, and the tail after it
pub record HeldEpoch : Type 0 where
  pub epoch : Epoch
  pub tail : Tail

-- an open epoch, whose epoch line has been read, but not all its lines: its text, the clock's arc, a row for each of the text's satellites,
-- and the number of rows that have been read. These rows are as their lines left them; the others are as before their lines
pub record OpenRawEpoch : Type 0 where
  pub text : List ℕ
  pub clock : OpenClock
  pub rows : List RowTail
  pub count : ℕ

-- the tail of an open epoch so far
abbrev pub tail_so_far : OpenRawEpoch → Tail
tail_so_far begun = record { text = begun.text; clock = arc_in begun.clock; rows = begun.rows }

-- an open epoch by its tail so far: its clock line is expected
abbrev pub before_clock : Tail → OpenRawEpoch
before_clock tail = record { text = tail.text; clock = Before tail.clock; rows = tail.rows; count = 0 }

-- its clock line and `count` rows have been read
abbrev pub with_rows : Tail → ℕ → OpenRawEpoch
with_rows tail count = record { text = tail.text; clock = After tail.clock; rows = tail.rows; count = count }

-- the row whose line is expected; none if all have been read
abbrev pub awaited_row : OpenRawEpoch → Option RowTail
awaited_row begun = slice_get begun.rows begun.count

-- the step that a line makes: to an epoch that needs more lines, to a whole epoch, or to a fault
pub data RawStep : Type 0 where
  Going : OpenRawEpoch → RawStep
  Whole : HeldEpoch → RawStep
  Faulty : Fault → RawStep

-- whether a line is the last one of its epoch
abbrev pub makes_epoch : RawStep → Bool
makes_epoch (Going begun) = false
makes_epoch (Whole held) = true
makes_epoch (Faulty fault) = false

-- ---- the epoch line

-- the rows of an epoch's satellites before their lines, by the tail before the epoch
abbrev pub rows_before : Tail → List Satellite → List RowTail
rows_before before satellites = map (λ (s : Satellite). padded s (tail_named s.name before)) satellites

-- the tail with the text that an epoch line makes, and the rows of its satellites
abbrev pub tail_opened : Tail → List ℕ → List Satellite → Tail
tail_opened before line satellites =
    record { text = patched before.text line; clock = before.clock; rows = rows_before before satellites }

abbrev pub opened_raw : List Count → List ℕ → Option Tail → Result OpenRawEpoch Fault
opened_raw types line None = Err NotAnEpoch
opened_raw types line (Some before) =
    and_then (satellites_of_line types (past_of_tail before) line) (λ satellites.
    Ok (before_clock (tail_opened before line satellites)))

abbrev pub opening : Result OpenRawEpoch Fault → RawStep
opening (Ok begun) = Going begun
opening (Err fault) = Faulty fault

-- the step that an epoch line makes, by the tail before it, or none
abbrev pub first_step : List Count → Option Tail → ReadLine → RawStep
first_step types tail Overlong = Faulty LineTooLong
first_step types tail (Content line) = opening (opened_raw types line (tail_for_line tail line))

-- ---- the clock line and the satellite lines

-- the epoch that a tail shows with all its rows, and this tail
abbrev pub whole_epoch : Tail → HeldEpoch
whole_epoch tail = record { epoch = shown_epoch tail (length tail.rows); tail = tail }

-- an epoch with the clock and `count` rows: whole if no row is expected
abbrev pub whole_or_awaiting : Tail → ℕ → Option RowTail → RawStep
whole_or_awaiting tail count None = Whole (whole_epoch tail)
whole_or_awaiting tail count (Some row) = Going (with_rows tail count)

-- the step to `count` rows
abbrev pub step_with_rows : Tail → ℕ → RawStep
step_with_rows tail count = whole_or_awaiting tail count (slice_get tail.rows count)

-- the past of the clock line; only the clock's arc matters to it
abbrev pub past_of_clock : Option ArcTail → Past
past_of_clock arc =
    record {
      text = λ line. line;
      clock = λ code. value_of_code CLOCK_WIDTH code arc;
      value = λ name place code. Ok None;
      flags = λ name marks. marks;
    }

abbrev pub raw_step_with_clock : OpenRawEpoch → Result ReadCell Fault → RawStep
raw_step_with_clock begun (Err fault) = Faulty fault
raw_step_with_clock begun (Ok cell) =
    step_with_rows (record (tail_so_far begun) { clock = arc_of_code cell.code (arc_in begun.clock) }) begun.count

abbrev pub raw_step_with_row : OpenRawEpoch → Result RowTail Fault → RawStep
raw_step_with_row begun (Err fault) = Faulty fault
raw_step_with_row begun (Ok left) =
    step_with_rows (record (tail_so_far begun) { rows = slice_set begun.rows begun.count left })
    (suc begun.count)

abbrev pub row_step : OpenRawEpoch → Option RowTail → List ℕ → RawStep
row_step begun None line = Whole (whole_epoch (tail_so_far begun))
row_step begun (Some row) line = raw_step_with_row begun (row_held (Some row) (satellite_of row) line)

-- the clock line first, then one line for each row in turn; the epoch is whole if none is expected
abbrev pub line_step : OpenRawEpoch → OpenClock → List ℕ → RawStep
line_step begun (Before arc) line = raw_step_with_clock begun (clock_line_read (past_of_clock arc) line)
line_step begun (After arc) line = row_step begun (awaited_row begun) line

-- the step that the next line of an open epoch makes
abbrev pub next_step : OpenRawEpoch → ReadLine → RawStep
next_step begun Overlong = Faulty LineTooLong
next_step begun (Content line) = line_step begun begun.clock line

-- ---- all lines so far

-- the same place, with `f` of the thing that was read there
abbrev pub placed_as : {X Y : Type 0} → (X → Y) → Place X → Place Y
placed_as f (Done x count) = Done (f x) count
placed_as f (Fails offset fault) = Fails offset fault
placed_as f NeedsMore = NeedsMore

-- the tail after an epoch that was read, by the tail before it, or none
abbrev pub held_after : Option Tail → ReadEpoch → HeldEpoch
held_after tail read =
    record { epoch = read.epoch; tail = raw_tail_after (unwrap_or (tail_for_line tail read.raw.line) no_tail) read.raw }

-- the place of some lines by the step that the last of them makes; `count`: how many precede it
abbrev pub place_of_step : ℕ → RawStep → Place HeldEpoch
place_of_step count (Going begun) = NeedsMore
place_of_step count (Whole held) = Done held (suc count)
place_of_step count (Faulty fault) = Fails count fault

-- the place of some lines, step by step; `count`: how many precede them
abbrev pub place_of_steps : ℕ → RawStep → List ReadLine → Place HeldEpoch
place_of_steps count (Going begun) [] = NeedsMore
place_of_steps count (Going begun) (line ∷ lines) = place_of_steps (suc count) (next_step begun line) lines
place_of_steps count (Whole held) lines = Done held (suc count)
place_of_steps count (Faulty fault) lines = Fails count fault

abbrev pub place_by_steps : List Count → Option Tail → List ReadLine → Place HeldEpoch
place_by_steps types tail [] = NeedsMore
place_by_steps types tail (line ∷ lines) = place_of_steps 0 (first_step types tail line) lines

-- the open epoch that some lines make after a step, if they need more
abbrev pub open_raw_after : RawStep → List ReadLine → Option OpenRawEpoch
open_raw_after (Going begun) [] = Some begun
open_raw_after (Going begun) (line ∷ lines) = open_raw_after (next_step begun line) lines
open_raw_after (Whole held) lines = None
open_raw_after (Faulty fault) lines = None

-- the open epoch that some lines make, if they need more
abbrev pub open_raw_with : List Count → Option Tail → List ReadLine → Option OpenRawEpoch
open_raw_with types tail [] = None
open_raw_with types tail (line ∷ lines) = open_raw_after (first_step types tail line) lines

-- ---- the state of a reader of compact epochs

-- between two epochs, the tail of the block so far, or none; otherwise an open epoch
pub data ColumnsState : Type 0 where
  Idle : Option Tail → ColumnsState
  Reading : OpenRawEpoch → ColumnsState

-- the state after a step: a fault empties it
abbrev pub state_after : RawStep → ColumnsState
state_after (Going begun) = Reading begun
state_after (Whole held) = Idle (Some held.tail)
state_after (Faulty fault) = Idle None

abbrev pub is_idle : ColumnsState → Bool
is_idle (Idle tail) = true
is_idle (Reading begun) = false

-- whether a satellite's line is expected: the clock line has been read
abbrev pub awaits_row : ColumnsState → Bool
awaits_row (Idle tail) = false
awaits_row (Reading begun) = has_come begun.clock

-- the tail between two epochs
abbrev pub tail_held : ColumnsState → Option Tail
tail_held (Idle tail) = tail
tail_held (Reading begun) = None

-- the step that a line makes in a state; NotAnEpoch if no epoch is open
abbrev pub step_in : ColumnsState → ReadLine → RawStep
step_in (Reading begun) line = next_step begun line
step_in (Idle tail) line = Faulty NotAnEpoch

-- the state after a step: an epoch that needs more lines, or a whole one, which is returned
abbrev pub HasMade : RawStep → ColumnsState → Option Epoch → Type 0
HasMade step after None = (begun : OpenRawEpoch) × (step ≡ Going begun) × (after ≡ Reading begun)
HasMade step after (Some epoch) = (held : HeldEpoch)
    × (step ≡ Whole held) × (epoch ≡ held.epoch) × (after ≡ Idle (Some held.tail))

-- the same if a whole epoch is printed: its lines are complete
abbrev pub HasPrintedLines : RawStep → ColumnsState → Bool → List (List ℕ) → Type 0
HasPrintedLines step after false lines = HasMade step after None
HasPrintedLines step after true lines = (held : HeldEpoch)
    × (step ≡ Whole held) × (lines ≡ printed_epoch held.epoch) × (after ≡ Idle (Some held.tail))

-- ---- bounds

-- an open epoch within the limits: its text, the clock's arc, and at most the rows that an epoch may have, those that have been read among
-- them
pub record IsBoundedOpen (begun : OpenRawEpoch) : Type 0 where
  pub text : length begun.text ≤ HEAD_WIDTH + NAME_WIDTH * SATELLITES_LIMIT
  pub clock : IfSome (arc_in begun.clock) (IsBoundedArc ORDER_LIMIT)
  pub few : length begun.rows ≤ SATELLITES_LIMIT
  pub rows : AllByRecursion (IsBoundedRowTail ORDER_LIMIT) begun.rows
  pub come : begun.count ≤ length begun.rows

-- a step within the limits: to an open epoch, or to the tail after a whole one
abbrev pub IsBoundedStep : RawStep → Type 0
IsBoundedStep (Going begun) = IsBoundedOpen begun
IsBoundedStep (Whole held) = IsBoundedTail ORDER_LIMIT held.tail
IsBoundedStep (Faulty fault) = ⊤
