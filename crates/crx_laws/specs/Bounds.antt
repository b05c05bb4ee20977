-- The state between two lines is bounded, however long the input is.
use Rattle.std.specs.Prelude.{ℕ, ◌≡◌, ◌≤◌, ◌+◌, ◌*◌, ⊤, true, List, [], ◌∷◌, length, Option, IfSome}
use Rattle.std.specs.List.{AllByRecursion}
use Rattle.crx_base.specs.declared.limits.TheConstants.{LINE_LIMIT, SATELLITES_LIMIT, TYPES_LIMIT, HEAD_WIDTH}
use Rattle.crx_base.specs.declared.limits.TheConstants.{NAME_WIDTH, CELL_WIDTH, ORDER_LIMIT, WRITTEN_ORDER}
use Rattle.crx_base.specs.meaning.AsRead.{ReadLine, Content, Overlong}
use Rattle.crx_rinex.specs.meaning.Observations.{Row, Epoch}
use Rattle.crx_rinex.specs.meaning.Units.{Unit as FileUnit, HeaderLine, EventLine, EventRecord, Observation}
use Rattle.crx_rinex.specs.meaning.EpochPlaces.{OpenEpoch}
use Rattle.crx_header.specs.ObservationTypes.{AreCounts}
use Rattle.crx_header.specs.meaning.ObservationTypes.{system_letters}
use Rattle.crx_compact.specs.Tails.{Tail, IsBoundedTail}
use Rattle.crx_compact.specs.meaning.CompactPlaces.{ReadEpoch}
use Rattle.crx_compact.specs.OpenEpochs.{OpenRawEpoch, IsBoundedOpen}
use Rattle.crx_base.specs.meaning.Choices.{Choices, is_date}
use Rattle.crx_filter.specs.meaning.Items.{Item, Accepted, Warned}
use Rattle.crx_filter.specs.meaning.Compacted.{compact_unit}
use Rattle.crx_filter.specs.meaning.Directions.{rinex_reading}
use Rattle.crx_filter.specs.meaning.Expanded.{expanded_unit}
use Rattle.crx_filter.specs.meaning.Directions.{compact_reading}
use Rattle.crx_filter.specs.LineByLine.{Phase, InEpoch, RunState}
use Rattle.crx_filter.specs.CompactionByLine.{Written}

-- a row within the limits: its identifier, a value for each type, and two indicators
pub record IsBoundedRow (row : Row) : Type 0 where
  pub name : length row.name ≡ NAME_WIDTH
  pub values : length row.values ≤ TYPES_LIMIT
  pub flags : length row.flags ≤ 2 * TYPES_LIMIT

-- an open epoch within the limits: the types in force at its line, that line's columns, and at most as many rows as an
-- epoch may have
pub record IsBoundedEpoch (so_far : OpenEpoch) : Type 0 where
  pub systems : length so_far.types ≤ length system_letters
  pub counts : AreCounts so_far.types
  pub head : length so_far.head.head ≡ HEAD_WIDTH
  pub few : length so_far.rows ≤ SATELLITES_LIMIT
  pub rows : AllByRecursion IsBoundedRow so_far.rows

-- `P` is true of the epoch that is open in a phase, if one is
abbrev pub OfOpen : {O : Type 0} → (O → Type 0) → Phase O → Type 0
OfOpen P (InEpoch so_far) = P so_far
OfOpen P phase = ⊤

-- the state of a compaction: at most one count for each system; the state after the earlier epochs, with numbers up to
-- the order that is written; and an open epoch with at most as many rows as an epoch may have
pub record IsBoundedCompaction (state : RunState OpenEpoch Written) : Type 0 where
  pub systems : length state.types ≤ length system_letters
  pub counts : AreCounts state.types
  pub tail : IfSome state.kept.tail (IsBoundedTail WRITTEN_ORDER)
  pub open_epoch : OfOpen IsBoundedEpoch state.phase

-- the state of an expansion: as in a compaction, with numbers up to the highest order that is read
pub record IsBoundedExpansion (state : RunState OpenRawEpoch (Option Tail)) : Type 0 where
  pub systems : length state.types ≤ length system_letters
  pub counts : AreCounts state.types
  pub tail : IfSome state.kept (IsBoundedTail ORDER_LIMIT)
  pub open_epoch : OfOpen IsBoundedOpen state.phase

-- ---- borrowed lines

-- the lines of a unit are few enough to be borrowed, and none has more than `longest` bytes
pub record AreReadyToHandOut (longest : ℕ) (lines : List (List ℕ)) : Type 0 where
  pub few : length lines ≤ SATELLITES_LIMIT + 2
  pub short : AllByRecursion (λ (line : List ℕ). length line ≤ longest) lines

-- `P` is true of each accepted unit and the items before it
abbrev pub OfUnits : {E : Type 0} → (List (Item E) → FileUnit E → Type 0) → List (Item E) → Type 0
OfUnits P [] = ⊤
OfUnits P (Accepted unit ∷ before) = P before unit × OfUnits P before
OfUnits P (Warned at ∷ before) = OfUnits P before

-- the longest line of a unit in compact text: a line of an epoch has a code of 15 characters, a blank and two
-- indicators for each type
abbrev pub longest_of : FileUnit Epoch → ℕ
longest_of (HeaderLine line) = LINE_LIMIT
longest_of (EventLine line) = LINE_LIMIT
longest_of (EventRecord line) = LINE_LIMIT
longest_of (Observation epoch) = 18 * TYPES_LIMIT

-- a line that is read is within the length limit
abbrev pub IsNotTooLong : ReadLine → Type 0
IsNotTooLong (Content line) = length line ≤ LINE_LIMIT
IsNotTooLong Overlong = ⊤

-- the compact lines of each accepted unit can be borrowed, if no line that was read is too long
abbrev pub CompactIsReadyToHandOut : Choices → List ReadLine → Type 0
CompactIsReadyToHandOut choices lines =
    is_date choices.date ≡ true → AllByRecursion IsNotTooLong lines
    → OfUnits (λ before unit. AreReadyToHandOut (longest_of unit) (compact_unit choices before unit))
    (rinex_reading choices.skip lines).items

-- the longest line of a unit in RINEX: a line of an epoch has an identifier and, for each type, a cell with two
-- indicators
abbrev pub longest_printed : FileUnit ReadEpoch → ℕ
longest_printed (HeaderLine line) = LINE_LIMIT
longest_printed (EventLine line) = LINE_LIMIT
longest_printed (EventRecord line) = LINE_LIMIT
longest_printed (Observation read) = NAME_WIDTH + CELL_WIDTH * TYPES_LIMIT

-- the RINEX lines of each accepted unit can be borrowed, if no line that was read is too long
abbrev pub ExpandedIsReadyToHandOut : Choices → List ReadLine → Type 0
ExpandedIsReadyToHandOut choices lines =
    AllByRecursion IsNotTooLong lines
    → OfUnits (λ before unit. AreReadyToHandOut (longest_printed unit) (expanded_unit before unit))
    (compact_reading choices.skip lines).items
