-- Reading an observation epoch of compact text (Hatanaka's Compact RINEX 3.0, epoch line, clock line, satellite lines). The checks of each
-- line, and their order, are this project's profile.
use Rattle.std.specs.Prelude.{ℕ, ◌+◌, ◌*◌, Bool, ◌&&◌, List, [], ◌∷◌, map, length, drop, Option}
use Rattle.std.specs.Prelude.{Result, Ok, Err, if◌then◌else◌}
use Rattle.std.specs.List.{list_all}
use Rattle.crx_text.specs.meaning.Columns.{columns, is_blank, without_end_blanks}
use Rattle.crx_text.specs.meaning.Codes.{code_of}
use Rattle.crx_base.specs.meaning.AsRead.{ReadLine}
use Rattle.crx_base.specs.declared.limits.TheConstants.{HEAD_WIDTH, NAME_WIDTH}
use Rattle.crx_base.specs.declared.fault.Fault.{Fault}
use Rattle.crx_base.specs.declared.fault.Fault.TheVariants.{NotAnEpoch, BadEpoch, BadClock, BadFlags, Truncated}
use Rattle.crx_rinex.specs.meaning.Observations.{Row, Epoch}
use Rattle.crx_header.specs.meaning.ObservationTypes.{Count}
use Rattle.crx_header.specs.meaning.InOrder.{◌otherwise◌next◌, ◌or_else◌with◌}
use Rattle.crx_rinex.specs.meaning.Places.{Place, Done, then_place, first_line}
use Rattle.crx_compact.specs.meaning.Sequences.{and_then}
use Rattle.crx_header.specs.meaning.EpochColumns.{begins_epoch, epoch_count}
use Rattle.crx_base.specs.meaning.Lines.{is_printable}
use Rattle.crx_compact.specs.meaning.EpochText.{names_in, Satellite, satellites_named}
use Rattle.crx_compact.specs.meaning.Expansion.{RawRow, RawEpoch}
use Rattle.crx_compact.specs.meaning.Past.{Past, past_of_line}
use Rattle.crx_compact.specs.meaning.Cells.{ReadCell, cell_read, cells_of, after_cells, cells_read}

-- ---- the epoch line

-- the satellites of an epoch text, or its first fault
abbrev pub satellites_of_text : List Count → List ℕ → Result (List Satellite) Fault
satellites_of_text types text =
    epoch_count (columns text 1 HEAD_WIDTH) or_else Err BadEpoch with λ count.
    list_all is_blank (drop (HEAD_WIDTH + NAME_WIDTH * count) text) otherwise Err BadEpoch next
    satellites_named types [] (names_in text count)

-- the satellites of the epoch that a line begins, or the line's first fault
abbrev pub satellites_of_line : List Count → Past → List ℕ → Result (List Satellite) Fault
satellites_of_line types past line =
    list_all is_printable line otherwise Err BadEpoch next
    satellites_of_text types (past.text line)

-- an epoch whose epoch line was read: this line, the past that its lines refer to, and its satellites
pub record BegunEpoch : Type 0 where
  pub line : List ℕ
  pub past : Past
  pub satellites : List Satellite

abbrev pub epoch_begun : List Count → List ℕ → Option Past → Result BegunEpoch Fault
epoch_begun types line earlier =
    earlier or_else Err NotAnEpoch with λ past.
    and_then (satellites_of_line types past line)
    (λ satellites. Ok (record { line = line; past = past; satellites = satellites }))

-- ---- the clock line

-- the clock's coded value with its value, or the line's first fault; blanks at the line's end don't count
abbrev pub clock_line_read : Past → List ℕ → Result ReadCell Fault
clock_line_read past line =
    if begins_epoch line then Err Truncated else
    cell_read BadClock past.clock (code_of (without_end_blanks line))

-- ---- satellite lines

-- whether these are marks of `count` types: printable characters, and only blanks after two for each type
abbrev pub are_marks : ℕ → List ℕ → Bool
are_marks count marks = list_all is_printable marks && list_all is_blank (drop (2 * count) marks)

-- a satellite's line that was read: its coded values and marks, and the row that they stand for
pub record ReadRow : Type 0 where
  pub raw : RawRow
  pub row : Row

abbrev pub row_of_cells : Past → List ℕ → List ℕ → List ReadCell → ReadRow
row_of_cells past name marks cells =
    record {
      raw = record { name = name; codes = map (λ (c : ReadCell). c.code) cells; marks = marks };
      row = record {
        name = name;
        values = map (λ (c : ReadCell). c.value) cells;
        flags = columns (past.flags name marks) 1 (2 * length cells);
      };
    }

-- a satellite's line, or its first fault: of a line that begins an epoch, then of the first cell with a fault, then of the marks
abbrev pub satellite_line_read : Past → Satellite → List ℕ → Result ReadRow Fault
satellite_line_read past satellite line =
    if begins_epoch line then Err Truncated else
    and_then (cells_read (past.value satellite.name) (cells_of satellite.count line)) λ cells.
    are_marks satellite.count (after_cells satellite.count line) otherwise Err BadFlags next
    Ok (row_of_cells past satellite.name (after_cells satellite.count line) cells)

-- the lines of some satellites, one for each
abbrev pub rows_read : Past → List Satellite → List ReadLine → Place (List ReadRow)
rows_read past [] lines = Done [] 0
rows_read past (satellite ∷ satellites) lines =
    then_place (first_line lines (satellite_line_read past satellite)) lines (λ row others.
    then_place (rows_read past satellites others) others (λ rows rest.
    Done (row ∷ rows) 0))

-- ---- a whole epoch

-- an observation epoch that was read: its lines as they were read, and the epoch that they stand for
pub record ReadEpoch : Type 0 where
  pub raw : RawEpoch
  pub epoch : Epoch

abbrev pub epoch_of_rows : BegunEpoch → ReadCell → List ReadRow → ReadEpoch
epoch_of_rows begun clock rows =
    record {
      raw = record { line = begun.line; clock = clock.code; rows = map (λ (r : ReadRow). r.raw) rows };
      epoch = record {
        head = columns (begun.past.text begun.line) 1 HEAD_WIDTH;
        clock = clock.value;
        rows = map (λ (r : ReadRow). r.row) rows;
      };
    }

-- the clock line and the satellite lines after an epoch line
abbrev pub epoch_after_line : BegunEpoch → List ReadLine → Place ReadEpoch
epoch_after_line begun lines =
    then_place (first_line lines (clock_line_read begun.past)) lines (λ clock others.
    then_place (rows_read begun.past begun.satellites others) others (λ rows rest.
    Done (epoch_of_rows begun clock rows) 0))

-- the observation epoch at the first of some lines, which begins no event; `past_of`: the past that each epoch line refers to
abbrev pub epoch_against : List Count → (List ℕ → Option Past) → List ReadLine → Place ReadEpoch
epoch_against types past_of lines =
    then_place (first_line lines (λ line. epoch_begun types line (past_of line))) lines (λ begun others.
    epoch_after_line begun others)

-- the observation epoch at the first of some lines, which begins no event. `types`: the counts of types in force; `older`: the raw epochs
-- accepted since the reader's state was last emptied
abbrev pub epoch_at : List Count → List RawEpoch → List ReadLine → Place ReadEpoch
epoch_at types older lines = epoch_against types (past_of_line older) lines
