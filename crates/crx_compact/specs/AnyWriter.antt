-- Further definitions after meaning/AnyWriter: the lines of an epoch, whoever wrote them, are read as that epoch, and no other lines are.
use Rattle.std.specs.Prelude.{◌≡◌, ◌≤◌, ℕ, ℤ, ◌*◌, ◌+◌, List, ◌∷◌, ◌++◌, map, take, length, Option, Some, None, Ok}
use Rattle.std.specs.Option.{option_map}
use Rattle.crx_text.specs.meaning.Columns.{without_end_blanks}
use Rattle.crx_base.specs.meaning.AsRead.{ReadLine, Content}
use Rattle.crx_header.specs.meaning.ObservationTypes.{Count}
use Rattle.crx_rinex.specs.meaning.Epochs.{IsWholeEpoch}
use Rattle.crx_rinex.specs.meaning.SatelliteLines.{IsSoundRow}
use Rattle.crx_rinex.specs.meaning.Places.{Done}
use Rattle.crx_compact.specs.meaning.Compaction.{epoch_text}
use Rattle.crx_compact.specs.meaning.EpochText.{Satellite}
use Rattle.crx_compact.specs.meaning.Expansion.{RawEpoch}
use Rattle.crx_compact.specs.meaning.CompactPlaces.{ReadRow, ReadEpoch, satellite_line_read, epoch_at}
use Rattle.crx_compact.specs.meaning.AnyWriter.{Arc, WrittenRow, WrittenEpoch, row_now, epoch_now, flags_in, IsRowLine, AreEpochLines}
use Rattle.crx_compact.specs.meaning.Sequences.{named}
use Rattle.crx_compact.specs.ArcTails.{ArcTail, arc_tail}
use Rattle.crx_compact.specs.Tails.{RowTail, Tail, tail_left}
use Rattle.crx_compact.specs.Steps.{raw_row_tail_after, tail_named}
use Rattle.crx_compact.specs.HeldRows.{past_of_tail}

-- the newest value of an arc, if there is one
abbrev pub value_now : Option Arc → Option ℤ
value_now arc = option_map (λ (a : Arc). a.newest) arc

-- ---- the tail that an epoch leaves, whoever wrote it

abbrev pub arc_left : Option Arc → Option ArcTail
arc_left None = None
arc_left (Some arc) = arc_tail arc.order (arc.newest ∷ arc.older)

abbrev pub row_left : WrittenRow → RowTail
row_left row =
    record { name = row.name; flags = without_end_blanks row.flags; cells = map arc_left row.arcs }

abbrev pub epoch_left : WrittenEpoch → Tail
epoch_left written =
    record {
      text = without_end_blanks (epoch_text (epoch_now written));
      clock = arc_left written.clock;
      rows = map row_left written.rows;
    }

-- ---- a satellite's line

-- the line is read as its row, and leaves the row's tail
pub record RowReads (before : WrittenEpoch) (now : WrittenRow) (line : List ℕ) : Type 0 where
  pub read : ReadRow
  pub reads : satellite_line_read (past_of_tail (epoch_left before)) (record { name = now.name; count = length now.arcs }) line
      ≡ Ok read
  pub row : read.row ≡ row_now now
  pub name : read.raw.name ≡ now.name
  pub leaves : raw_row_tail_after (tail_named read.raw.name (epoch_left before)) read.raw ≡ row_left now

abbrev pub ReadsAnyRow : Type 0
ReadsAnyRow = (before : WrittenEpoch) (now : WrittenRow) (line : List ℕ)
    → IsSoundRow (row_now now)
    → IsRowLine (named (λ (r : WrittenRow). r.name) now.name before.rows) now line
    → RowReads before now line

-- ---- an epoch

-- the lines of an epoch are read as that epoch and leave its tail, whatever lines follow, and whatever raw epochs precede, if these left
-- the tail of the epoch that the lines refer to
pub record EpochReads (types : List Count) (raws : List RawEpoch) (now : WrittenEpoch) (lines : List (List ℕ)) : Type 0 where
  pub raw : RawEpoch
  pub reads : (rest : List ReadLine) → epoch_at types raws (map Content lines ++ rest)
      ≡ Done (record { raw = raw; epoch = epoch_now now }) (2 + length now.rows)
  pub leaves : tail_left (raw ∷ raws) ≡ Some (epoch_left now)

-- the tail is left by the epoch that lines may refer to, if there is one; otherwise it may be any
abbrev pub IsLeft : Option WrittenEpoch → Option Tail → Type 0
IsLeft before tail = (b : WrittenEpoch) → before ≡ Some b → tail ≡ Some (epoch_left b)

abbrev pub ReadsAnyEpoch : Type 0
ReadsAnyEpoch = (types : List Count) (before : Option WrittenEpoch) (raws : List RawEpoch) (now : WrittenEpoch) (lines : List (List ℕ))
    → IsLeft before (tail_left raws) → IsWholeEpoch types (epoch_now now) → AreEpochLines before now lines
    → EpochReads types raws now lines

-- ---- the converse: each line that is read is one that some writer may write

-- a satellite's row in the previous epoch, if that holds it
abbrev pub row_before : WrittenEpoch → Satellite → Option WrittenRow
row_before before satellite = named (λ (r : WrittenRow). r.name) satellite.name before.rows

-- the row that some writer wrote as this line
pub record IsSomebodysRow (before : WrittenEpoch) (satellite : Satellite) (line : List ℕ) (read : ReadRow) : Type 0 where
  pub now : WrittenRow
  pub name : now.name ≡ satellite.name
  pub row : row_now now ≡ read.row
  pub count : length now.arcs ≡ satellite.count
  pub written : IsRowLine (row_before before satellite) now line

abbrev pub ReadsSomebodysRow : Type 0
ReadsSomebodysRow = (before : WrittenEpoch) (satellite : Satellite) (line : List ℕ) (read : ReadRow)
    → length (flags_in (row_before before satellite)) ≤ 2 * satellite.count
    → satellite_line_read (past_of_tail (epoch_left before)) satellite line ≡ Ok read
    → IsSomebodysRow before satellite line read

-- the epoch that some writer wrote as these lines, none of which is too long
pub record IsSomebodysEpoch (before : Option WrittenEpoch) (lines : List ReadLine) (read : ReadEpoch) : Type 0 where
  pub now : WrittenEpoch
  pub epoch : epoch_now now ≡ read.epoch
  pub own : List (List ℕ)
  pub cut : lines ≡ map Content own
  pub written : AreEpochLines before now own

-- if the previous epoch is whole by the types in force
abbrev pub ReadsSomebodysEpoch : Type 0
ReadsSomebodysEpoch = (types : List Count) (before : Option WrittenEpoch) (raws : List RawEpoch) (lines : List ReadLine)
    (read : ReadEpoch) (count : ℕ) → tail_left raws ≡ option_map epoch_left before
    → ((b : WrittenEpoch) → before ≡ Some b → IsWholeEpoch types (epoch_now b))
    → epoch_at types raws lines ≡ Done read count → IsSomebodysEpoch before (take count lines) read
