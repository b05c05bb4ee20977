-- The meaning of compact text (Hatanaka's Compact RINEX 3.0, epoch line, clock line and satellite lines). Lists of raw epochs are newest
-- first, and hold the epochs accepted since the reader's state was last emptied.
use Rattle.std.specs.Prelude.{ℕ, ◌*◌, ◌==◌, max, List, [], ◌∷◌, map, length, slice_index_or, take, Option}
use Rattle.std.specs.Prelude.{if◌then◌else◌}
use Rattle.crx_text.specs.meaning.Columns.{is_blank, without_end_blanks}
use Rattle.crx_text.specs.declared.code.Code.{Code}
use Rattle.crx_text.specs.declared.code.Code.TheVariants.{Missing}
use Rattle.crx_text.specs.meaning.EachPlace.{each_place}
use Rattle.crx_compact.specs.meaning.Sequences.{back_to, named, stretch}
use Rattle.crx_header.specs.meaning.EpochColumns.{begins_epoch}

-- a satellite line as it is read: its satellite's identifier, its coded values and its marks
pub record RawRow : Type 0 where
  pub name : List ℕ
  pub codes : List Code
  pub marks : List ℕ

-- an epoch as it is read: its epoch line, the clock's coded value, and its satellite lines
pub record RawEpoch : Type 0 where
  pub line : List ℕ
  pub clock : Code
  pub rows : List RawRow

-- the raw epochs from the newest back to the latest whose line begins with >
abbrev pub block_of : List RawEpoch → List RawEpoch
block_of epochs = back_to (λ (e : RawEpoch). begins_epoch e.line) epochs

-- ---- texts

-- the newest character at a position that isn't blank; a blank if there is none
abbrev pub latest_mark : List (List ℕ) → ℕ → ℕ
latest_mark [] position = 32
latest_mark (w ∷ ws) position =
    if is_blank (slice_index_or w position 32) then latest_mark ws position else slice_index_or w position 32

-- the character that a mark stands for: a blank for &
abbrev pub shown : ℕ → ℕ
shown c = if c == 38 then 32 else c

-- the length of the longest of some texts
abbrev pub longest : List (List ℕ) → ℕ
longest [] = 0
longest (w ∷ ws) = max (length w) (longest ws)

-- the text that marks make, newest first: at each position the newest mark that isn't blank; without blanks at its end
abbrev pub overlaid : List (List ℕ) → List ℕ
overlaid marks = without_end_blanks (each_place (longest marks) (λ position. shown (latest_mark marks position)))

-- a satellite's line, if the epoch holds it
abbrev pub raw_row_named : List ℕ → List RawRow → Option RawRow
raw_row_named name rows = named (λ (r : RawRow). r.name) name rows

-- a satellite's lines over the longest list of a block's epochs, from the newest on, that all hold it
abbrev pub raw_run_of : List ℕ → List RawEpoch → List RawRow
raw_run_of name block = stretch (map (λ (e : RawEpoch). raw_row_named name e.rows) block)

-- the marks of a run's lines, newest first, two for each type. A line drops the older marks past its own types.
abbrev pub marks_of : List RawRow → List (List ℕ)
marks_of [] = []
marks_of (raw ∷ older) = map (take (2 * length raw.codes)) (raw.marks ∷ marks_of older)

-- ---- values

-- the coded value at a place of a line, counted from 0
abbrev pub code_in : ℕ → RawRow → Code
code_in place row = slice_index_or row.codes place Missing
