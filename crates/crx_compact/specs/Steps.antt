-- One epoch after a tail: its lines, and the next tail, depend only on the tail.
use Rattle.std.specs.Prelude.{ℕ, ◌*◌, Bool, List, [], ◌∷◌, map, length, slice_index_or, take, Option, Some, None}
use Rattle.std.specs.Prelude.{if◌then◌else◌, unwrap_or}
use Rattle.crx_text.specs.meaning.Columns.{without_end_blanks}
use Rattle.crx_text.specs.meaning.Texts.{text_difference}
use Rattle.crx_text.specs.Texts.{patched}
use Rattle.crx_text.specs.meaning.Codes.{code_text}
use Rattle.crx_rinex.specs.meaning.Observations.{Row, Epoch, value_in}
use Rattle.crx_text.specs.declared.code.Code.{Code}
use Rattle.crx_text.specs.meaning.EachPlace.{each_place}
use Rattle.crx_compact.specs.meaning.Sequences.{named}
use Rattle.crx_compact.specs.meaning.Compaction.{epoch_text, line_of_codes}
use Rattle.crx_compact.specs.meaning.Expansion.{RawRow, RawEpoch, code_in}
use Rattle.crx_compact.specs.ArcTails.{ArcTail}
use Rattle.crx_compact.specs.Tails.{RowTail, Tail}
use Rattle.crx_compact.specs.ArcSteps.{code_of_value, arc_of_value, arc_of_code}

-- ---- a satellite in a tail

-- the tail before a full epoch
abbrev pub no_tail : Tail
no_tail = record { text = []; clock = None; rows = [] }

abbrev pub tail_named : List ℕ → Tail → Option RowTail
tail_named name tail = named (λ (r : RowTail). r.name) name tail.rows

abbrev pub cell_of_tail : ℕ → Option RowTail → Option ArcTail
cell_of_tail place None = None
cell_of_tail place (Some row) = slice_index_or row.cells place None

abbrev pub flags_of_tail : Option RowTail → List ℕ
flags_of_tail None = []
flags_of_tail (Some row) = row.flags

-- ---- an epoch after a tail, in compaction

-- the coded values of a row
abbrev pub codes_after : Option RowTail → Row → List Code
codes_after tail row = each_place
    (length row.values) (λ place. code_of_value (value_in place row) (cell_of_tail place tail))

abbrev pub row_tail_after : Option RowTail → Row → RowTail
row_tail_after tail row =
    record {
      name = row.name;
      flags = without_end_blanks row.flags;
      cells = each_place (length row.values) (λ place. arc_of_value (value_in place row) (cell_of_tail place tail));
    }

-- a row's line, by the tail of its satellite
abbrev pub row_line_after : Option RowTail → Row → List ℕ
row_line_after tail row = line_of_codes (codes_after tail row) (flags_of_tail tail) row.flags

-- a row's tail and its line, by the tails of all satellites
abbrev pub row_tail_in : List RowTail → Row → RowTail
row_tail_in before row = row_tail_after (named (λ (r : RowTail). r.name) row.name before) row

abbrev pub row_line_in : List RowTail → Row → List ℕ
row_line_in before row = row_line_after (named (λ (r : RowTail). r.name) row.name before) row

abbrev pub lines_after_tail : Tail → Epoch → List (List ℕ)
lines_after_tail tail epoch =
    text_difference tail.text (epoch_text epoch)
    ∷ code_text (code_of_value epoch.clock tail.clock)
    ∷ map (row_line_in tail.rows) epoch.rows

abbrev pub tail_after : Tail → Epoch → Tail
tail_after tail epoch =
    record {
      text = without_end_blanks (epoch_text epoch);
      clock = arc_of_value epoch.clock tail.clock;
      rows = map (row_tail_in tail.rows) epoch.rows;
    }

-- the tail that an epoch is written after, by the tail before it, or none: a full epoch is written after the empty one
abbrev pub tail_written_after : Bool → Option Tail → Tail
tail_written_after in_full tail = if in_full then no_tail else unwrap_or tail no_tail

-- ---- a raw epoch after a tail, in expansion

-- a tail's indicators for `count` types: two for each, without the blanks at their end
abbrev pub flags_held : ℕ → List ℕ → List ℕ
flags_held count flags = without_end_blanks (take (2 * count) flags)

abbrev pub raw_row_tail_after : Option RowTail → RawRow → RowTail
raw_row_tail_after tail raw =
    record {
      name = raw.name;
      flags = flags_held (length raw.codes) (patched (flags_of_tail tail) raw.marks);
      cells = each_place (length raw.codes) (λ place. arc_of_code (code_in place raw) (cell_of_tail place tail));
    }

abbrev pub raw_tail_after : Tail → RawEpoch → Tail
raw_tail_after tail raw =
    record {
      text = patched tail.text raw.line;
      clock = arc_of_code raw.clock tail.clock;
      rows = map (λ (r : RawRow). raw_row_tail_after (tail_named r.name tail) r) raw.rows;
    }
