-- Tails: the parts of earlier epochs that later coded values, marks and values depend on. Comments of code call a tail the history.
use Rattle.std.specs.Prelude.{◌≡◌, ℕ, List, [], ◌∷◌, map, length, Option, Some, None, ◌≤◌, ◌+◌, ◌*◌, IfSome}
use Rattle.std.specs.List.{AllByRecursion}
use Rattle.crx_text.specs.meaning.Columns.{without_end_blanks}
use Rattle.crx_rinex.specs.meaning.Observations.{Row}
use Rattle.crx_base.specs.declared.limits.TheConstants.{WRITTEN_ORDER, TYPES_LIMIT, SATELLITES_LIMIT, HEAD_WIDTH}
use Rattle.crx_base.specs.declared.limits.TheConstants.{NAME_WIDTH}
use Rattle.crx_text.specs.meaning.EachPlace.{each_place}
use Rattle.crx_compact.specs.meaning.Compaction.{Marked, run_of, arc_of, clock_arc, newest_text}
use Rattle.crx_compact.specs.meaning.Expansion.{RawEpoch, RawRow, block_of, raw_run_of, marks_of, overlaid, code_in}
use Rattle.crx_compact.specs.meaning.ArcValues.{since_start}
use Rattle.crx_compact.specs.Expansion.{text_of}
use Rattle.crx_compact.specs.ArcTails.{ArcTail, arc_tail, started_tail, IsBoundedArc}

-- a satellite's indicators without the blanks at their end, and the tail of each cell's arc; none if the newest value is missing
pub record RowTail : Type 0 where
  pub name : List ℕ
  pub flags : List ℕ
  pub cells : List (Option ArcTail)

-- the newest epoch's text without the blanks at its end, the clock's arc, and the satellites in the epoch's order
pub record Tail : Type 0 where
  pub text : List ℕ
  pub clock : Option ArcTail
  pub rows : List RowTail

-- ---- in compaction

abbrev pub row_tail : List Row → Row → RowTail
row_tail run row =
    record {
      name = row.name;
      flags = without_end_blanks row.flags;
      cells = each_place (length row.values) (λ j. arc_tail WRITTEN_ORDER (arc_of j run));
    }

abbrev pub row_tails : List Marked → List RowTail
row_tails [] = []
row_tails (m ∷ older) = map (λ (r : Row). row_tail (run_of r.name (m ∷ older)) r) m.epoch.rows

-- the tail of some epochs, newest first; the epochs before the latest full one have no effect
abbrev pub tail_of : List Marked → Tail
tail_of epochs =
    record {
      text = without_end_blanks (newest_text epochs);
      clock = arc_tail WRITTEN_ORDER (clock_arc epochs);
      rows = row_tails epochs;
    }

-- the tail of some epochs, newest first; none if there is no epoch
abbrev pub tail_or_nothing : List Marked → Option Tail
tail_or_nothing [] = None
tail_or_nothing (m ∷ older) = Some (tail_of (m ∷ older))

-- ---- in expansion

abbrev pub raw_row_tail : List RawRow → RawRow → RowTail
raw_row_tail run row =
    record {
      name = row.name;
      flags = overlaid (marks_of run);
      cells = each_place (length row.codes) (λ j. started_tail (since_start (map (code_in j) run)));
    }

abbrev pub raw_row_tails : List RawEpoch → List RowTail
raw_row_tails [] = []
raw_row_tails (e ∷ older) = map (λ (r : RawRow). raw_row_tail (raw_run_of r.name (e ∷ older)) r) e.rows

-- the tail of a block of raw epochs, newest first
abbrev pub tail_of_block : List RawEpoch → Tail
tail_of_block block =
    record {
      text = text_of block;
      clock = started_tail (since_start (map (λ (e : RawEpoch). e.clock) block));
      rows = raw_row_tails block;
    }

-- the tail of the raw epochs accepted since the reader's state was last emptied, newest first; none if there are none
abbrev pub tail_left : List RawEpoch → Option Tail
tail_left [] = None
tail_left (e ∷ older) = Some (tail_of_block (block_of (e ∷ older)))

-- ---- bounds

-- a satellite's tail within the limits: its identifier, two indicators and one cell for each type
pub record IsBoundedRowTail (limit : ℕ) (row : RowTail) : Type 0 where
  pub name : length row.name ≡ NAME_WIDTH
  pub flags : length row.flags ≤ 2 * TYPES_LIMIT
  pub few : length row.cells ≤ TYPES_LIMIT
  pub cells : AllByRecursion (λ (cell : Option ArcTail). IfSome cell (IsBoundedArc limit)) row.cells

-- a tail within the limits, by the highest order of an arc: no tail is greater, whatever was read or written before
pub record IsBoundedTail (limit : ℕ) (tail : Tail) : Type 0 where
  pub text : length tail.text ≤ HEAD_WIDTH + NAME_WIDTH * SATELLITES_LIMIT
  pub clock : IfSome tail.clock (IsBoundedArc limit)
  pub few : length tail.rows ≤ SATELLITES_LIMIT
  pub rows : AllByRecursion (IsBoundedRowTail limit) tail.rows
