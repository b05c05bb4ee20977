-- The newest epoch, as its history shows it: each value is the newest of its arc.
use Rattle.std.specs.Prelude.{ℕ, ℤ, ◌≡◌, ◌+◌, ◌*◌, ◌++◌, List, Option, drop, length, map, take}
use Rattle.crx_text.specs.meaning.Columns.{columns}
use Rattle.crx_text.specs.meaning.PrintedCells.{printed_cells}
use Rattle.crx_base.specs.declared.limits.TheConstants.{CELL_WIDTH, HEAD_WIDTH}
use Rattle.crx_rinex.specs.meaning.Observations.{Row, Epoch}
use Rattle.crx_compact.specs.Tails.{RowTail, Tail}
use Rattle.crx_compact.specs.ArcSteps.{shown_value}

-- the row of a satellite: a value and two indicators for each arc
abbrev pub shown_row : RowTail → Row
shown_row tail =
    record {
      name = tail.name;
      values = map shown_value tail.cells;
      flags = columns tail.flags 1 (2 * length tail.cells);
    }

-- the epoch with its first `count` rows
abbrev pub shown_epoch : Tail → ℕ → Epoch
shown_epoch tail count =
    record {
      head = columns tail.text 1 HEAD_WIDTH;
      clock = shown_value tail.clock;
      rows = map shown_row (take count tail.rows);
    }

-- the first of `count` cells were printed into bytes from `at` on: with the other cells they make the text of all
abbrev pub AreFirstPrinted : ℕ → ℕ → List (Option ℤ) → List ℕ → ℕ → List ℕ → List ℕ → Type 0
AreFirstPrinted first count values flags at old new =
    take (at + CELL_WIDTH * first) new ++ printed_cells (drop first values) (drop (2 * first) (columns flags 1 (2 * count)))
    ≡ take at old ++ printed_cells values (columns flags 1 (2 * count))
