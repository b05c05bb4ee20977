-- The printed lines of an epoch, while its lines are read one after another.
use Rattle.std.specs.Prelude.{◌≡◌, ◌∷◌, ◌+◌, ℕ, true, List, map, take}
use Rattle.crx_text.specs.meaning.Columns.{columns}
use Rattle.crx_base.specs.declared.limits.TheConstants.{HEAD_WIDTH}
use Rattle.crx_rinex.specs.meaning.Printing.{printed_head, printed_row}
use Rattle.crx_compact.specs.ArcSteps.{shown_value}
use Rattle.crx_compact.specs.Blocks.{PendingLines}
use Rattle.crx_compact.specs.OpenEpochs.{ColumnsState, OpenRawEpoch, Reading, has_come, tail_so_far}
use Rattle.crx_compact.specs.ShownRows.{shown_row}
use Rattle.crx_compact.specs.Tails.{Tail}
use Rattle.crx_compact.specs.declared.block.TheConstants.{LINES_LIMIT}

-- the first line of the epoch that a tail shows, and the lines of its first `count` rows
abbrev pub lines_to : ℕ → Tail → List (List ℕ)
lines_to count tail =
    printed_head (columns tail.text 1 HEAD_WIDTH) (shown_value tail.clock)
    ∷ map printed_row (map shown_row (take count tail.rows))

-- these are the lines of a block, which has space for the others
pub record IsPrinted (count : ℕ) (tail : Tail) (block : PendingLines) : Type 0 where
  pub lines : block.lines ≡ lines_to count tail
  pub left : block.left + 1 + count ≡ LINES_LIMIT

-- a block has the printed lines of an open epoch so far: the first line once the clock line is read, and then a line for each row. Before
-- the clock line, and between two epochs, its lines may be any
abbrev pub ArePrinted : ColumnsState → PendingLines → Type 0
ArePrinted state block = (begun : OpenRawEpoch) → state ≡ Reading begun → has_come begun.clock ≡ true
    → IsPrinted begun.count (tail_so_far begun) block
