-- The printed lines of an epoch, while its rows are read.
use Rattle.crx_compact.proofs.Vocabulary.{◌≡◌, ◌++◌, ◌∷◌, ◌+◌, [], List, ℕ, Some, slice_get, arith}
use Rattle.crx_compact.proofs.Vocabulary.{OpenHistory, tail_of_history, lines_to, rules, Tail, RowTail}
use Rattle.crx_compact.proofs.Vocabulary.{columns, HEAD_WIDTH, printed_head, printed_row}
use Rattle.crx_compact.proofs.Vocabulary.{shown_row, shown_value, IsRowRead, PendingLines}
use Rattle.crx_compact.proofs.Vocabulary.{◌<◌, ◌-◌, ◌∙◌, sym, refl, Bool, Expected, ColumnsState, columns_state}
use Rattle.crx_compact.proofs.Vocabulary.{Option, Idle, Reading, with_rows}
use Rattle.crx_compact.proofs.{reading.Stages.state-rows}
use Rattle.crx_compact.specs.{OpenLines.IsLineTaken, PrintedBlocks.ArePrinted}
use Rattle.crx_compact.proofs.{RowByRow.printed-next}
use Rattle.crx_compact.specs.{Blocks.{HasTakenLine, no_lines}, PrintedBlocks.IsPrinted}
use Rattle.std.proofs.lemmas.List.{take-set-le}

-- the first line replaces all lines
pub head-printed : (count : ℕ) (tail : Tail) (line : List ℕ) (none block : PendingLines) → count ≡ 0
    → none ≡ no_lines
    → block.lines ≡ none.lines ++ line ∷ [] → HasTakenLine none block
    → line ≡ printed_head (columns tail.text 1 HEAD_WIDTH) (shown_value tail.clock)
    → IsPrinted count tail block
head-printed count tail line none block zero emptied lines taken is = grind arith

pub row-printed : (tail : Tail) (count : ℕ) (row : RowTail) (old new : PendingLines)
    → IsPrinted count tail old → slice_get tail.rows count ≡ Some row
    → new.lines ≡ old.lines ++ printed_row (shown_row row) ∷ [] → HasTakenLine old new
    → IsPrinted (count + 1) tail new
row-printed tail count row old new so_far here lines taken =
    let first = printed_head (columns tail.text 1 HEAD_WIDTH) (shown_value tail.clock) ∷ [] in
    let more = printed-next first old.lines new.lines tail.rows count row so_far.lines here lines in
    grind (arith, more)

-- the rows before the one that is read stay
pub rows-kept : (old new : OpenHistory) (place : ℕ) (line : List ℕ)
    → IsRowRead place line old.satellites new.satellites → new ≡ record old { satellites = new.satellites }
    → lines_to place (tail_of_history new) ≡ lines_to place (tail_of_history old)
rows-kept old new place line read same = search (rules, take-set-le)

-- the lines of a block before a row that was read
pub printed-before : (is_kept : Bool) (expected after : Expected) (count come : ℕ)
    (history new : OpenHistory) (line : List ℕ)
    (is_whole : Bool) (state : ColumnsState) (block : PendingLines)
    → columns_state is_kept expected count history ≡ state
    → ArePrinted state block → IsLineTaken line expected count history after come new is_whole → 0 < come
    → IsPrinted (come - 1) (tail_of_history new) block
printed-before is_kept expected after count come history new line is_whole state block e printed taken some =
    let last = taken.last some in
    let open_state = state-rows is_kept expected count history (taken.awaited some) in
    let so_far : IsPrinted count (tail_of_history history) block =
    printed (with_rows (tail_of_history history) count) (sym e ∙ open_state) refl in
    let same : count ≡ come - 1 = omega (arith, last.0) in
    search (rules, so_far, last, same)

-- ---- which epoch is open

-- the printed lines of an epoch after its clock line and first `count` rows
pub rows-printed : (tail : Tail) (count : ℕ) (state : ColumnsState) (block : PendingLines)
    → state ≡ Reading (with_rows tail count) → IsPrinted count tail block → ArePrinted state block
rows-printed tail count state block e printed = grind arith

-- nothing is printed between two epochs
pub idle-unprinted : (held : Option Tail) (state : ColumnsState) (block : PendingLines) → state ≡ Idle held
    → ArePrinted state block
idle-unprinted held state block e = grind arith
