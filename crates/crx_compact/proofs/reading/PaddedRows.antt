-- The rows of an open epoch: a satellite's line is read after the row that the epoch line leaves as after the satellite's history, and the
-- row after the line shows the line's row.
use Rattle.crx_compact.proofs.Vocabulary.{◌≡◌, None, Some, suc, ◌<◌, ◌*◌, ◌∷◌, map, Tail}
use Rattle.crx_compact.proofs.Vocabulary.{Satellite, flags_held, tail_named, ap, length-map, each_place}
use Rattle.crx_compact.proofs.Vocabulary.{columns, shown_value, past_of_row, after_cells, common_steps}
use Rattle.crx_compact.proofs.Vocabulary.{held_from, ReadCell, cells_of, shown_row}
use Rattle.crx_compact.proofs.Vocabulary.{slice_index_or, index-each_place, value_at_place}
use Rattle.crx_compact.proofs.Vocabulary.{ℕ, List, Option, arith, padded, length, rules}
use Rattle.crx_compact.proofs.Vocabulary.{held_row, row_held, patched, Missing, ReadRow, ArcTail, RowTail}
use Rattle.crx_compact.proofs.Vocabulary.{arcs_of_tail, past_of_tail, satellite_of}
use Rattle.crx_compact.proofs.Vocabulary.{row_of_cells, cell_of_tail, value_of_code, flags_of_tail}
use Rattle.crx_compact.proofs.Vocabulary.{arc_of_code, at-without_end_blanks, length-each_place, OBSERVATION_WIDTH}
use Rattle.crx_compact.proofs.SoundTexts.{same-cut}
use Rattle.crx_compact.proofs.{CellsRead.{cells-within, shown-code}, PlaceByPlace.at-take}
use Rattle.crx_compact.proofs.{Characters.at-by_position, soundness.Soundness.{AreReadCells, RowFacts}}
use Rattle.crx_compact.proofs.Marks.{cell-by_kept, cells-count, columns-held, row-by_tail, texts-count}
use Rattle.crx_compact.proofs.CellsFor.{each_place-below}
use Rattle.crx_compact.specs.HeldRows.{row_after}

-- ---- the row that an epoch line leaves

-- its cells are those of the history
padded-cell : (s : Satellite) (kept : Option RowTail) (place : ℕ) → place < s.count
    → slice_index_or (padded s kept).cells place None ≡ slice_index_or (arcs_of_tail kept) place None
padded-cell s kept place h = grind (arith, common_steps, index-each_place, cell-by_kept)

-- indicators past those of its types don't matter to these
flags-padded : (count : ℕ) (flags marks : List ℕ)
    → flags_held count (patched (flags_held count flags) marks) ≡ flags_held count (patched flags marks)
flags-padded count flags marks = search (rules, same-cut, at-without_end_blanks, at-take, at-by_position)

columns-padded : (count : ℕ) (flags marks : List ℕ) → columns
    (patched (flags_held count flags) marks) 1 (2 * count) ≡ columns (patched flags marks) 1 (2 * count)
columns-padded count flags marks = cc (columns-held count _, flags-padded count flags marks)

-- the row after the cells and marks of a line
cells-padded : (s : Satellite) (kept : Option RowTail) (marks : List ℕ) (cells : List ReadCell)
    → length cells ≡ s.count → held_from (padded s kept).cells (padded s kept).flags
    (row_of_cells (past_of_row (padded s kept).cells (padded s kept).flags) s.name marks cells)
    ≡ held_from (arcs_of_tail kept) (flags_of_tail kept)
    (row_of_cells (past_of_row (arcs_of_tail kept) (flags_of_tail kept)) s.name marks cells)
cells-padded s kept marks cells many =
    grind (arith, length-map, columns-padded, flags-padded, each_place-below, padded-cell)

pub row-padded : (s : Satellite) (kept : Option RowTail) (line : List ℕ)
    → row_held (Some (padded s kept)) s line ≡ row_held kept s line
row-padded s kept line =
    let texts = cells_of s.count line in
    let same = cells-within (value_at_place (padded s kept).cells)
    (value_at_place (arcs_of_tail kept)) texts (λ place code less. ap (value_of_code OBSERVATION_WIDTH code)
    (padded-cell s kept place (omega (arith, less, texts-count s.count line)))) in
    let many = cells-count (value_at_place (arcs_of_tail kept)) texts in
    grind (arith, common_steps, same, many, cells-padded, texts-count)

-- a satellite's line after the row that the epoch line leaves is one after the whole history
pub row-opened : (before : Tail) (s : Satellite) (line : List ℕ)
    → row_held (Some (padded s (tail_named s.name before)))
    (satellite_of (padded s (tail_named s.name before))) line ≡ row_after before s line
row-opened before s line = search (rules, length-each_place, row-padded, row-by_tail)

-- ---- the row that a line leaves

-- the arcs after coded values show their values
cells-show : (arcs : ℕ → Option ArcTail) (texts : List (List ℕ)) (cells : List ReadCell)
    → AreReadCells (λ place code. value_of_code OBSERVATION_WIDTH code (arcs place)) texts cells
    → map shown_value
    (each_place (length (map (λ (c : ReadCell). c.code) cells)) (λ j. arc_of_code (slice_index_or
    (map (λ (c : ReadCell). c.code) cells) j Missing) (arcs j))) ≡ map (λ (c : ReadCell). c.value) cells
cells-show arcs (t ∷ ts) (c ∷ cs) h = search (rules, shown-code, cells-show (λ j. arcs (suc j)) ts cs h.1)
cells-show arcs texts cells h = grind arith

-- the row after a line shows the line's row
pub row-shows : (before : Tail) (s : Satellite) (line : List ℕ) (read : ReadRow)
    → RowFacts (past_of_tail before) s line read → read.row ≡ shown_row (held_row before read)
row-shows before s line read h =
    let marks = after_cells s.count line in
    let kept = tail_named s.name before in
    let codes = map (λ (c : ReadCell). c.code) h.cells in
    let many = length-map h.cells (λ (c : ReadCell). c.code) in
    let count = length-each_place (length codes)
    (λ k. arc_of_code (slice_index_or codes k Missing) (cell_of_tail k kept)) in
    let shown = cells-show (λ k. cell_of_tail k kept) (cells_of s.count line) h.cells h.are_read in
    rw (← h.is_read) (cc (columns-held (length h.cells) (patched (flags_of_tail kept) marks)))
