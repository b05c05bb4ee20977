-- The marks of a satellite line, and the row that its cells and marks make.
use Rattle.crx_compact.proofs.Vocabulary.{◌≡◌, refl, ℕ, suc, ◌*◌, true, false, List, [], ◌∷◌, ℤ, length}
use Rattle.crx_compact.proofs.Vocabulary.{drop, slice_index_or, Option, None, Result, Ok, ◌==◌}
use Rattle.crx_compact.proofs.Vocabulary.{zero, list_all, ap, arith, rules, length-map, columns}
use Rattle.crx_compact.proofs.Vocabulary.{without_end_blanks, is_kept, is_printable, patched, Code, Fault}
use Rattle.crx_compact.proofs.Vocabulary.{begins_epoch, Tail, cell_of_tail}
use Rattle.crx_compact.proofs.Vocabulary.{Satellite, ReadCell, cells_of, cells_read}
use Rattle.crx_compact.proofs.Vocabulary.{are_marks, ArcTail, RowTail}
use Rattle.crx_compact.proofs.Vocabulary.{flags_held, tail_named, arcs_of_tail}
use Rattle.crx_compact.proofs.Vocabulary.{list_all-from_at, common_steps}
use Rattle.crx_compact.proofs.Vocabulary.{row_held, at, at-without_end_blanks}
use Rattle.crx_compact.proofs.{CellsRead.cells-within}
use Rattle.crx_compact.proofs.{SoundTexts.{held-columns, same-columns}, PlaceByPlace.{at-take}}
use Rattle.crx_compact.proofs.Characters.{list_all-at, at-by_position}
use Rattle.std.specs.Prelude.{OnOk}
use Rattle.crx_compact.specs.{HeldRows.{row_after, row_held_from}, Cells.CellsAreRead}
use Rattle.crx_text.specs.meaning.Codes.{after_cell}

-- ---- the characters of patched indicators

pub patched-kept : (old marks : List ℕ) → list_all is_kept old ≡ true
    → list_all is_printable marks ≡ true → list_all is_kept (patched old marks) ≡ true
patched-kept old marks h k =
    grind (arith, list_all-from_at, at-without_end_blanks, at-by_position, list_all-at)

-- ---- no marks

pub none-there : (marks : List ℕ) → true ≡ (length marks == 0) → marks ≡ []
none-there x e = grind (arith, common_steps)

-- the columns of indicators that no marks change
pub columns-left : (count : ℕ) (flags : List ℕ)
    → columns flags 1 (2 * count) ≡ columns (patched flags []) 1 (2 * count)
columns-left count flags = same-columns (2 * count) flags (patched flags []) (λ p less.
    search (rules, at, at-without_end_blanks, at-by_position))

-- the first columns of the held indicators are those of the indicators
pub columns-held : (count : ℕ) (flags : List ℕ) → columns (flags_held count flags) 1 (2 * count)
    ≡ columns flags 1 (2 * count)
columns-held count flags = search (rules, same-columns, at-without_end_blanks, at-take)

-- ---- a satellite's line

-- ---- cells

pub cells-count : (value : ℕ → Code → Result (Option ℤ) Fault) (texts : List (List ℕ)) (cells : List ReadCell)
    → cells_read value texts ≡ Ok cells → length cells ≡ length texts
cells-count value [] cells e = grind (arith, e)
cells-count value (text ∷ texts) cells e = grind (arith, cells-count (λ j. value (suc j)) texts)

pub texts-count : (count : ℕ) (line : List ℕ) → length (cells_of count line) ≡ count
texts-count zero line = refl
texts-count (suc count) line = ap suc (texts-count count (after_cell line))

-- ---- a satellite's line

-- the arcs and indicators after a line
pub line-held : (arcs : List (Option ArcTail)) (flags : List ℕ) (satellite : Satellite) (line : List ℕ)
    (left : List (Option ArcTail)) (at : ℕ) (held : List ℕ) → begins_epoch line ≡ false
    → CellsAreRead arcs satellite.count line left at → are_marks satellite.count (drop at line) ≡ true
    → held ≡ columns (patched flags (drop at line)) 1 (2 * satellite.count)
    → row_held_from arcs flags satellite line
    ≡ Ok (record { name = satellite.name; flags = without_end_blanks held; cells = left })
line-held arcs flags satellite line left at held h read e columned =
    let count : length read.cells ≡ satellite.count = search (rules, cells-count, texts-count) in
    let many = length-map read.cells (λ (c : ReadCell). c.code) in
    let kept : without_end_blanks held ≡ flags_held satellite.count (patched flags (drop at line)) =
    search (rules, held-columns) in
    grind arith

-- ---- by the history of the whole previous epoch

pub cell-by_kept : (kept : Option RowTail) (place : ℕ)
    → slice_index_or (arcs_of_tail kept) place None ≡ cell_of_tail place kept
cell-by_kept kept place = grind arith

pub row-by_tail : (tail : Tail) (satellite : Satellite) (line : List ℕ)
    → row_held (tail_named satellite.name tail) satellite line ≡ row_after tail satellite line
row-by_tail tail satellite line = grind (arith, common_steps, cell-by_kept, cells-within)

-- ---- the fault, by a result

pub on-both : {X E : Type 0} (r : Result X E) {P Q R : Type 0} → (P → Q → R) → OnOk r P → OnOk r Q → OnOk r R
on-both r f p q = grind arith
