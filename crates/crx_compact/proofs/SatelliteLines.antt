-- A satellite's line, read in place over the satellite's history.
use Rattle.crx_compact.proofs.Vocabulary.{list_all, ◌≡◌, refl, ℕ, ◌*◌, true, false, List, [], length, take, drop}
use Rattle.crx_compact.proofs.Vocabulary.{Option, Result, Ok, Err, ap, arith, Fault, BadFlags, columns, is_blank}
use Rattle.crx_compact.proofs.Vocabulary.{without_end_blanks, patched, begins_epoch, are_marks, cells_of}
use Rattle.crx_compact.proofs.Vocabulary.{cells_read, ArcTail, value_at_place, length-each_place, RowTail}
use Rattle.crx_compact.proofs.{SoundTexts.{first-columns, patched-trimmed}, Marks.{columns-left, line-held}}
use Rattle.crx_compact.proofs.Vocabulary.{CellsAreRead, row_held_from}
use Rattle.std.proofs.{Math.Path.fun_ext, Math.Seq.drop-nil}
use Rattle.crx_compact.specs.Placing.{cells_for}

-- a satellite's line, read by vectors of which `count` types are in use
abbrev pub stored_read : List ℕ → List (Option ArcTail) → ℕ → List ℕ → List ℕ → Result RowTail Fault
stored_read indicators arcs count line name =
    row_held_from (cells_for count arcs) (without_end_blanks (take (2 * count) indicators))
    (record { name = name; count = length (cells_for count arcs) }) line

module _ (indicators : List ℕ) (arcs : List (Option ArcTail)) (count : ℕ) (line : List ℕ)
    (other : begins_epoch line ≡ false) where
  counted : (name : List ℕ) → stored_read indicators arcs count line name
      ≡ row_held_from (cells_for count arcs)
      (take (2 * count) indicators) (record { name = name; count = count }) line
  counted name = grind (arith, length-each_place, fun_ext, patched-trimmed)

  pub cells-refused : {fault : Fault}
      → cells_read (value_at_place (cells_for count arcs)) (cells_of count line) ≡ Err fault
      → (name : List ℕ) → stored_read indicators arcs count line name ≡ Err fault
  cells-refused e name = grind (arith, counted)

  module _ {at : ℕ} {left : List (Option ArcTail)}
      (read : CellsAreRead (cells_for count arcs) count line left at) where
    pub flags-refused : {fault : Fault} → (are_marks count (drop at line) ≡ false) × (fault ≡ BadFlags)
        → (name : List ℕ) → stored_read indicators arcs count line name ≡ Err fault
    flags-refused e name = grind (arith, counted)

    pub stored-read : {held : List ℕ} → are_marks count (drop at line) ≡ true
        → held ≡ columns (patched (take (2 * count) indicators) (drop at line)) 1 (2 * count)
        → (name : List ℕ) → stored_read indicators arcs count line name
        ≡ Ok (record { name = name; flags = without_end_blanks held; cells = left })
    stored-read good held name =
        let kept = line-held (cells_for count arcs) (take (2 * count) indicators)
        (record { name = name; count = count }) line left at _ other read good held in
        cc (counted name, kept)

-- ---- without marks

pub no-marks : (count : ℕ) → are_marks count [] ≡ true
no-marks count = ap (λ t. list_all is_blank t) (drop-nil (2 * count))

-- no marks leave the indicators as they are
pub indicators-left : (count : ℕ) (indicators marks : List ℕ) → length indicators ≡ 2 * count → marks ≡ []
    → indicators ≡ columns (patched indicators marks) 1 (2 * count)
indicators-left count indicators marks many none =
    cc (first-columns (2 * count) indicators indicators many (λ p less. refl), columns-left count indicators)
