-- The cells of a row and of a satellite line: a coded value and one blank each. The checks of a coded value, and their order, are this
-- project's profile.
use Rattle.std.specs.Prelude.{ℕ, ℤ, zero, suc, List, [], ◌∷◌, Option, Some, None, Result, Ok, Err, ◌++◌}
use Rattle.crx_text.specs.meaning.Codes.{code_of, first_cell, after_cell, code_text}
use Rattle.crx_text.specs.declared.code.Code.{Code}
use Rattle.crx_base.specs.declared.fault.Fault.{Fault}
use Rattle.crx_base.specs.declared.fault.Fault.TheVariants.{BadField}
use Rattle.crx_compact.specs.meaning.Sequences.{and_then, before_all}

-- a coded value and the value that it stands for, none if it is missing
pub record ReadCell : Type 0 where
  pub code : Code
  pub value : Option ℤ

-- the coded value that a text spells, with its value, or the cell's first fault: the text spells no coded value, then a difference has no
-- arc, then a value is out of range
abbrev pub cell_read : Fault → (Code → Result (Option ℤ) Fault) → Option Code → Result ReadCell Fault
cell_read malformed value_of None = Err malformed
cell_read malformed value_of (Some code) =
    and_then (value_of code) (λ value. Ok (record { code = code; value = value }))

-- the texts of `count` coded values, each up to the next blank or the line's end
abbrev pub cells_of : ℕ → List ℕ → List (List ℕ)
cells_of zero line = []
cells_of (suc count) line = first_cell line ∷ cells_of count (after_cell line)

-- the rest of a line after `count` cells
abbrev pub after_cells : ℕ → List ℕ → List ℕ
after_cells zero line = line
after_cells (suc count) line = after_cells count (after_cell line)

-- the coded values that texts spell, with their values, or the first fault; `value_at_place`: the value of a coded value at each place
abbrev pub cells_read : (ℕ → Code → Result (Option ℤ) Fault) → List (List ℕ) → Result (List ReadCell) Fault
cells_read value_at_place [] = Ok []
cells_read value_at_place (text ∷ texts) =
    and_then (cell_read BadField (value_at_place 0) (code_of text)) (λ cell.
    before_all cell (cells_read (λ place. value_at_place (suc place)) texts))

-- a coded value and one blank
abbrev pub cell_text : Code → List ℕ
cell_text code = code_text code ++ 32 ∷ []
