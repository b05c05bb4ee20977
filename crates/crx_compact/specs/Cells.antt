-- The cells of a satellite line after the arcs of its satellite in the previous epoch.
use Rattle.std.specs.Prelude.{◌≡◌, ◌≤◌, ℕ, ℤ, List, length, map, drop, slice_index_or, slice_set, Option, Some, None}
use Rattle.std.specs.Prelude.{Result, Ok, Err, take, flat_map, ◌++◌, ◌+◌, ◌*◌, IfSome, IfNone, IfOk, IfErr}
use Rattle.crx_text.specs.meaning.Codes.{code_of, first_cell, after_cell}
use Rattle.crx_base.specs.declared.limits.TheConstants.{OBSERVATION_WIDTH}
use Rattle.crx_text.specs.declared.code.Code.TheVariants.{Missing}
use Rattle.crx_base.specs.declared.fault.Fault.{Fault}
use Rattle.crx_base.specs.declared.fault.Fault.TheVariants.{BadField}
use Rattle.crx_compact.specs.meaning.Cells.{ReadCell, cell_read, cell_text, cells_read, cells_of, after_cells}
use Rattle.crx_text.specs.declared.code.Code.{Code}
use Rattle.crx_text.specs.meaning.EachPlace.{each_place}
use Rattle.crx_compact.specs.declared.cells.TheConstants.{CELL_ROOM}
use Rattle.crx_compact.specs.ArcTails.{ArcTail}
use Rattle.crx_compact.specs.ArcSteps.{arc_of_code, arc_of_value, code_of_value, value_of_code, shown_value}

-- the arc and the coded value of the cell at a place, by the arcs of the previous epoch; a place after the last of these has no arc
abbrev pub arc_at_place : List (Option ArcTail) → List (Option ℤ) → ℕ → Option ArcTail
arc_at_place before values place = arc_of_value (slice_index_or values place None) (slice_index_or before place None)

abbrev pub code_at_place : List (Option ArcTail) → List (Option ℤ) → ℕ → Code
code_at_place before values place = code_of_value (slice_index_or values place None) (slice_index_or before place None)

-- the arcs and the coded values of all cells, by their values
abbrev pub arcs_of_cells : List (Option ArcTail) → List (Option ℤ) → List (Option ArcTail)
arcs_of_cells before values = each_place (length values) (arc_at_place before values)

abbrev pub codes_of_cells : List (Option ArcTail) → List (Option ℤ) → List Code
codes_of_cells before values = each_place (length values) (code_at_place before values)

-- the coded value of an arc's next value is written from `at` up to `end`, with its blank, and the arc contains the value
pub record IsCellWritten (value : Option ℤ)
    (old new : Option ArcTail) (bytes : List ℕ) (at : ℕ) (bytes' : List ℕ) (end : ℕ) : Type 0 where
  pub arc : new ≡ arc_of_value value old
  pub written : take end bytes' ≡ take at bytes ++ cell_text (code_of_value value old)
  pub from : at ≤ end
  pub within : end ≤ at + CELL_ROOM

-- the same for the values of a row
pub record AreCellsWritten (values : List (Option ℤ)) (old new : List (Option ArcTail)) (bytes : List ℕ)
    (at : ℕ) (bytes' : List ℕ) (end : ℕ) : Type 0 where
  pub arcs : new ≡ arcs_of_cells old values
  pub written : take end bytes' ≡ take at bytes ++ flat_map cell_text (codes_of_cells old values)
  pub from : at ≤ end
  pub within : end ≤ at + CELL_ROOM * length values

-- ---- reading

-- the value of a coded value at a place, by the arcs before
abbrev pub value_at_place : List (Option ArcTail) → ℕ → Code → Result (Option ℤ) Fault
value_at_place before place code = value_of_code OBSERVATION_WIDTH code (slice_index_or before place None)

-- the cell at the beginning of a text: its arc is replaced at its place, and it takes `taken` bytes of the text with its blank
pub record IsCellRead (before : List (Option ArcTail))
    (place : ℕ) (text : List ℕ) (old new : List (Option ArcTail)) (taken : ℕ) : Type 0 where
  pub code : Code
  pub value : Option ℤ
  pub formed : code_of (first_cell text) ≡ Some code
  pub given : value_at_place before place code ≡ Ok value
  pub left : new ≡ slice_set old place (arc_of_code code (slice_index_or before place None))
  pub after : drop taken text ≡ after_cell text
  pub within : taken ≤ length text

-- the cell at the beginning of a text is read, or its fault is returned
pub record AnswersCell (place : ℕ) (text : List ℕ) (old new : List (Option ArcTail)) (answer : Result ℕ Fault)
    : Type 0 where
  pub ok : IfOk answer (λ taken. IsCellRead old place text old new taken)
  pub err : IfErr answer (λ fault. cell_read BadField (value_at_place old place) (code_of (first_cell text)) ≡ Err fault)

-- the cell at the beginning of a text is read, or the arcs are unchanged
pub record MayReadCell (place : ℕ) (text : List ℕ) (old new : List (Option ArcTail)) (taken : Option ℕ) : Type 0 where
  pub some : IfSome taken (λ t. IsCellRead old place text old new t)
  pub none : IfNone taken (new ≡ old)

abbrev pub arcs_of_codes : List (Option ArcTail) → List Code → List (Option ArcTail)
arcs_of_codes before codes = each_place
    (length codes) (λ place. arc_of_code (slice_index_or codes place Missing) (slice_index_or before place None))

-- the cells of a line for `count` types: the arcs after them, which show their values, and the index at which the marks begin
pub record CellsAreRead (before : List (Option ArcTail))
    (count : ℕ) (line : List ℕ) (arcs : List (Option ArcTail)) (at : ℕ) : Type 0 where
  pub cells : List ReadCell
  pub good : cells_read (value_at_place before) (cells_of count line) ≡ Ok cells
  pub marks : after_cells count line ≡ drop at line
  pub within : at ≤ length line
  pub left : arcs ≡ arcs_of_codes before (map (λ (c : ReadCell). c.code) cells)
  pub shown : map shown_value arcs ≡ map (λ (c : ReadCell). c.value) cells
