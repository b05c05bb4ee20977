use Rattle.crx_base.specs.Padded.{line_in}
use Rattle.crx_compact.proofs.CellsRead.{ReadUpTo}
use Rattle.crx_compact.specs.Placing.{cells_for}
use Rattle.crx_compact.proofs.cells.read_cells.Given as goal

abbrev pub invariant-loop-index : goal.invariant-loop-index
invariant-loop-index l =
    ReadUpTo (cells_for l.count l.fn.arcs.items) (line_in l.line) l.at l.index l.reached l.arcs
