use Rattle.crx_compact.proofs.CellsWritten.{WrittenUpTo}
use Rattle.crx_compact.proofs.cells.write_cells.Given as goal

abbrev pub invariant-loop-index : goal.invariant-loop-index
invariant-loop-index l =
    WrittenUpTo l.fn.arcs.items l.values l.filled l.initial.bytes l.at l.index l.arcs l.bytes l.end
