use Rattle.crx_rinex.specs.SatelliteLines.{AreCellsRead, AreSeen, KeepsEmptyFrom}
use Rattle.crx_base.specs.Padded.{line_in}
use Rattle.crx_rinex.proofs.row_buffer.read_first_cells.Given as goal

abbrev pub invariant-loop-k : goal.invariant-loop-k
invariant-loop-k l = record {
  read : AreCellsRead l.k (line_in l.line) l.values l.flags;
  seen : AreSeen l.is_seen l.k l.flags;
  others : KeepsEmptyFrom l.k l.initial.values l.initial.flags l.values l.flags;
}
