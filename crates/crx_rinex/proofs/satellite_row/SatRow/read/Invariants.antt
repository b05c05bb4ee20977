use Rattle.crx_rinex.specs.SatelliteLines.{AreCellsRead}
use Rattle.crx_rinex.proofs.satellite_row.SatRow.read.Given as goal

abbrev pub invariant-loop-k : goal.invariant-loop-k
invariant-loop-k l = AreCellsRead l.k l.line l.read l.marks
