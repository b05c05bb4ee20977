use Rattle.std.proofs.Common.{◌≡◌, ◌*◌, max, take}
use Rattle.crx_rinex.specs.SatelliteLines.{AreEmptyFrom}
use Rattle.crx_rinex.proofs.row_buffer.empty_cells.Given as goal

abbrev pub invariant-loop-k : goal.invariant-loop-k
invariant-loop-k l = record {
  empty : AreEmptyFrom (max l.first l.k) l.values l.flags;
  values : take l.first l.values ≡ take l.first l.initial.values;
  flags : take (2 * l.first) l.flags ≡ take (2 * l.first) l.initial.flags;
}

abbrev pub decreases-loop-k : goal.decreases-loop-k
decreases-loop-k l = l.k
