use Rattle.crx_compact.proofs.Vocabulary.{◌≡◌, ◌-◌, ◌*◌, ◌++◌, None, map, take, replicate, shown_value}
use Rattle.crx_compact.proofs.satellite.SatelliteHistory.row.Given as goal

-- the values up to a place are put into the row
abbrev pub invariant-loop-index : goal.invariant-loop-index
invariant-loop-index l = l.row ≡ record {
  name = l.fn.name;
  values = map shown_value (take l.index l.self.cells) ++ replicate (l.count - l.index) None;
  flags = replicate (2 * l.count) 32;
}
