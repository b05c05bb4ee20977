use Rattle.std.proofs.Common.{arith}
use Rattle.crx_compact.proofs.placing.SteppedRows.{row-here}
use Rattle.crx_compact.proofs.satellites.Satellites.entry.Goals as goal
use Rattle.std.proofs.lemmas.Grind.{common_steps}

pub returns : goal.returns
returns c =
    grind (arith, common_steps, row-here c.self.inside.known.entries c.self.invariant.2 c.self.inside.placed)
