use Rattle.std.proofs.{lemmas.Grind.common_steps, Common.{arith, refl}}
use Rattle.crx_compact.proofs.{Vocabulary.length-each_place, Resizing.fewer-types}
use Rattle.crx_compact.proofs.satellite.SatelliteHistory.count.Goals as goal

pub returns-clause-value : goal.returns-clause-value
returns-clause-value c = grind (arith, common_steps, length-each_place)

pub returns-clause-whole : goal.returns-clause-whole
returns-clause-whole c =
    let i = c.self.inside in
    rw (← c.self.view_is) (fewer-types i.indicators.items i.arcs.items
    i.arcs.items i.count i.count _
    (omega arith)
    c.self.invariant.1 refl)
