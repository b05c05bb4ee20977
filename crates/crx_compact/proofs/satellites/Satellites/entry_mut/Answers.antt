use Rattle.std.proofs.Common.{arith}
use Rattle.crx_compact.proofs.placing.SteppedRows.{left-at, row-below, stored-at}
use Rattle.indexmap.specs.Layout.{length-set_value_at}
use Rattle.crx_compact.proofs.satellites.Satellites.entry_mut.Goals as goal
use Rattle.std.proofs.lemmas.Grind.{common_steps}

pub pair_mut-satellite-requires : goal.pair_mut-satellite-requires
pair_mut-satellite-requires c = omega (
  arith,
  c.number_at.ensures.value,
  c.self.invariant.2.index c.args.index
      (row-below c.self.inside.placed c.self.inside.order.items c.self.inside.known.entries
      (rw (← c.self.view_is) at c.requires.within) c.self.invariant.2.counted),
)

pub invariant_of-self-lent : goal.invariant_of-self-lent
invariant_of-self-lent c = λ left. rw (length-set_value_at c.self.inside.known.entries c.number_at.result
    left) c.self.invariant

pub returns : goal.returns
returns c =
    let self = c.self.inside in
    let within = rw (← c.self.view_is) at c.requires.within in
    let there = c.pair_mut-satellite.ensures.value in
    grind (
      arith,
      common_steps,
      self,
      within,
      there,
      left-at self.known c.self.invariant.2 self.placed self.live within c.number_at.ensures.value there,
      stored-at self.known c.self.invariant.2 self.placed self.live within c.number_at.ensures.value
          there c.pair_mut-satellite.ensures.unique,
    )
