use Rattle.std.proofs.{lemmas.Grind.common_steps, Common.{arith}}
use Rattle.crx_compact.proofs.CellsFor.{cells-cut, one-more, same-cells}
use Rattle.crx_compact.proofs.cells.keep_arcs.Goals as goal

pub loop-arcs-init : goal.loop-arcs-init
loop-arcs-init c = record {
  longer = search arith;
  within = grind (arith, common_steps);
  kept = grind (arith, common_steps, same-cells);
  memory = grind (arith, common_steps);
}

pub loop-arcs-preserved : goal.loop-arcs-preserved
loop-arcs-preserved c = record {
  longer = grind (arith, common_steps);
  within = grind (arith, common_steps);
  kept = grind (arith, common_steps, one-more, c.loop-arcs.invariant.kept);
  memory = grind (arith, common_steps);
}

pub returns-clause-kept : goal.returns-clause-kept
returns-clause-kept c = grind (arith, common_steps, cells-cut, c.loop-arcs.invariant.kept)
