use Rattle.std.specs.Prelude.{◌≡◌, ◌≤◌, ◌-◌, length, vec_capacity}
use Rattle.crx_compact.specs.Placing.{cells_for}
use Rattle.crx_compact.proofs.cells.keep_arcs.Given as goal

-- the old arcs, and new ones without values
abbrev pub invariant-loop-arcs : goal.invariant-loop-arcs
invariant-loop-arcs l = record {
  longer : length l.initial.arcs.items ≤ length l.arcs.items;
  within : length l.arcs.items ≤ l.count;
  kept : l.arcs.items ≡ cells_for (length l.arcs.items) l.initial.arcs.items;
  memory : vec_capacity l.arcs ≡ vec_capacity l.initial.arcs;
}

abbrev pub decreases-loop-arcs : goal.decreases-loop-arcs
decreases-loop-arcs l = l.count - length l.arcs.items
