use Rattle.std.specs.Prelude.{◌≤◌, ◌-◌, length}
use Rattle.crx_compact.specs.Blocks.{KeepsItems}
use Rattle.crx_compact.proofs.block.lengthen.Given as goal

abbrev pub invariant-loop-item : goal.invariant-loop-item
invariant-loop-item g l = record {
  within : length l.filled.items ≤ l.count;
  longer : length l.initial.filled.items ≤ length l.filled.items;
  kept : KeepsItems l.initial.filled l.filled;
}

abbrev pub decreases-loop-item : goal.decreases-loop-item
decreases-loop-item g l = l.count - length l.filled.items
