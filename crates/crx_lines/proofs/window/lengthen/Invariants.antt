use Rattle.std.specs.Prelude.{◌≡◌, ◌≤◌, ◌-◌, take, length, vec_capacity}
use Rattle.crx_lines.proofs.window.lengthen.Given as goal

abbrev pub invariant-loop-filled : goal.invariant-loop-filled
invariant-loop-filled l = record {
  within : length l.filled.items ≤ l.count;
  longer : length l.initial.filled.items ≤ length l.filled.items;
  kept : take (length l.initial.filled.items) l.filled.items ≡ l.initial.filled.items;
  memory : vec_capacity l.filled ≡ vec_capacity l.initial.filled;
}

abbrev pub decreases-loop-filled : goal.decreases-loop-filled
decreases-loop-filled l = l.count - length l.filled.items
