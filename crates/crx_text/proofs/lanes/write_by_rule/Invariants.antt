use Rattle.std.{proofs.Common.{◌≡◌, ◌≤◌, ◌-◌, length, take}, specs.Simd.Lanes.zip2}
use Rattle.crx_text.proofs.lanes.write_by_rule.Given as goal

-- the characters written so far
abbrev pub invariant-loop-at : goal.invariant-loop-at
invariant-loop-at g l =
    (l.at ≤ length l.old) × (length l.out ≡ length l.old) ×
    (take l.at l.out ≡ take l.at (zip2 g.R.Rule.rule l.old l.other))

abbrev pub decreases-loop-at : goal.decreases-loop-at
decreases-loop-at g l = length l.old - l.at

abbrev pub invariant-loop-column : goal.invariant-loop-column
invariant-loop-column g l =
    (length l.out ≡ length l.old) × (take l.column l.out ≡ take l.column (zip2 g.R.Rule.rule l.old l.other))
