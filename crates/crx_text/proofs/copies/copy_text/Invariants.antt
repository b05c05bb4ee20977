use Rattle.std.proofs.Common.{◌≡◌, ◌≤◌, ◌-◌, length, take}
use Rattle.crx_text.proofs.copies.copy_text.Given as goal

-- the characters copied so far
abbrev pub invariant-loop-at : goal.invariant-loop-at
invariant-loop-at l =
    (l.at ≤ length l.from) × (length l.to ≡ length l.from) × (take l.at l.to ≡ take l.at l.from)

abbrev pub decreases-loop-at : goal.decreases-loop-at
decreases-loop-at l = length l.from - l.at
