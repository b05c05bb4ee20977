use Rattle.std.specs.Prelude.{◌≡◌, ◌≤◌, ◌*◌, ◌-◌, ℕ, length, take, vec_capacity}
use Rattle.crx_base.specs.declared.limits.TheConstants.{TYPES_LIMIT}
use Rattle.crx_compact.proofs.satellite.SatelliteHistory.make_room.Given as goal

-- the old indicators stay, and there is room for the others
abbrev pub invariant-loop-indicators : goal.invariant-loop-indicators
invariant-loop-indicators l = record {
  within : length l.indicators.items ≤ 2 * l.count;
  kept : (n : ℕ) → n ≤ length l.initial.indicators.items
      → take n l.indicators.items ≡ take n l.initial.indicators.items;
  room : 2 * l.count ≤ vec_capacity l.indicators;
  bounded : vec_capacity l.indicators ≤ 2 * TYPES_LIMIT;
}

abbrev pub decreases-loop-indicators : goal.decreases-loop-indicators
decreases-loop-indicators l = 2 * l.count - length l.indicators.items
