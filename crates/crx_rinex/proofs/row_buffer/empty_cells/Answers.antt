use Rattle.std.proofs.Common.{◌≡◌, ◌+◌, ◌-◌, ◌*◌, max, None, subst, arith}
use Rattle.std.{proofs.lemmas.Grind.common_steps, specs.Prelude.slice_set}
use Rattle.crx_rinex.{proofs.Cells.more_empty, specs.SatelliteLines.AreEmptyFrom}
use Rattle.crx_rinex.proofs.row_buffer.empty_cells.Goals as goal

pub loop-k-preserved : goal.loop-k-preserved
loop-k-preserved c =
    let first = c.args.first in
    let next : max first c.loop-k.k ≡ c.loop-k.k - 1 + 1 = omega (arith, c.loop-k-test.true) in
    let less = c.loop-k.k - 1 in
    let now : c.loop-k.k - 1 ≡ max first (c.loop-k.k - 1) = omega (arith, c.loop-k-test.true) in record {
      empty = subst (λ k. AreEmptyFrom k (slice_set c.loop-k.values less None)
          (slice_set (slice_set c.loop-k.flags (2 * less) 32) (2 * less + 1) 32)) now (more_empty _ _ less
          (subst (λ k. AreEmptyFrom k c.loop-k.values c.loop-k.flags) next c.loop-k.invariant.empty));
      values = grind (arith, common_steps);
      flags = grind (arith, common_steps);
    }

pub returns-clause-empty : goal.returns-clause-empty
returns-clause-empty c = grind (arith, common_steps)
