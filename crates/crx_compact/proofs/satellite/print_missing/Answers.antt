use Rattle.crx_compact.proofs.{Vocabulary.{◌≡◌, ◌+◌, ◌*◌, None, arith, ℕ, replicate, take}, PlaceByPlace.print-on}
use Rattle.std.proofs.{lemmas.List.{get_or-replicate, length-replicate}, lemmas.Grind.get_or_default_zero}
use Rattle.crx_compact.proofs.satellite.print_missing.Goals as goal

pub loop-index-preserved : goal.loop-index-preserved
loop-index-preserved c =
    let k : ℕ = c.loop-index.index in
    let from : ℕ = c.args.at + 16 * k in
    let next : c.args.at + 16 * (k + 1) ≡ from + 16 = omega arith in
    record {
      cells = rw next (print-on (replicate c.args.count None) c.args.flags.now
          (take from c.loop-index.bytes) _ _
          c.args.count k (length-replicate c.args.count None) (omega arith)
          (grind (arith, get_or_default_zero, get_or-replicate)) c.loop-index.invariant.cells);
      long = omega arith;
    }
