use Rattle.std.proofs.Common.{◌≡◌, ◌+◌, ◌-◌, ◌≤◌, ◌++◌, ℕ, List, length, take, arith, ◌∙◌}
use Rattle.std.proofs.lemmas.{Grind.common_steps, Simd.{length-chunk, length-put_chunk, take_more_put_chunk}}
use Rattle.std.specs.Simd.Lanes.{chunk, put_chunk}
use Rattle.crx_text.proofs.{CopiedTexts.copied_ends, LaneTexts.{piece_written, last_written}}
use Rattle.crx_text.proofs.copies.copy_text.Goals as goal

copied_more : (i : ℕ) (from to : List ℕ) → i + 16 ≤ length from → length to ≡ length from
    → take (i + 16) (put_chunk i to (chunk i 16 from)) ≡ take i to ++ chunk i 16 from
copied_more i from to room same = grind (arith, common_steps, length-chunk, take_more_put_chunk)

pub loop-at-preserved : goal.loop-at-preserved
loop-at-preserved c = grind (arith, common_steps, length-put_chunk, piece_written, copied_more)

pub returns-then-count-ge-LANES : goal.returns-then-count-ge-LANES
returns-then-count-ge-LANES c =
    let same = c.loop-at.invariant.1 in
    let m : ℕ = length c.args.from.now - 16 in
    record {
      copied =
          last_written m 16 _ c.args.from.now _ _ (omega (arith, c.if-count-ge-LANES.true))
          (omega (arith, c.loop-at-test.false)) c.loop-at.invariant.2 (length-put_chunk m _ _ ∙ same)
          (copied_more m c.args.from.now _ (omega (arith, c.if-count-ge-LANES.true)) same);
    }

pub returns-then-count-ge8 : goal.returns-then-count-ge8
returns-then-count-ge8 c = record {
  copied =
      grind (arith, common_steps, copied_ends 8 c.args.from.now c.args.to.now c.if-count-ge8.true);
}

pub returns-then-count-ge4 : goal.returns-then-count-ge4
returns-then-count-ge4 c = record {
  copied =
      grind (arith, common_steps, copied_ends 4 c.args.from.now c.args.to.now c.if-count-ge4.true);
}
