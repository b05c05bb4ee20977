use Rattle.std.proofs.{Common.{sym, ◌∙◌, arith}, lemmas.{Grind.common_steps, List.take_all}}
use Rattle.std.proofs.lemmas.{Simd.{length-zip2}}
use Rattle.std.specs.Simd.Lanes.{zip2}
use Rattle.crx_text.proofs.{LaneTexts.{piece_written, last_written}, TextEnds.stored_ends}
use Rattle.crx_text.proofs.lanes.write_by_rule.Goals as goal

pub loop-at-preserved : goal.loop-at-preserved
loop-at-preserved g c = grind (arith, common_steps, piece_written, zip2)

pub returns-then-count-ge-LANES : goal.returns-then-count-ge-LANES
returns-then-count-ge-LANES g c =
    let all = length-zip2 _ _ _ (sym c.requires.0) in
    last_written _ 16 _ (zip2 _ _ _) _ _
    (omega (arith, all, c.if-count-ge-LANES.true)) (omega (arith, c.loop-at-test.false)) c.loop-at.invariant.2
    (c.write_lanes-then-count-ge-LANES.ensures.long ∙ c.loop-at.invariant.1 ∙ sym all)
    c.write_lanes-then-count-ge-LANES.ensures.written

pub returns-then-count-ge8 : goal.returns-then-count-ge8
returns-then-count-ge8 g c =
    let rule = g.R.Rule.rule in
    stored_ends rule 8 _ _ _ c.if-count-ge8.true (omega (arith, c.if-count-ge-LANES.false)) c.requires.0
    c.requires.1 _ (c.apply_to-made.ensures.value
    ∙ (grind (arith, common_steps, c.ends_of_eight.ensures, c.ends_of_eight-then-count-ge8.ensures)))

pub loop-column-preserved : goal.loop-column-preserved
loop-column-preserved g c = grind (arith, common_steps)

pub returns : goal.returns
returns g c = grind (arith, common_steps, zip2, length-zip2, take_all)
