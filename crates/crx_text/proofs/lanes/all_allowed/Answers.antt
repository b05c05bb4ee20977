use Rattle.std.{proofs.Common.{rules, eqb, not, ap, ◌∙◌, arith}, specs.List.list_all}
use Rattle.crx_text.specs.Texts.{is_allowed}
use Rattle.crx_text.proofs.LaneTexts.{list_all-piece, list_all-last_piece, list_all_ends}
use Rattle.crx_text.proofs.LaneWords.{none_in_fold}
use Rattle.crx_text.proofs.lanes.all_allowed.Goals as goal

pub loop-at-preserved : goal.loop-at-preserved
loop-at-preserved g c =
    search (rules, c.with_others-others.ensures.both, c.loop-at.invariant.1, list_all-piece)

pub returns-then-text-ge-LANES : goal.returns-then-text-ge-LANES
returns-then-text-ge-LANES g c =
    search (none_in_fold, c.with_others.ensures.both, c.loop-at.invariant.1, list_all-last_piece)

pub returns-then-text-ge8 : goal.returns-then-text-ge8
returns-then-text-ge8 g c =
    let kind = is_allowed (not (eqb g.row.IS_TEXT 0)) in
    none_in_fold c.with_others-then-text-ge8.result 0 ∙ c.with_others-then-text-ge8.ensures.both ∙ ap
    (list_all kind) c.ends_of_eight.ensures ∙ list_all_ends kind 8 _ (omega (arith, c.if-text-ge-LANES.false))
