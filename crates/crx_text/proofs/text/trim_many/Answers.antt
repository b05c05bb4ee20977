use Rattle.std.proofs.Common.{◌-◌, ℕ, drop, ap, ◌∙◌, arith}
use Rattle.crx_text.proofs.EndBlanks.{found_within, found_some, found_none}
use Rattle.crx_text.proofs.text.trim_many.Goals.{then-end-ge-EIGHT+else-count-gt0-2, else-end-ge-EIGHT}
use Rattle.crx_text.specs.meaning.Columns.{without_end_blanks}
use Rattle.crx_text.proofs.text.trim_many.Goals as goal

pub slice_bounds-result-end : goal.slice_bounds-result-end
slice_bounds-result-end c =
    found_within _ _ c.loop-end.invariant.0 c.loop-end.invariant.1 16
    _ (omega arith) (omega (arith, c.loop-end-test.true))

pub returns-then-count-gt0-clause-value : goal.returns-then-count-gt0-clause-value
returns-then-count-gt0-clause-value c =
    found_some _ _ c.loop-end.invariant.0 c.loop-end.invariant.1 16
    _ (omega arith) (omega (arith, c.loop-end-test.true)) c.if-count-gt0.true

pub loop-end-preserved : goal.loop-end-preserved
loop-end-preserved c =
    grind (
      arith,
      found_none c.args.text.now c.loop-end.end c.loop-end.invariant.0 c.loop-end.invariant.1 16
          (c.loop-end.end - 16),
    )

pub slice_bounds-result-end-then-count-gt0-2 : goal.slice_bounds-result-end-then-count-gt0-2
slice_bounds-result-end-then-count-gt0-2 c =
    found_within _ _ c.loop-end.invariant.0 c.loop-end.invariant.1 8
    _ (omega arith) (omega (arith, c.if-end-ge-EIGHT.true))

pub returns-then-count-gt0-2-clause-value : goal.returns-then-count-gt0-2-clause-value
returns-then-count-gt0-2-clause-value c =
    found_some _ _ c.loop-end.invariant.0 c.loop-end.invariant.1 8
    _ (omega arith) (omega (arith, c.if-end-ge-EIGHT.true)) c.if-count-gt0-2.true

pub loop-end-2-init : goal.loop-end-2-init
loop-end-2-init c =
    let rest = λ (k : ℕ). without_end_blanks (drop k c.args.text.now) in
    elim c.if-end-ge-EIGHT.branch [
      | then-end-ge-EIGHT+else-count-gt0-2 w ↦ (
        omega (arith, w.end-is, c.loop-end.invariant.0),
        ap rest w.end-is ∙ found_none _ _ c.loop-end.invariant.0 c.loop-end.invariant.1 8 (c.loop-end.end - 8)
            (omega arith) (omega (arith, w.if-end-ge-EIGHT.true)) (omega (arith, w.if-count-gt0-2.false)),
      )
      | else-end-ge-EIGHT w ↦ (
        omega (arith, w.end-is, c.loop-end.invariant.0),
        ap rest w.end-is ∙ c.loop-end.invariant.1,
      )
    ]
