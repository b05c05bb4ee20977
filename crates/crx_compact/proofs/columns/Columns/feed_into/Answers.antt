use Rattle.crx_compact.proofs.Vocabulary.{rules, refl, ◌≡◌, ◌∙◌, sym, arith}
use Rattle.crx_compact.proofs.Vocabulary.{subst, length, None, eqb-true, Content}
use Rattle.crx_compact.proofs.Vocabulary.{HasMade, step_in}
use Rattle.crx_compact.proofs.Vocabulary.{tail_of_history}
use Rattle.crx_compact.proofs.PrintedBlocks.{idle-unprinted, printed-before, rows-printed}
use Rattle.crx_compact.proofs.reading.Stages.{state-rows, step-by-stage}
use Rattle.crx_compact.proofs.reading.StepsByCode.{made-more, printed-whole}
use Rattle.crx_base.specs.Padded.{line_in}
use Rattle.crx_compact.proofs.columns.Columns.feed_into.Goals as goal
use Rattle.std.proofs.lemmas.Grind.{common_steps}

pub returns-then-not-is_whole-clause-made : goal.returns-then-not-is_whole-clause-made
returns-then-not-is_whole-clause-made c =
    let new = c.read_line.new in
    let rows = c.in-Ok.ensures.ok in
    subst (λ s. HasMade (step_in c.args.self.now (Content (line_in c.args.line))) s None)
    (sym (state-rows c.self.inside.is_kept new.expected new.count new.history rows.rows))
    (made-more _ (tail_of_history
    new.history) new.count (search (rules, step-by-stage, c.self.view_is, c.in-Ok.ensures.ok))
    (sym rows.whole ∙ (search c.if-not-is_whole)) rows.within)

pub returns-else-not-is_whole-clause-made : goal.returns-else-not-is_whole-clause-made
returns-else-not-is_whole-clause-made c =
    let new = c.read_line.new in
    let come : new.count ≡ length new.history.satellites.rows = eqb-true new.count (length
    new.history.satellites.rows) (sym c.in-Ok.ensures.ok.whole ∙ (search c.if-not-is_whole)) in
    printed-whole _ (tail_of_history new.history) new.count (search (
      rules,
      step-by-stage,
      c.self.view_is,
      c.in-Ok.ensures.ok,
    )) (omega (arith, come)) (rw come at c.print.ensures.printed.lines)

pub print-requires-clause-before : goal.print-requires-clause-before
print-requires-clause-before c = λ some.
    let inside = c.self.inside in
    let new = c.read_line.new in
    printed-before inside.is_kept inside.expected new.expected inside.count new.count inside.history
    new.history (line_in c.args.line) c.in-Ok.is_whole c.args.self.now c.args.lines.now
    c.self.view_is
    c.requires.printed c.in-Ok.ensures.ok some

pub returns-then-not-is_whole-clause-printed : goal.returns-then-not-is_whole-clause-printed
returns-then-not-is_whole-clause-printed c = grind (arith, common_steps, rows-printed, state-rows)

pub returns-else-not-is_whole-clause-printed : goal.returns-else-not-is_whole-clause-printed
returns-else-not-is_whole-clause-printed c = idle-unprinted _ _ c.print.new.lines refl
