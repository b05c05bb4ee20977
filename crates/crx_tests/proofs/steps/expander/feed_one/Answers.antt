use Rattle.std.proofs.Common.{◌≡◌, ℕ, Ok, sym, subst}
use Rattle.crx_lines.specs.Reading.{line_shown}
use Rattle.crx_base.specs.meaning.AsRead.{Content}
use Rattle.crx_filter.specs.ExpansionByLine.{expansion}
use Rattle.crx_filter.specs.ExpanderState.{expander_ready, expander_state}
use Rattle.crx_runs.specs.Engines.{taken_after}
use Rattle.crx_filter.specs.LineByLine.{RunState}
use Rattle.crx_filter.proofs.steps.StepCounts.{steps-counted}
use Rattle.crx_tests.proofs.steps.expander.feed_one.Goals as goal

same-number : {O K : Type 0} (before after : RunState O K) (n : ℕ) → after ≡ before → before.number ≡ n
    → after.number ≡ n
same-number {O = O} {K = K} before after n is h = subst (λ (s : RunState O K). s.number ≡ n) (sym is) h

-- the ready lines are taken without a change of the state, and the line counts as its answer says
pub returns-in-Ok-clause-counted : goal.returns-in-Ok-clause-counted
returns-in-Ok-clause-counted g c =
    let self = c.args.engine.now in
    let fed = c.feed.new.self in
    let answer = c.in-Ok.answer in
    let counted = steps-counted expansion (expander_state self)
    (expander_state fed) (Content (line_shown c.args.line).content) (expander_ready fed)
    (Ok answer) c.in-Ok.ensures.takes.steps in
    let by-number = subst (λ (n : ℕ). (expander_state fed).number ≡ taken_after answer n) c.requires.counted
    counted in
    let by-result = subst (λ (n : ℕ). (expander_state fed).number ≡ n) (sym c.number_after.ensures) by-number in
    same-number (expander_state fed)
    (expander_state c.take_ready.new.engine) c.number_after.result c.take_ready.ensures by-result
