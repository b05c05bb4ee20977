use Rattle.crx_filter.proofs.{Vocabulary.{inl, [], Overlong}, steps.EngineAnswers.{as-read-long, line-answered}}
use Rattle.crx_filter.proofs.steps.StepCounts.{answers-counted, has-stepped, steps-counted}
use Rattle.crx_filter.specs.EngineState.{engine_state, engine_took}
use Rattle.crx_filter.proofs.engine.LineEngineEngine.overlong.Goals as goal

pub returns-clause-count : goal.returns-clause-count
returns-clause-count g c = steps-counted g.D.Direction.by_line
    (engine_state g.D.Direction c.args.self.now) _ Overlong _ _ (inl c.overlong.ensures.steps)

pub returns-clause-answers : goal.returns-clause-answers
returns-clause-answers g c = λ lines notices line shown awaited long.
    let d = g.D.Direction in
    let then = c.overlong.new.self in
    rw c.overlong.ensures.drained (answers-counted (d.filter c.args.self.now.options) (engine_took d then)
    (d.report_is_right then.direction) _ _ [] lines notices line _ shown.1 (returns-clause-count g c)
    (line-answered d c.args.self.now then (d.report_is_right then.direction) line Overlong _ (as-read-long line
    long) (c.overlong.ensures.takes line long) lines notices shown.0 awaited))

pub returns-clause-stepped : goal.returns-clause-stepped
returns-clause-stepped g c = rw c.overlong.ensures.drained (has-stepped g.D.Direction.by_line
    (engine_state g.D.Direction c.args.self.now) (engine_state g.D.Direction c.overlong.new.self) Overlong _ _ g.D.Direction.filter (inl c.overlong.ensures.steps))
