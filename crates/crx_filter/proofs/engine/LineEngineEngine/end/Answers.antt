use Rattle.crx_filter.proofs.steps.{EngineAnswers.end-answered, StepCounts.end-stepped}
use Rattle.crx_filter.specs.EngineState.{engine_state, engine_took}
use Rattle.std.proofs.Common.{length, ◌≡◌}
use Rattle.crx_filter.proofs.engine.LineEngineEngine.end.Goals as goal

pub returns-clause-stepped : goal.returns-clause-stepped
returns-clause-stepped g c = end-stepped g.D.Direction.by_line (g.D.Direction.lines_at_end
    c.args.self.now.direction) _ (engine_state g.D.Direction c.args.self.now) (engine_state g.D.Direction
    c.end.new.self) _ g.D.Direction.filter c.end.ensures.takes.steps

pub returns-clause-answers : goal.returns-clause-answers
returns-clause-answers g c = λ lines shown. let then = c.end.new.self in
    end-answered g.D.Direction c.args.self.now then
    (λ ls ns. engine_took g.D.Direction then ls ns × (then.number ≡ length ls)) _ c.end.ensures.takes lines
    shown.0
