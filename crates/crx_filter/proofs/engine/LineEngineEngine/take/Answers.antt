use Rattle.crx_filter.proofs.{Vocabulary.{Content, refl}, steps.EngineAnswers.{as-read-within, line-answered}}
use Rattle.crx_filter.proofs.steps.StepCounts.{answers-counted, has-stepped, steps-counted}
use Rattle.crx_filter.specs.EngineState.{engine_ready, engine_state, engine_took}
use Rattle.crx_lines.specs.Reading.{line_shown}
use Rattle.crx_runs.specs.Engines.{lines_handed_out}
use Rattle.crx_filter.proofs.engine.LineEngineEngine.take.Goals as goal

pub returns-clause-stepped : goal.returns-clause-stepped
returns-clause-stepped g c = has-stepped g.D.Direction.by_line (engine_state g.D.Direction c.args.self.now)
    (engine_state g.D.Direction c.answer_line.new.self) (Content (line_shown c.args.line).content) _ _
    g.D.Direction.filter c.answer_line.ensures.takes.steps

pub returns-clause-count : goal.returns-clause-count
returns-clause-count g c = steps-counted g.D.Direction.by_line (engine_state g.D.Direction c.args.self.now)
    (engine_state g.D.Direction c.answer_line.new.self) (Content (line_shown c.args.line).content) _ _
    c.answer_line.ensures.takes.steps

pub returns-clause-answers : goal.returns-clause-answers
returns-clause-answers g c = λ lines notices shown awaited.
    let d = g.D.Direction in
    let line = line_shown c.args.line in
    let then = c.answer_line.new.self in
    answers-counted (d.filter c.args.self.now.options) (engine_took d then) (d.report_is_right then.direction) _ _
    (lines_handed_out c.answer_line.result line.content (engine_ready d then)) lines notices
    line _ shown.1 (returns-clause-count g c) (line-answered d c.args.self.now then (d.report_is_right
    then.direction) line (Content line.content) _
    (as-read-within line line.content c.args.line.short refl) c.answer_line.ensures.takes lines notices
    shown.0 awaited)
