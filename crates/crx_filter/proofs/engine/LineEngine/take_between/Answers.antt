use Rattle.crx_filter.proofs.Vocabulary.{common_steps, arith, sym, refl, ap, ◌∙◌, begins_epoch, InputLine}
use Rattle.crx_filter.proofs.steps.EngineFaults.{handed-line, refused-read}
use Rattle.{crx_filter.proofs.steps.EngineAnswers.goes-on, crx_lines.specs.Reading.line_shown}
use Rattle.crx_filter.proofs.engine.LineEngine.take_between.Goals as goal

pub returns-in-Err : goal.returns-in-Err
returns-in-Err g c =
    let taken = c.in-Err.ensures.takes in
    let content = ap (λ (l : InputLine). l.content) c.of-line.ensures.shown in
    rw (← c.self.view_is, ← c.of-line.ensures.shown, ← content) (record {
      takes = refused-read g.D.Direction _ c.fail.new.self (line_shown c.of-line.result)
          (goes-on g.D.Direction _ c.self.invariant.3 c.stage-stage.ensures.lawful) c.stage-stage.ensures.passes
          (λ choices lines known. c.fail.ensures.stays choices lines (taken.stays choices lines known))
          c.of-line.result.short
          (c.fail.ensures.fails _ c.may_skip.ensures.value c.is_in_epoch-is_open.ensures.value)
          (sym c.stage-stage.ensures.value) c.stage-stage.ensures.held
          (sym (c.begins_epoch-begins.ensures.value ∙ ap begins_epoch c.line.ensures.value
          ∙ ap (λ (l : InputLine). begins_epoch l.content) (sym c.of-line.ensures.shown))) taken.reads;
    })

pub returns-in-Ok : goal.returns-in-Ok
returns-in-Ok g c =
    let d = g.D.Direction in
    let out = c.in-Ok.handed_out in
    let content = ap (λ (l : InputLine). l.content) c.of-line.ensures.shown in
    let next = rw (← c.self.view_is) at c.requires.next in
    rw (← c.self.view_is, ← c.of-line.ensures.shown, ← content) (record {
      takes = record {
        goes = goes-on d _ c.self.invariant.3 c.stage-stage.ensures.lawful;
        steps = handed-line d.by_line _ c.self.inside.options c.self.inside.number
            (d.parts c.self.inside.direction) (d.parts c.take_elsewhere-taken.new.self) _ out _ _ refl
            c.in-Ok.ensures.takes.reads;
        ended = grind (arith, common_steps);
        notes = grind (arith, common_steps, next);
        stays = λ choices lines known. grind (arith, common_steps);
      };
    })
