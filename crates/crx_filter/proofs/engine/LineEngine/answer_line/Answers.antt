use Rattle.crx_filter.proofs.{Vocabulary.begins_epoch, steps.{EngineAnswers.goes-on, EngineFaults.refused-read}}
use Rattle.{crx_filter.specs.declared.stage.Stage.TheVariants.Open, crx_lines.specs.Reading.line_shown}
use Rattle.std.proofs.Common.{refl, sym, ap, ◌∙◌}
use Rattle.crx_filter.proofs.engine.LineEngine.answer_line.Goals as goal

pub returns-in-Err : goal.returns-in-Err
returns-in-Err g c =
    let now = c.in-Open.ensures in
    let taken = c.in-Err.ensures.takes in
    rw (← c.self.view_is) (record {
      takes = refused-read g.D.Direction _ c.fail.new.self (line_shown c.args.line)
          (goes-on g.D.Direction _ c.self.invariant.3 now.lawful) now.passes
          (λ choices lines known. c.fail.ensures.stays choices lines (taken.stays choices lines known))
          c.args.line.short (c.fail.ensures.fails Open refl refl) (sym now.value) now.held
          (sym (c.begins_epoch.ensures.value ∙ ap begins_epoch c.bytes.ensures.content)) taken.reads;
    })
