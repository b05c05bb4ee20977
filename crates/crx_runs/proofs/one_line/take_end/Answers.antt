use Rattle.std.proofs.Common.{[], None, refl, ◌∙◌, arith}
use Rattle.crx_runs.proofs.{DeviceSpans.joins-idle, LinesTaken.{end-stays, end-warns, line-becomes, once}}
use Rattle.crx_runs.proofs.one_line.take_end.Goals as goal
use Rattle.std.proofs.lemmas.Grind.{common_steps}

pub returns-clause-taken : goal.returns-clause-taken
returns-clause-taken g c =
    let then = c.end.new.self in
    let kept = c.write_step.ensures.kept in
    record {
      filter = kept.filter ∙ c.end.ensures.stepped.filter;
      drained = c.write_step.ensures.drained;
      becomes = λ lines next comes. let answered = rw c.in_ok-step.was at (c.end.ensures.answers lines
          comes.0) in rw (comes.1) (line-becomes joins-idle joins-idle (g.E.Engine.filter c.args.engine.now)
          lines None [] (refl, refl) (refl, refl) g.E.Engine then (g.E.Engine.ready then) c.in_ok-step.step
          (rw c.in_ok-step.was at c.end.ensures.stepped.drained) answered _ (kept.ended lines)
          c.write_step.result _ (once c.write_step.result) (end-stays (g.E.Engine.filter c.args.engine.now)
          g.E.Engine then (g.E.Engine.ready then) lines c.in_ok-step.step _ answered)
          c.write_step.ensures.settled);
    }

pub returns-clause-warns : goal.returns-clause-warns
returns-clause-warns g c = grind (arith, common_steps, end-warns)
