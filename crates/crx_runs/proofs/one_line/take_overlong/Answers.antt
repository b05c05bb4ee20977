use Rattle.std.proofs.lemmas.Result.{err_from_is_err_and}
use Rattle.std.proofs.Common.{[], Some, inl, refl, ◌∙◌}
use Rattle.crx_runs.proofs.{DeviceSpans.joins-idle, LinesTaken.{always-ok, line-becomes, line-refused, once}}
use Rattle.crx_runs.proofs.one_line.take_overlong.Goals as goal

pub returns-in_err-step-clause-taken : goal.returns-in_err-step-clause-taken
returns-in_err-step-clause-taken g c =
    let then = c.overlong.new.self in
    let p = err_from_is_err_and c.from_residual.result c.from_residual.ensures.1 in
    rw (p.1, p.2) (record {
      filter = c.overlong.ensures.stepped.filter;
      drained = tt;
      becomes = λ lines next comes. rw (comes.1.1) (line-refused joins-idle joins-idle (g.E.Engine.filter
          c.args.engine.now) lines (Some comes.1.0) [] (refl, refl) (refl, refl) g.E.Engine then
          (g.E.Engine.ready then) _ (rw c.in_err-step.was at (c.overlong.ensures.answers lines [] comes.1.0
          comes.0 tt comes.1.2)) (inl refl) (g.met.W.Sink.took_none _, refl) (
            g.met.M.Sink.took_none _,
            refl,
          ));
    })

pub returns-clause-taken : goal.returns-clause-taken
returns-clause-taken g c =
    let then = c.overlong.new.self in
    let kept = c.write_step.ensures.kept in
    record {
      filter = kept.filter ∙ c.overlong.ensures.stepped.filter;
      drained = c.write_step.ensures.drained;
      becomes = λ lines next comes. rw (comes.1.1) (line-becomes joins-idle joins-idle (g.E.Engine.filter
          c.args.engine.now) lines (Some comes.1.0) [] (refl, refl) (refl, refl) g.E.Engine then
          (g.E.Engine.ready then) c.in_ok-step.step (rw c.in_ok-step.was at
          c.overlong.ensures.stepped.drained) (rw c.in_ok-step.was at (c.overlong.ensures.answers lines []
          comes.1.0 comes.0 tt comes.1.2)) _ (kept.shows _ []) c.write_step.result _
          (once c.write_step.result)
          (always-ok c.write_step.result (rw c.in_ok-step.was at c.overlong.ensures.once))
          c.write_step.ensures.settled);
    }
