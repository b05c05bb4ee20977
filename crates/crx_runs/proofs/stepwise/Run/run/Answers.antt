use Rattle.std.proofs.Common.{◌≡◌, true, false, ◌||◌, inl, inr, None, Some, [], refl, arith, ◌∙◌}
use Rattle.crx_lines.specs.Readers.{reading}
use Rattle.crx_runs.proofs.{Conclusions.runs-as, DeviceSpans.span-joins, RunningSteps.{go-on, stopped-by, stopped-end, well-done}}
use Rattle.crx_runs.proofs.stepwise.Run.run.{Given.Over, Goals.{After-step, In-Ok}}
use Rattle.crx_runs.specs.{Endings.{Finishes}, Running.{StepGoes, step_answer}}
use Rattle.crx_runs.specs.{Taking.IsDone, meaning.Spans.{reader_span, span}}
use Rattle.crx_runs.proofs.stepwise.Run.run.Goals as goal
use Rattle.std.proofs.lemmas.Grind.{common_steps}

-- A step, by the filter that the engine had at first.
goes : (g : Over) (c : After-step g) → StepGoes (g.E.Engine.filter c.args.self.now.engine)
    (g.E.Engine.shows c.step.new.self.engine) (reader_span g.R.Source c.args.reader.now c.step.new.reader) (span
    g.W.Sink c.args.writer.now c.step.new.writer) (span g.M.Sink c.args.messages.now c.step.new.messages)
    (reading c.step.new.self.input) c.lines.invariant.0.0
    (step_answer c.step.result c.step.new.self.ended)
goes g c = rw (c.lines.invariant.2) at (c.step.ensures.goes c.args.reader.now c.args.writer.now
    c.args.messages.now c.lines.invariant.0.0 c.lines.invariant.0.1
    (rw (c.lines.invariant.2) c.lines.invariant.0.2))

pub lines-preserved-in-Taken : goal.lines-preserved-in-Taken
lines-preserved-in-Taken g c =
    let by = rw (c.in-Taken.is) at
    (goes g (goal.at.lines-preserved-in-Taken g c).After-step) in
    let both : c.lines.warned ≡ (c.lines.warned || false) = grind arith in
    grind (arith, common_steps, by, go-on c.lines.invariant.0.3 by both)

pub lines-preserved : goal.lines-preserved
lines-preserved g c =
    let by = rw (c.in-Warned.is) at
    (goes g (goal.at.lines-preserved g c).After-step) in
    let both : true ≡ (c.lines.warned || true) = grind arith in
    grind (arith, common_steps, by, go-on c.lines.invariant.0.3 by both)

-- The end of the input was taken, and nothing failed.
end-done : (g : Over) (c : In-Ok g) → g.E.Engine.shows c.step.new.self.engine c.lines.invariant.0.0 [] → IsDone
    ((g.E.Engine.filter c.args.self.now.engine).so_far c.lines.invariant.0.0)
    ((g.E.Engine.filter c.args.self.now.engine).whole c.lines.invariant.0.0) (g.E.Engine.has_ended
    c.take_end.new.engine c.lines.invariant.0.0) (span g.W.Sink c.step.new.writer c.take_end.new.writer)
    (span g.M.Sink c.step.new.messages c.take_end.new.messages) c.in-Ok.warning
end-done g c shown = rw (← c.lines.invariant.2, ← c.step.ensures.stepped.filter)
    (c.in-Ok.ensures.taken.becomes _ None (shown, refl))

pub returns-in-Ok : goal.returns-in-Ok
returns-in-Ok g c =
    let at = goal.at.returns-in-Ok g c in
    let comes = rw (c.in-AtEnd.is) at (goes g at.After-step) in
    let done = well-done (span-joins g.W.Sink g.met.W.Sink.took_both) (span-joins g.M.Sink g.met.M.Sink.took_both)
    comes refl c.lines.invariant.0.3 refl (end-done g at.In-Ok comes.shown) in
    let finished : Finishes (span g.W.Sink c.take_end.new.writer c.finish-in-Ok.new.writer)
    (span g.M.Sink c.take_end.new.messages c.finish-in-Ok.new.messages) c.number-last.result (c.lines.warned || c.in-Ok.warning) None
    c.finish-in-Ok.result.status c.finish-in-Ok.result.fault = c.finish-in-Ok.ensures in
    record {
      runs = runs-as (g.E.Engine.filter c.args.self.now.engine) c.requires.lawful
          (reader_span g.R.Source c.args.reader.now c.step.new.reader) (span-joins g.W.Sink g.met.W.Sink.took_both)
          (span-joins g.M.Sink g.met.M.Sink.took_both) (g.E.Engine.has_ended c.take_end.new.engine)
          (reading c.step.new.self.input) (reading c.step.new.self.input).number (c.lines.warned || c.in-Ok.warning) None
          c.finish-in-Ok.result.status c.finish-in-Ok.result.fault done (rw (c.number-last.ensures.value) at finished);
    }

pub take_end-requires-clause-within : goal.take_end-requires-clause-within
take_end-requires-clause-within g c =
    let comes = rw (c.in-AtEnd.is) at (goes g (goal.at.take_end-requires-clause-within g c).After-step) in
    let counted = c.in-AtEnd.ensures.stepped.counted in
    omega (arith, g.met.E.Engine.counted _ _ _ comes.shown, comes.running.read.number)

pub returns-in-Err : goal.returns-in-Err
returns-in-Err g c =
    let comes = rw (c.in-AtEnd.is) at (goes g (goal.at.returns-in-Err g c).After-step) in
    let ends = stopped-end (span-joins g.W.Sink g.met.W.Sink.took_both) (span-joins g.M.Sink g.met.M.Sink.took_both)
    comes c.in-Err.halt (rw (c.step.ensures.stepped.filter, c.lines.invariant.2) at
    (c.in-Err.ensures.taken.becomes _ None (comes.shown, refl))) in
    record {
      runs = runs-as (g.E.Engine.filter c.args.self.now.engine) c.requires.lawful
          (reader_span g.R.Source c.args.reader.now c.step.new.reader) (span-joins g.W.Sink g.met.W.Sink.took_both)
          (span-joins g.M.Sink g.met.M.Sink.took_both) (g.E.Engine.has_ended c.take_end.new.engine)
          (reading c.step.new.self.input) c.number-last.result c.lines.warned (Some c.in-Err.halt)
          c.finish-in-Err.result.status c.finish-in-Err.result.fault
          (inl (c.lines.invariant.0.0, inr ends, c.number-last.ensures.value)) c.finish-in-Err.ensures;
    }

pub returns-in-Stopped : goal.returns-in-Stopped
returns-in-Stopped g c =
    let by = rw (c.in-Stopped.is) at (goes g (goal.at.returns-in-Stopped g c).After-step) in
    let halt = stopped-by (g.E.Engine.shows c.step.new.self.engine) c.step.new.self.ended
    (rw (c.in-Stopped.is) at c.step.ensures.kept) by in
    let finished : Finishes (span g.W.Sink c.step.new.writer c.finish.new.writer)
    (span g.M.Sink c.step.new.messages c.finish.new.messages) c.number.result c.lines.warned c.step.new.self.ended
    c.finish.result.status c.finish.result.fault = c.finish.ensures in
    record {
      runs = runs-as (g.E.Engine.filter c.args.self.now.engine) c.requires.lawful
          (reader_span g.R.Source c.args.reader.now c.step.new.reader) (span-joins g.W.Sink g.met.W.Sink.took_both)
          (span-joins g.M.Sink g.met.M.Sink.took_both) (g.E.Engine.has_ended c.step.new.self.engine)
          (reading c.step.new.self.input) (reading c.step.new.self.input).number c.lines.warned (Some halt.0)
          c.finish.result.status c.finish.result.fault (inl (c.lines.invariant.0.0, inl halt.2, refl)) (rw (c.number.ensures.value, halt.1) at finished);
    }
