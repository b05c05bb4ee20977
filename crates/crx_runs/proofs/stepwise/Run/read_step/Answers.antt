use Rattle.std.proofs.lemmas.Grind.{common_steps}
use Rattle.std.proofs.{Common.{◌≡◌, inl, inr, List, Ok, Some, refl, sym, ap}}
use Rattle.std.proofs.Common.{subst, ◌∙◌, [], arith}
use Rattle.crx_lines.specs.{Progress.HasRead, Reading.ReaderState, Readers.reading}
use Rattle.crx_lines.specs.{declared.phase.Phase.TheVariants.Ended, meaning.Devices.{Tally, tally_of}}
use Rattle.crx_base.specs.meaning.Lines.{InputLine}
use Rattle.crx_runs.proofs.StepReading.{HasAsked, line-read, overlong-read, stop-read, end-read}
use Rattle.crx_runs.proofs.{StepReading.{ended-not-open}, RunningSteps.{goes-by, stepped-ok}}
use Rattle.crx_runs.proofs.stepwise.Run.read_step.Goals.{After-next_line}
use Rattle.crx_runs.proofs.{stepwise.Run.read_step.Given.Over, DeviceSpans.span-joins}
use Rattle.crx_runs.proofs.stepwise.Run.read_step.Goals as goal

-- How often a reader has failed and has reported the end.
abbrev counts : (g : Over) → g.row.R.Denot → Tally
counts g r = tally_of (g.R.Source.failures r) (g.R.Source.ends r)

-- These lines were read between two states of the reader, and the reader of lines is in `state`.
abbrev Read : (g : Over) → g.row.R.Denot → g.row.R.Denot → ReaderState → List InputLine → Type 0
Read g r0 r state lines = HasRead (λ given. g.R.Source.gave r0 given r) (g.R.Source.at_end r) (counts g r0)
    (counts g r) state lines

asked : (g : Over) (c : After-next_line g)
    → HasAsked (λ given. g.R.Source.gave c.args.reader.now given c.next_line.new.reader)
    (g.R.Source.at_end c.next_line.new.reader) (counts g c.args.reader.now) (counts g c.next_line.new.reader)
    (reading c.args.self.now.input) (reading c.next_line.follows.lender-at-none) c.next_line.result
asked = grind arith

pub returns-in-Ok-Some-clause-goes : goal.returns-in-Ok-Some-clause-goes
returns-in-Ok-Some-clause-goes g c = λ r0 w0 m0 lines shown running.
    let at = (goal.at.returns-in-Ok-Some-clause-goes g c).After-next_line in
    rw (c.stop.ensures.answer) (goes-by (g.E.Engine.filter c.args.self.now.engine)
    (span-joins g.W.Sink g.met.W.Sink.took_both) (span-joins g.M.Sink g.met.M.Sink.took_both)
    running (line-read (asked g at) (g.met.R.Source.gave_both r0 _ _) running.read _
    (c.in-Ok-Some.is ∙ ap Ok c.in-Ok-Some.field-0-is)) _ _
    (c.take_line-answer.ensures.taken.becomes lines _ (shown, refl)))

pub returns-in-Ok-None-clause-goes : goal.returns-in-Ok-None-clause-goes
returns-in-Ok-None-clause-goes g c = λ r0 w0 m0 lines shown running.
    let at = (goal.at.returns-in-Ok-None-clause-goes g c).After-next_line in
    let r2 = c.next_line.new.reader in
    let old = reading c.args.self.now.input in
    let new = reading c.next_line.follows.lender-at-none in
    let kept : old.phase ≡ Ended → Read g r0 r2 new lines × (new.phase ≡ Ended) = λ e.
    let still : new ≡ old = c.next_line.follows.holds-at-none.1 (λ o. ended-not-open (sym e ∙ o)) in (
      subst (λ n. Read g r0 r2 n lines) (sym still)
          (subst (λ r. Read g r0 r old lines) (sym (c.next_line.ensures.ended e).1) running.read),
      ap (λ n. n.phase) still ∙ e,
    ) in
    let over = end-read (asked g at) (g.met.R.Source.gave_both r0 _ r2) running.read
    (c.in-Ok-None.is ∙ ap Ok c.in-Ok-None.field-0-is) kept in
    record {
      shown = shown;
      running = record { read = over.0; going = inr over.1; out = running.out };
      ended = over.1;
    }

pub returns-in-LineTooLong-clause-goes : goal.returns-in-LineTooLong-clause-goes
returns-in-LineTooLong-clause-goes g c = λ r0 w0 m0 lines shown running.
    let at = (goal.at.returns-in-LineTooLong-clause-goes g c).After-next_line in
    let over = overlong-read (asked g at) (g.met.R.Source.gave_both r0 _ c.next_line.new.reader) running.read
    c.in-Err.at c.in-Err.is c.in-LineTooLong.is in
    let taken = c.take_overlong.ensures.taken in
    rw (taken.2, c.take_overlong.ensures.input) (goes-by (g.E.Engine.filter c.args.self.now.engine)
    (span-joins g.W.Sink g.met.W.Sink.took_both) (span-joins g.M.Sink g.met.M.Sink.took_both) running over.2 _ _
    (taken.1.becomes lines (Some over.0) (shown, (over.0, refl, over.1))))

pub returns-in-LineTooLong-clause-stepped : goal.returns-in-LineTooLong-clause-stepped
returns-in-LineTooLong-clause-stepped g c =
    let taken = c.take_overlong.ensures.taken in
    let kept = stepped-ok (g.E.Engine.ready c.take_overlong.new.self.engine ≡ []) taken.0 taken.1.drained in
    grind (arith, common_steps, kept)

pub returns-in_default-clause-goes : goal.returns-in_default-clause-goes
returns-in_default-clause-goes g c = λ r0 w0 m0 lines shown running.
    let at = (goal.at.returns-in_default-clause-goes g c).After-next_line in
    let stopped = stop-read (asked g at) (g.met.R.Source.gave_both r0 _ c.next_line.new.reader) running.read
    c.in-Err.at c.in-Err.is c.in_default.not-LineTooLong in
    rw (c.stop-in_default.ensures.answer) (inl (
      c.in-Err.at,
      refl,
      record { read = stopped.0; stopped = stopped.1; out = running.out },
    ))
