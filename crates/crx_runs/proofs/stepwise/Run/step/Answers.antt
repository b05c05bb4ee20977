use Rattle.std.proofs.{lemmas.Grind.common_steps}
use Rattle.std.proofs.{Common.{◌≡◌, List, Err, false, arith, ⊎_elim, inl, inr, [], Ok, Some, None, refl, sym, ap, ◌∙◌, subst}}
use Rattle.crx_base.specs.declared.fault.Fault.TheVariants.{LineTooLong}
use Rattle.crx_lines.specs.{Readers.reading, Reading.{HasNoFeed}, Reading.ReaderState}
use Rattle.crx_lines.specs.declared.phase.Phase.TheVariants.{Open}
use Rattle.crx_lines.specs.meaning.Devices.{Tally, tally_of}
use Rattle.crx_runs.proofs.StepReading.{HasAsked, ReadsLine, err-not-none, has-no-feed, held-asked}
use Rattle.crx_runs.proofs.LinesTaken.{answered-next}
use Rattle.crx_runs.proofs.StepReading.{line-read, overlong-read, some-not-none}
use Rattle.crx_runs.proofs.RunningSteps.{goes-by, handing-fails, stepped-ok, still-running}
use Rattle.crx_runs.proofs.{stepwise.Run.step.Goals.{After-next_held, In-Ok-Some}, stepwise.Run.step.Given.Over, DeviceSpans.span-joins}
use Rattle.crx_base.specs.meaning.Lines.{InputLine}
use Rattle.crx_lines.specs.{Progress.HasRead, Reading.{line_number, line_shown}}
use Rattle.crx_runs.specs.declared.one_line.Halt.TheVariants.{Unwritten}
use Rattle.crx_runs.specs.{Running.IsRunning, meaning.Spans.{reader_span, span}}
use Rattle.crx_runs.proofs.stepwise.Run.step.Goals as goal

-- How often a reader has failed and has reported the end.
abbrev counts : (g : Over) → g.row.R.Denot → Tally
counts g r = tally_of (g.R.Source.failures r) (g.R.Source.ends r)

asked : (g : Over) (c : After-next_held g) → (c.next_held.result ≡ Ok None → ⊥)
    → HasAsked (λ given. g.R.Source.gave c.args.reader.now given c.args.reader.now)
    (g.R.Source.at_end c.args.reader.now) (counts g c.args.reader.now) (counts g c.args.reader.now)
    (reading c.args.self.now.input) (reading c.next_held.follows.lender-at-none) c.next_held.result
asked g c some = held-asked c.next_held.result (g.met.R.Source.gave_none c.args.reader.now)
    (⊎_elim (λ none. absurd (some none)) (λ is. is) c.next_held.ensures.going)
    c.next_held.follows.holds-at-none some

-- The held line, as it was read.
read : (g : Over) (c : In-Ok-Some g) (r0 : g.row.R.Denot) (lines : List InputLine)
    → HasRead (λ given. g.R.Source.gave r0 given c.args.reader.now) (g.R.Source.at_end c.args.reader.now)
    (counts g r0) (counts g c.args.reader.now) (reading c.args.self.now.input) lines
    → ReadsLine (λ given. g.R.Source.gave r0 given c.args.reader.now) (g.R.Source.at_end c.args.reader.now)
    (counts g r0) (counts g c.args.reader.now) (reading c.next_held.follows.lender-at-none) lines
    (line_shown c.in-Ok-Some.line) (line_number c.in-Ok-Some.line)
read g c r0 lines before =
    let at = (goal.at.In-Ok-Some g c).After-next_held in
    let is = c.in-Ok-Some.is ∙ ap Ok c.in-Ok-Some.field-0-is in
    line-read (asked g at (λ none. some-not-none _ (sym is ∙ none))) (g.met.R.Source.gave_both r0 _ _) before _ is

pub returns-in-Ok-true-clause-goes : goal.returns-in-Ok-true-clause-goes
returns-in-Ok-true-clause-goes g c = λ r0 w0 m0 lines shown running.
    let at = (goal.at.returns-in-Ok-true-clause-goes g c).In-Ok-Some in
    let taken = rw (c.in-Ok-true.is ∙ ap Ok c.in-Ok-true.field-0-test) at c.feed_line.ensures.taken in
    goes-by (g.E.Engine.filter c.args.self.now.engine) (span-joins g.W.Sink g.met.W.Sink.took_both)
    (span-joins g.M.Sink g.met.M.Sink.took_both) running (read g at r0 lines running.read) _ (Ok false)
    (taken.becomes lines _ (shown, refl))

pub returns-in-Ok-false-clause-goes : goal.returns-in-Ok-false-clause-goes
returns-in-Ok-false-clause-goes g c = λ r0 w0 m0 lines shown running.
    let at = (goal.at.returns-in-Ok-false-clause-goes g c).In-Ok-Some in
    let is = c.in-Ok-false.is ∙ ap Ok c.in-Ok-false.field-0-test in
    let held = rw (is) at c.feed_line.ensures.taken in
    let then = c.take_answer.ensures.taken in
    let taken = answered-next g.E.Engine c.args.self.now.engine c.feed_line.new.engine c.take_answer.new.engine
    (line_shown c.in-Ok-Some.line) held.1 held.2 then.1 in
    rw (then.2) (goes-by (g.E.Engine.filter c.args.self.now.engine)
    (span-joins g.W.Sink g.met.W.Sink.took_both) (span-joins g.M.Sink g.met.M.Sink.took_both) running
    (read g at r0 lines running.read) _ then.0
    (rw (c.feed_line.ensures.untouched is) at (taken.becomes lines _ (shown, refl))))

pub returns-in-Ok-false-clause-stepped : goal.returns-in-Ok-false-clause-stepped
returns-in-Ok-false-clause-stepped g c =
    let is = c.in-Ok-false.is ∙ ap Ok c.in-Ok-false.field-0-test in
    let held = rw (is) at c.feed_line.ensures.taken in
    let then = c.take_answer.ensures.taken in
    let kept = stepped-ok (g.E.Engine.ready c.take_answer.new.engine ≡ []) then.0 then.1.drained in
    let filter = then.1.filter ∙ held.1 in
    let told = rw (c.feed_line.ensures.untouched is) at c.take_answer.ensures.order.told in
    grind (arith, common_steps, kept, filter, told)

pub returns-in-Err-feed_line-clause-goes : goal.returns-in-Err-feed_line-clause-goes
returns-in-Err-feed_line-clause-goes g c = λ r0 w0 m0 lines shown running.
    let at = (goal.at.returns-in-Err-feed_line-clause-goes g c).In-Ok-Some in
    let taken = rw (c.in-Err-feed_line.is) at c.feed_line.ensures.taken in
    rw (c.fail_to_write.ensures.ended, c.fail_to_write.ensures.stopped) (goes-by
    (g.E.Engine.filter c.args.self.now.engine) (span-joins g.W.Sink g.met.W.Sink.took_both)
    (span-joins g.M.Sink g.met.M.Sink.took_both) running (read g at r0 lines running.read)
    (g.E.Engine.shows c.feed_line.new.engine) (Err Unwritten)
    (taken.becomes lines _ (shown, refl)))

pub returns-in-Err-clause-goes : goal.returns-in-Err-clause-goes
returns-in-Err-clause-goes g c = λ r0 w0 m0 lines shown running.
    let at = (goal.at.returns-in-Err-clause-goes g c).After-next_held in
    let long : c.in-Err.at.fault ≡ LineTooLong = (rw c.in-Err.is at c.next_held.follows.holds-at-none).0 in
    let over = overlong-read (asked g at (λ none. err-not-none _ (sym c.in-Err.is ∙ none)))
    (g.met.R.Source.gave_both r0 _ _) running.read c.in-Err.at c.in-Err.is long in
    let taken = c.take_overlong.ensures.taken in
    rw (taken.2, c.take_overlong.ensures.input) (goes-by (g.E.Engine.filter c.args.self.now.engine)
    (span-joins g.W.Sink g.met.W.Sink.took_both) (span-joins g.M.Sink g.met.M.Sink.took_both) running over.2 _ _
    (taken.1.becomes lines (Some over.0) (shown, (over.0, refl, over.1))))

pub returns-in-Err-clause-stepped : goal.returns-in-Err-clause-stepped
returns-in-Err-clause-stepped g c =
    let taken = c.take_overlong.ensures.taken in
    let kept = stepped-ok (g.E.Engine.ready c.take_overlong.new.self.engine ≡ []) taken.0 taken.1.drained in
    grind (arith, common_steps, kept)

pub returns-else-not-pass_on_before_wait-clause-goes : goal.returns-else-not-pass_on_before_wait-clause-goes
returns-else-not-pass_on_before_wait-clause-goes g c = λ r0 w0 m0 lines shown running.
    let same = rw (c.in-Ok-None.is, c.in-Ok-None.field-0-is) at c.next_held.follows.holds-at-none in
    let still = still-running (span-joins g.W.Sink g.met.W.Sink.took_both) running
    (c.pass_on_before_wait.ensures.still c.if-not-pass_on_before_wait.false) in
    grind (arith, common_steps, same, still)

pub returns-then-not-pass_on_before_wait-clause-goes : goal.returns-then-not-pass_on_before_wait-clause-goes
returns-then-not-pass_on_before_wait-clause-goes g c = λ r0 w0 m0 lines shown running.
    let same = rw (c.in-Ok-None.is, c.in-Ok-None.field-0-is) at c.next_held.follows.holds-at-none in
    let now = subst (λ (now : ReaderState). IsRunning (reader_span g.R.Source r0 c.args.reader.now)
    (span g.W.Sink w0 c.args.writer.now) (span g.M.Sink m0 c.args.messages.now) now lines
    ((g.E.Engine.filter c.args.self.now.engine).so_far lines)) (sym same) running in
    let is = c.in-Ok-None.is ∙ ap Ok c.in-Ok-None.field-0-is in
    let stop = c.fail_to_write-then-not-pass_on_before_wait.ensures in
    rw (stop.ended, stop.stopped) (inr (inr (
      refl,
      handing-fails (span-joins g.W.Sink g.met.W.Sink.took_both) now
          (subst (λ (state : ReaderState). state.phase ≡ Open → HasNoFeed state.rest) (sym same)
          (λ opened. has-no-feed _ (c.next_held.ensures.none is opened)))
          (c.pass_on_before_wait.ensures.failed c.if-not-pass_on_before_wait.true),
    )))

pub returns-else-not-pass_on_before_wait-clause-stepped : goal.returns-else-not-pass_on_before_wait-clause-stepped
returns-else-not-pass_on_before_wait-clause-stepped g c =
    let then = c.read_step.ensures.stepped in
    record {
      filter = then.filter;
      drained = then.drained;
      counted = then.counted;
      farther = grind (arith, common_steps);
      unasked = grind (arith, common_steps);
      told = ⊎_elim inl (λ told. inr (
        told.0,
        g.met.W.Sink.took_both _ _ _ [] [] (c.pass_on_before_wait.ensures.still c.if-not-pass_on_before_wait.false).0 told.1,
        told.2,
      )) then.told;
    }
