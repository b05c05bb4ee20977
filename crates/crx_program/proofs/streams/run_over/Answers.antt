use Rattle.std.specs.Io.Buffered.{writer_contents}
use Rattle.std.proofs.Common.{◌≡◌, ap, ◌∙◌, map, string_bytes}
use Rattle.crx_command.specs.declared.job.Job.{Job}
use Rattle.crx_command.specs.meaning.Planning.{Run, plan_of}
use Rattle.crx_lines.specs.declared.device.Std.{Std}
use Rattle.crx_lines.specs.declared.uninterrupted.Uninterrupted.{Uninterrupted}
use Rattle.crx_runs.specs.declared.until_failure.UntilFailure.{UntilFailure}
use Rattle.crx_program.specs.{declared.log.Logged.Logged, LateWriters.late_contents}
use Rattle.crx_program.proofs.{KeptLemmas.kept-of_exact, StreamLemmas.{by_plan, fresh, run_over}}
use Rattle.crx_program.proofs.streams.run_over.Goals as goal

pub returns : goal.returns
returns g c =
    let input = fresh _ _ c.new-input.result c.new-input.ensures.inner c.new-input.ensures.log
    (ap (λ (d : Std (Uninterrupted g.row.I.Denot)). d.inner) c.with_waits.ensures.whole ∙ c.new.ensures.inner)
    (ap (λ (d : Std (Uninterrupted g.row.I.Denot)). d.failures) c.with_waits.ensures.whole
    ∙ c.new.ensures.failures)
    (ap (λ (d : Std (Uninterrupted g.row.I.Denot)). d.ends) c.with_waits.ensures.whole ∙ c.new.ensures.ends)
    (ap (λ (d : Std (Uninterrupted g.row.I.Denot)). d.flushes) c.with_waits.ensures.whole
    ∙ c.new.ensures.flushes)
    (ap (λ (d : Std (Uninterrupted g.row.I.Denot)). d.is_broken) c.with_waits.ensures.whole
    ∙ c.new.ensures.broken) in
    let output = fresh _ _ c.new-output.result c.new-output.ensures.inner c.new-output.ensures.log
    c.new-2.ensures.inner c.new-2.ensures.failures c.new-2.ensures.ends c.new-2.ensures.flushes
    c.new-2.ensures.broken in
    let messages = fresh _ _ c.new-messages.result c.new-messages.ensures.inner c.new-messages.ensures.log
    c.new-3.ensures.inner c.new-3.ensures.failures c.new-3.ensures.ends c.new-3.ensures.flushes
    c.new-3.ensures.broken in
    let ended = c.run_with_files-ended.ensures in
    let may_wait = λ (d : Logged (Std (Uninterrupted g.row.I.Denot))). d.inner.may_wait in
    let first : may_wait c.new-input.result ≡ c.args.may_wait =
    ap (λ (d : Std (Uninterrupted g.row.I.Denot)). d.may_wait)
    (c.new-input.ensures.inner ∙ c.with_waits.ensures.whole) in
    let run = λ (job : Job) (e : plan_of (map string_bytes c.args.words.items) ≡ Run job). run_over
    (λ (r : Uninterrupted g.row.H-File.Denot). g.H.File.Read.remaining r.inner)
    (writer_contents (late_contents (λ (w : UntilFailure (Uninterrupted g.row.H-File.Denot)).
    g.H.File.Write.contents w.inner.inner))) (λ (r : Uninterrupted g.row.I.Denot). g.I.Read.remaining r.inner)
    (writer_contents (λ (w : UntilFailure (Uninterrupted g.row.O.Denot)). g.O.Write.contents w.inner.inner))
    (λ (w : Uninterrupted g.row.E.Denot). g.E.Write.contents w.inner)
    c.args.moment job _ _ _ _ _ _ c.new-messages.result c.run_with_files-ended.new.messages
    c.new-input.ensures.log c.new-output.ensures.log c.new-messages.ensures.log (ended.devices job e).input
    (ended.devices job e).output _ _ _ (ended.done job e) in
    record {
      refused = λ refusal e. (
        (c.new-messages.result, messages, (ended.refused refusal e).0),
        rw (ended.refused refusal e).1 c.new-input.ensures.log,
        rw (ended.refused refusal e).2 c.new-output.ensures.log,
        ((ended.refused refusal e).3, (ended.refused refusal e).4),
        (ended.refused refusal e).5,
      );
      help = λ e. (
        (c.new-output.result, output, (c.new-messages.result, messages, (ended.help e).0)),
        rw (ended.help e).1 c.new-input.ensures.log,
        ((ended.help e).2, (ended.help e).3),
        (ended.help e).4,
      );
      done = λ job e. (
        c.new-input.result,
        input,
        (
          c.new-output.result,
          output,
          (
            c.new-messages.result,
            messages,
            ended.done job e,
          ),
        ),
      );
      does = λ job e.
          let run = run job e in record {
            opens = run.2;
            exact = run.0;
            front = run.1;
            keeps = λ well. kept-of_exact {E = g.row.E.Denot} c.args.moment job (record {
              status = _;
              input = _;
              output = _;
              messages = c.run_with_files-ended.new.messages;
              source = _;
              target = _;
            }) well (run.0 well);
          };
      waits = by_plan (plan_of (map string_bytes c.args.words.items))
          (λ e. ap may_wait (ended.help e).1 ∙ first)
          (λ refusal e. ap may_wait (ended.refused refusal e).1 ∙ first)
          (λ job e. (run job e).3 ∙ first);
    }
