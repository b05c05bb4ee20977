use Rattle.std.proofs.Common.{[], sym, append-nil, inl, inr, refl}
use Rattle.crx_program.proofs.Refusals.{some_line}
use Rattle.crx_program.specs.Logs.{adds_none}
use Rattle.crx_program.specs.meaning.Jobs.{NoMemory, calls_of}
use Rattle.rnxcmp.proofs.host.run_streams.Goals as goal

pub returns-in-Ok : goal.returns-in-Ok
returns-in-Ok c =
    let e = rw c.in-Ok.ensures.words at c.run_over.ensures in
    record { refused = e.refused; help = e.help; done = e.done; does = e.does; waits = inl e.waits }

pub returns-in-Err-clause-waits : goal.returns-in-Err-clause-waits
returns-in-Err-clause-waits c = inr c.without_memory.ensures.input

pub returns-in-Err-clause-refused : goal.returns-in-Err-clause-refused
returns-in-Err-clause-refused c = λ refusal e.
    let shown = c.without_memory.ensures.shown in (
      (
        shown.0,
        shown.1,
        (c.without_memory.ensures.status, ((some_line refusal).0, (some_line refusal).1, inr shown.2)),
      ),
      c.without_memory.ensures.input.1,
      c.without_memory.ensures.output.1,
      c.without_memory.ensures.files,
      refl,
    )

pub returns-in-Err-clause-help : goal.returns-in-Err-clause-help
returns-in-Err-clause-help c = λ e.
    let shown = c.without_memory.ensures.shown in (
      (
        c.without_memory.result.output,
        c.without_memory.ensures.output,
        (
          shown.0,
          shown.1,
          inr (inr (
            c.without_memory.ensures.status,
            ((adds_none c.without_memory.result.output.log.bytes, refl, tt), refl),
            shown.2,
          )),
        ),
      ),
      c.without_memory.ensures.input.1,
      c.without_memory.ensures.files,
      refl,
    )

pub returns-in-Err-clause-done : goal.returns-in-Err-clause-done
returns-in-Err-clause-done c = λ job e.
    let shown = c.without_memory.ensures.shown in (
      c.without_memory.result.input,
      c.without_memory.ensures.input,
      (
        c.without_memory.result.output,
        c.without_memory.ensures.output,
        (
          shown.0,
          shown.1,
          inr (record {
            why = NoMemory;
            can = tt;
            shown = inl shown.2;
            status_is = c.without_memory.ensures.status;
            same = (refl, refl, c.without_memory.ensures.files.1);
            opened = inl refl;
          }),
        ),
      ),
    )

pub returns-in-Err-clause-does : goal.returns-in-Err-clause-does
returns-in-Err-clause-does c = λ job e. record {
  opens = ([], calls_of job, sym (append-nil c.args.files.now.log.calls), refl);
  exact = λ well. absurd (well c.without_memory.ensures.status);
  front = inr (
    c.without_memory.ensures.input.1,
    c.without_memory.ensures.output.1,
    c.without_memory.ensures.files.1,
  );
  keeps = λ well. absurd (well c.without_memory.ensures.status);
}
