use Rattle.std.proofs.Common.{◌∙◌, Some, ap, inl, inr, refl, sym}
use Rattle.crx_program.{proofs.CallLemmas.{called-to_read, made-after_read}, specs.Logs.adds_both}
use Rattle.crx_program.specs.meaning.Jobs.{CannotRead, call_to_read, call_to_write}
use Rattle.crx_program.proofs.program.run_job.Goals as goal

pub returns-in-Ok-open_to_read-clause-done : goal.returns-in-Ok-open_to_read-clause-done
returns-in-Ok-open_to_read-clause-done g c =
    let job = c.args.job.now in
    let opened = c.in-Ok-open_to_read.ensures in
    let named = c.in-Some.is ∙ ap Some (sym c.text.ensures.value) in
    let first = c.args.files.now.log.calls in
    let between = c.open_to_read.new.self.log.calls in
    let last = c.run_to_target-ended.new.files.log.calls in
    let read = called-to_read first between c.text.result.now job.source named c.open_to_read.ensures.calls in
    elim c.run_to_target-ended.ensures.done [
      | inl begun ↦ inl (
        c.in-Ok.options,
        c.in-Ok.ensures,
        adds_both first between last (call_to_read job.source) (call_to_write job.target job.force) read
            begun.0,
        rw named (
          c.in-Ok-open_to_read.opened,
          c.run_to_target-ended.new.reader,
          refl,
          (opened.opened.name_is, opened.opened.log, opened.unread),
          opened.opened.failures,
          opened.ends,
          begun.1,
        ),
      )
      | inr not_begun ↦ inr (record {
        why = not_begun.why;
        can = not_begun.can;
        shown = not_begun.shown;
        status_is = not_begun.status_is;
        same = (refl, not_begun.same.1, not_begun.same.2);
        opened = made-after_read not_begun.why (call_to_read job.source) (call_to_write job.target job.force)
            first between last read not_begun.opened;
      })
    ]

pub returns-in-Err-clause-done : goal.returns-in-Err-clause-done
returns-in-Err-clause-done g c = inr (record {
  why = CannotRead c.text-in-Err.result.now;
  can = c.in-Some.is ∙ ap Some (sym c.text-in-Err.ensures.value);
  shown = c.report.ensures.shown;
  status_is = c.without_files-in-Err.ensures.status ∙ c.report.ensures.status;
  same = (refl, refl, c.without_files-in-Err.ensures.target);
  opened = called-to_read c.args.files.now.log.calls c.open_to_read.new.self.log.calls c.text.result.now
      c.args.job.now.source (c.in-Some.is ∙ ap Some (sym c.text.ensures.value)) c.open_to_read.ensures.calls;
})
