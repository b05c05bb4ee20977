use Rattle.std.proofs.Common.{◌∙◌, Some, ap, inl, inr, refl, sym}
use Rattle.crx_program.proofs.CallLemmas.{called-to_write}
use Rattle.crx_program.specs.meaning.Jobs.{CannotCreate, FileExists}
use Rattle.crx_program.proofs.program.run_to_target.Goals as goal

pub returns-in-Ok-open_to_write-clause-done : goal.returns-in-Ok-open_to_write-clause-done
returns-in-Ok-open_to_write-clause-done g c =
    let named = c.in-Some.is ∙ ap Some (sym c.text.ensures.value) in
    let opened = c.in-Ok-open_to_write.ensures.opened in
    inl (
      called-to_write c.args.files.now.log.calls c.open_to_write.new.self.log.calls c.text.result.now
          c.args.job.now.target c.args.job.now.force named c.open_to_write.ensures.calls,
      rw named (
        c.in-Ok-open_to_write.device.opening,
        (opened.name_is, opened.how_is),
        (
          c.in-Ok-open_to_write.device,
          c.filter-status.new.writer,
          refl,
          refl,
          opened.log,
          opened.failures,
          c.filter-status.ensures,
        ),
      ),
    )

pub returns-in-Err-clause-done : goal.returns-in-Err-clause-done
returns-in-Err-clause-done g c =
    let named = c.in-Some.is ∙ ap Some (sym c.text.ensures.value) in
    inr (record {
      why = FileExists c.text-in-Err.result.now;
      can = (c.in-Some.is ∙ ap Some (sym c.text-in-Err.ensures.value), c.if-not-job.true);
      shown = c.report.ensures.shown;
      status_is = c.without_files-in-Err.ensures.status ∙ c.report.ensures.status;
      same = (refl, refl, c.without_files-in-Err.ensures.target);
      opened = called-to_write c.args.files.now.log.calls c.open_to_write.new.self.log.calls c.text.result.now
          c.args.job.now.target c.args.job.now.force named c.open_to_write.ensures.calls;
    })

pub returns-in-Err-2-clause-done : goal.returns-in-Err-2-clause-done
returns-in-Err-2-clause-done g c =
    let named = c.in-Some.is ∙ ap Some (sym c.text.ensures.value) in
    inr (record {
      why = CannotCreate c.text-in-Err-2.result.now;
      can = c.in-Some.is ∙ ap Some (sym c.text-in-Err-2.ensures.value);
      shown = c.report-in-Err-2.ensures.shown;
      status_is = c.without_files-in-Err-2.ensures.status ∙ c.report-in-Err-2.ensures.status;
      same = (refl, refl, c.without_files-in-Err-2.ensures.target);
      opened = called-to_write c.args.files.now.log.calls c.open_to_write.new.self.log.calls c.text.result.now
          c.args.job.now.target c.args.job.now.force named c.open_to_write.ensures.calls;
    })
