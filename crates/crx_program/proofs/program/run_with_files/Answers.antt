use Rattle.std.proofs.Common.{arith}
use Rattle.std.proofs.lemmas.Grind.{common_steps}
use Rattle.std.proofs.Common.{◌≡◌, refl, string_bytes}
use Rattle.crx_command.{proofs.JobFits.job_fits}
use Rattle.crx_program.proofs.Refusals.{refused_by}
use Rattle.crx_runs.specs.meaning.Spans.{span}
use Rattle.crx_program.proofs.program.run_with_files.Goals as goal

pub returns-in-Err-clause-refused : goal.returns-in-Err-clause-refused
returns-in-Err-clause-refused g c = λ refusal e. (
  rw c.without_files-in-Err.ensures.status (refused_by _ refusal
      (span g.M.Sink c.args.messages.now c.refuse.new.messages) c.refuse.result c.in-Err.fault e
      c.refuse.ensures.status c.refuse.ensures.memory (c.refuse.ensures.refused refusal)
      c.in-Err.ensures.value),
  refl {a = c.args.input.now},
  refl {a = c.args.output.now},
  c.without_files-in-Err.ensures.source,
  c.without_files-in-Err.ensures.target,
  refl {a = c.args.files.now.log.calls},
)

pub run_job-requires : goal.run_job-requires
run_job-requires = grind (arith, common_steps, string_bytes, job_fits)

pub returns-in-Ok-Run-clause-done : goal.returns-in-Ok-Run-clause-done
returns-in-Ok-Run-clause-done g c = λ job e.
    let same : c.in-Ok-Run.job ≡ job =
    let planned = rw c.in-Ok-Run.field-0-is at c.in-Ok-Run.ensures.value in cc (planned, e) in
    rw (← same) c.run_job.ensures.done
