use Rattle.crx_program.proofs.program.run.Goals as goal

pub returns-clause-done : goal.returns-clause-done
returns-clause-done g c = λ job e. (
  c.moment_now-moment.result,
  c.run_with_files.result.source,
  c.run_with_files.result.target,
  c.run_with_files.new.files.log.calls,
  rw c.close.ensures.status (rw c.new-files.ensures.calls at (c.run_with_files.ensures.done job e)),
)

pub returns-clause-input : goal.returns-clause-input
returns-clause-input g c = λ job e. (c.run_with_files.ensures.devices job e).input

pub returns-clause-output : goal.returns-clause-output
returns-clause-output g c = λ job e. (c.run_with_files.ensures.devices job e).output
