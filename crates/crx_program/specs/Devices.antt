-- Devices that a job doesn't use.
use Rattle.std.specs.Prelude.{◌≡◌, true, is_some}
use Rattle.crx_command.specs.declared.job.Job.{Job}

-- a job with an input file doesn't read the input stream, and a job with an output file doesn't write to the output
-- stream
pub record LeavesDevices (job : Job) (unread unwritten : Type 0) : Type 0 where
  pub input : is_some job.source ≡ true → unread
  pub output : is_some job.target ≡ true → unwritten
