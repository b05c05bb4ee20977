-- How a log of calls grows.
use Rattle.std.proofs.Common.{◌≡◌, ◌∙◌, ℕ, Bool, List, [], ◌++◌, Option, Some, sym, inl, inr, refl}
use Rattle.std.proofs.{Common.{append_assoc, append-nil, arith}, lemmas.Grind.common_steps}
use Rattle.crx_command.specs.declared.job.Job.{Job}
use Rattle.crx_program.specs.meaning.Calls.{Call, options_to_read, with_call}
use Rattle.crx_program.specs.meaning.Jobs.{call_to_read, call_to_write, calls_of}
use Rattle.crx_program.specs.meaning.Jobs.{options_of_target, Hindrance}
use Rattle.crx_program.specs.meaning.Jobs.{MadeUntil, NoMemory, CannotRead, FileExists, CannotCreate}
use Rattle.crx_program.specs.meaning.Streams.{OpensInOrder}

-- a call to write
pub called-to_write : (before after : List Call) (name : List ℕ) (target : Option (List ℕ)) (force : Bool)
    → target ≡ Some name → after ≡ with_call before name (options_of_target force)
    → after ≡ before ++ call_to_write target force
called-to_write before after name target force named made = rw named made

-- a call to read
pub called-to_read : (before after : List Call) (name : List ℕ) (source : Option (List ℕ))
    → source ≡ Some name → after ≡ with_call before name options_to_read
    → after ≡ before ++ call_to_read source
called-to_read before after name source named made = rw named made

-- the calls made before a hindrance, after a call to read
pub made-after_read : (why : Hindrance) (read written before between after : List Call)
    → between ≡ before ++ read → MadeUntil why [] written between after
    → MadeUntil why read written before after
made-after_read = grind (arith, common_steps, append_assoc, append-nil)

-- the calls made before a hindrance are the first of a job's calls
pub opens-until : (why : Hindrance) (job : Job) (before after : List Call)
    → MadeUntil why (call_to_read job.source) (call_to_write job.target job.force) before after
    → OpensInOrder job before after
opens-until NoMemory job before after made = elim made [
  | inl same ↦ ([], calls_of job, same ∙ sym (append-nil before), refl)
  | inr read ↦ (call_to_read job.source, call_to_write job.target job.force, read, refl)
]
opens-until (CannotRead name) job before after made =
    (call_to_read job.source, call_to_write job.target job.force, made, refl)
opens-until (FileExists name) job before after made = (calls_of job, [], made, append-nil (calls_of job))
opens-until (CannotCreate name) job before after made = (calls_of job, [], made, append-nil (calls_of job))
