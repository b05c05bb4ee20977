-- The promises of a run over standard streams for its input, by the logs of its devices.
use Rattle.std.specs.Prelude.{◌≡◌, ℕ, List, Option, None}
use Rattle.crx_base.specs.meaning.Choices.{Choices}
use Rattle.crx_filter.specs.meaning.ByResults.{CheckKeeps, CompactionKeeps, ExpansionKeeps, GivesBackWhatPasses}
use Rattle.crx_runs.specs.meaning.Results.{FilterResult}
use Rattle.jiff.specs.declared.timestamp.Timestamp.{Timestamp}
use Rattle.crx_command.specs.declared.job.Job.{Job}
use Rattle.crx_command.specs.declared.job.Tool.{Tool}
use Rattle.crx_command.specs.declared.job.Tool.TheVariants.{Compact, Expand, Check}
use Rattle.crx_program.specs.declared.streams.Whole.{Whole}
use Rattle.crx_program.specs.meaning.Calls.{Call}
use Rattle.crx_program.specs.meaning.Jobs.{IsChosen}
use Rattle.crx_program.specs.meaning.Streams.{IsExact, IsPrefix, OpensInOrder, ReadsGave, WritesTook}

-- the logs of the output and of the messages, and the status, are a result without a fault
pub record IsLogged (written reported : List ℕ) (status : ℕ) (result : FilterResult) : Type 0 where
  pub output : written ≡ result.output
  pub messages : reported ≡ result.messages
  pub status_is : status ≡ result.status
  pub good : result.fault ≡ None

-- a tool's promises for its input, by the results for which `holds` is true
abbrev pub ToolKeeps : Tool → Choices → (FilterResult → Type 0) → ℕ → List ℕ → Type 0
ToolKeeps Compact choices holds status input = CompactionKeeps holds choices input
ToolKeeps Expand choices holds status input = GivesBackWhatPasses holds input × ExpansionKeeps holds choices.skip input
ToolKeeps Check choices holds status input = CheckKeeps status input

-- a run keeps its tool's promises for the bytes that its reads gave, by the bytes that its writes took
abbrev pub KeepsItsPromises : {I O E F : Type 0} → Option Timestamp → Job → Whole I O E F → Type 0
KeepsItsPromises moment job whole = (given : List ℕ) × (written : List ℕ) × (choices : Choices)
    × ReadsGave job.source whole.source whole.input given
    × WritesTook job.target job.force whole.target whole.output written
    × IsChosen moment job.tool job.date job.every job.skip choices
    × ToolKeeps job.tool choices (IsLogged written whole.messages.log.bytes whole.status) whole.status given

-- a run does what its arguments say: it opens the files in order; unless the status is 1 it is exact and keeps its
-- promises; and in every case it writes a prefix
pub record DoesItsJob {I O E F : Type 0} (moment : Option Timestamp) (job : Job) (before after : List Call)
    (whole : Whole I O E F) : Type 0 where
  pub opens : OpensInOrder job before after
  pub exact : (whole.status ≡ 1 → ⊥) → IsExact moment job whole
  pub front : IsPrefix moment job whole
  pub keeps : (whole.status ≡ 1 → ⊥) → KeepsItsPromises moment job whole
