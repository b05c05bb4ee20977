-- A run's promises for its input follow from its logs.
use Rattle.std.proofs.lemmas.Grind.{common_steps}
use Rattle.std.proofs.Common.{arith, ◌≡◌, ℕ, List, Option, None, ◌∙◌}
use Rattle.crx_base.specs.meaning.{Choices.Choices}
use Rattle.crx_filter.proofs.accounts.ByResults.{check-keeps, compaction-keeps, expansion-keeps, gives-back}
use Rattle.crx_runs.specs.meaning.Results.{FilterResult}
use Rattle.jiff.specs.declared.timestamp.Timestamp.{Timestamp}
use Rattle.crx_command.specs.declared.job.{Job.Job, Tool.{Tool, TheVariants.{Compact, Expand, Check}}}
use Rattle.crx_program.specs.declared.streams.Whole.{Whole}
use Rattle.crx_program.specs.meaning.Jobs.{tool_result}
use Rattle.crx_program.specs.meaning.{Kept.{KeepsItsPromises, IsLogged, ToolKeeps}, Streams.IsExact}

-- a result without status 1 has no fault
good-result : (tool : Tool) (choices : Choices) (input : List ℕ)
    → (FilterResult.status (tool_result tool choices input) ≡ 1 → ⊥)
    → FilterResult.fault (tool_result tool choices input) ≡ None
good-result = grind (arith, common_steps)

tool-keeps : (tool : Tool) (choices : Choices) (holds : FilterResult → Type 0) (status : ℕ) (input : List ℕ)
    → holds (tool_result tool choices input) → status ≡ FilterResult.status (tool_result tool choices input)
    → ToolKeeps tool choices holds status input
tool-keeps Compact choices holds status input ran same = compaction-keeps holds choices input ran
tool-keeps Expand choices holds status input ran same =
    (gives-back holds choices input ran, expansion-keeps holds choices input ran)
tool-keeps Check choices holds status input ran same = check-keeps status input same

pub kept-of_exact : {I O E F : Type 0} (moment : Option Timestamp) (job : Job) (whole : Whole I O E F)
    → (whole.status ≡ 1 → ⊥) → IsExact moment job whole → KeepsItsPromises moment job whole
kept-of_exact moment job whole well
    (given, written, gave, told, took, flushed, (choices, chosen, wrote, reported, same)) = (
      given,
      written,
      choices,
      gave,
      took,
      chosen,
      tool-keeps job.tool choices (IsLogged written whole.messages.log.bytes whole.status) whole.status given
          (record {
            output = wrote;
            messages = reported;
            status_is = same;
            good = good-result job.tool choices given (λ one. well (same ∙ one));
          }) same,
    )
