-- In addition to meaning/Planning: how code and proofs see it.
use Rattle.std.specs.Prelude.{Option, Some, None, Result, Ok, Err, option_map}
use Rattle.crx_command.specs.declared.job.Decision.{Decision}
use Rattle.crx_command.specs.declared.plan.Arguments.{Arguments}
use Rattle.crx_command.specs.declared.job.UsageFault.{UsageFault}
use Rattle.crx_command.specs.meaning.Planning.{Parse, DashTwice, TwoFiles, BadDate, NoName, Plan, Help, Run, Refused, Given}
use Rattle.crx_command.specs.declared.job.Decision.TheVariants as decision
use Rattle.crx_command.specs.declared.job.UsageFault.TheVariants as usage_fault

-- the arguments as they are kept
abbrev pub given_of : Arguments → Given
given_of a = record {
  dashes = a.dashes;
  files = a.files;
  file = option_map (λ file. file.now) a.file;
  every = a.every;
  skip = a.skip;
  force = a.force;
  date = option_map (λ date. date.now) a.date;
}

-- the plan in an answer, unless memory ran out
abbrev pub plan_in : Result Decision UsageFault → Option Plan
plan_in (Ok (decision.Help text)) = Some Help
plan_in (Ok (decision.Run job)) = Some (Run job)
plan_in (Err (usage_fault.Parse text)) = Some (Refused Parse)
plan_in (Err usage_fault.DashTwice) = Some (Refused DashTwice)
plan_in (Err usage_fault.TwoFiles) = Some (Refused TwoFiles)
plan_in (Err usage_fault.BadDate) = Some (Refused BadDate)
plan_in (Err (usage_fault.NoName name)) = Some (Refused (NoName name))
plan_in (Err usage_fault.Memory) = None
