-- The date of a job that arguments lead to fits its columns.
use Rattle.std.proofs.lemmas.Grind.{common_steps}
use Rattle.std.proofs.Common.{arith, ◌≡◌, ◌∙◌, ap, true, Bool, ℕ, List, Option}
use Rattle.std.specs.Option.{option_map_or}
use Rattle.clap.specs.{Faults.fault_of, Kinds.Kinds, Simple.subcommand_of, Walk.Row}
use Rattle.crx_base.specs.meaning.Choices.{is_date}
use Rattle.crx_command.specs.{declared.job.{Job.Job, Tool.Tool}, meaning.{Commands.program, Planning.Given}}
use Rattle.crx_command.specs.meaning.Planning.{Plan, Help, Run, Refused, by_kinds, decide}
use Rattle.crx_command.specs.meaning.Planning.{of_subcommand, plan_of}

-- whether the date of a plan fits, if it has one
abbrev date_is : Option (List ℕ) → Bool
date_is date = option_map_or is_date date true

abbrev fits : Plan → Bool
fits Help = true
fits (Run job) = date_is job.date
fits (Refused refusal) = true

kinds_fit : (kinds : Kinds) (plan : Plan) → fits plan ≡ true → fits (by_kinds kinds plan) ≡ true
kinds_fit = grind (arith, common_steps)

decide_fits : (tool : Tool) (given : Given) → fits (decide tool given) ≡ true
decide_fits tool given = grind arith

subcommand_fits : (found : Option (List ℕ × List Row)) → fits (of_subcommand found) ≡ true
subcommand_fits = grind (arith, common_steps, decide_fits)

pub job_fits : (words : List (List ℕ)) (job : Job)
    → Run job ≡ plan_of words → option_map_or is_date job.date true ≡ true
job_fits words job e = ap fits e ∙ kinds_fit (fault_of program words)
    (of_subcommand (subcommand_of program words)) (subcommand_fits (subcommand_of program words))
