use Rattle.std.proofs.Common.{arith}
use Rattle.std.proofs.lemmas.Grind.{common_steps}
use Rattle.clap.{proofs.WalkLemmas.first_value-rows}
use Rattle.crx_command.proofs.plan.is_set.Goals as goal

pub returns-in-Some : goal.returns-in-Some
returns-in-Some = grind (arith, common_steps, first_value-rows)

pub returns-in-None : goal.returns-in-None
returns-in-None = grind (arith, common_steps, first_value-rows)
