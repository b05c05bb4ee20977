use Rattle.std.proofs.Common.{arith}
use Rattle.std.proofs.lemmas.Grind.{common_steps}
use Rattle.crx_command.proofs.DateFits.{default_fits}
use Rattle.crx_program.proofs.program.options_of.Goals as goal

pub unwrap-requires : goal.unwrap-requires
unwrap-requires = grind (arith, common_steps, default_fits)
