use Rattle.std.proofs.Common.{arith}
use Rattle.std.proofs.lemmas.Grind.{common_steps}
use Rattle.crx_laws.proofs.fate.a_warning_drops_one_stretch.Goals as goal

pub returns : goal.returns
returns c = record { law = λ kept own. grind (arith, common_steps, own) }
