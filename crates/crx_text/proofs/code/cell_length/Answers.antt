use Rattle.std.proofs.Common.{arith}
use Rattle.crx_text.proofs.FirstCells.{first_blank}
use Rattle.crx_text.proofs.code.cell_length.Goals as goal
use Rattle.std.proofs.lemmas.Grind.{common_steps}

pub returns-clause-most : goal.returns-clause-most
returns-clause-most c = grind (arith, common_steps, first_blank)

pub returns-clause-value : goal.returns-clause-value
returns-clause-value c less = omega (arith, returns-clause-most c)
