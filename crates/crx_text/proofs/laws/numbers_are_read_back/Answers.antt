use Rattle.std.proofs.{Common.arith, lemmas.Grind.common_steps}
use Rattle.crx_text.proofs.{CodeTexts.code_of-code_text, ReadBack.number_of-number_text}
use Rattle.crx_text.proofs.laws.numbers_are_read_back.Goals as goal

pub returns : goal.returns
returns = grind (arith, common_steps, number_of-number_text, code_of-code_text)
