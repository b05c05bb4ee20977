use Rattle.std.proofs.{Common.arith, lemmas.Grind.common_steps}
use Rattle.crx_text.proofs.PowersOfTen.{small_number}
use Rattle.crx_text.proofs.code_digits.digits_before_blank.Goals as goal

pub returns-then-count-text : goal.returns-then-count-text
returns-then-count-text c =
    grind (arith, common_steps, small_number _ _ 18 (omega arith) c.first_digits-size.ensures.small)

pub returns-then-text-count-eq32 : goal.returns-then-text-count-eq32
returns-then-text-count-eq32 c =
    grind (arith, common_steps, small_number _ _ 18 (omega arith) c.first_digits-size.ensures.small)
