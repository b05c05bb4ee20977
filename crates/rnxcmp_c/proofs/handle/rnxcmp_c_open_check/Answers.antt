use Rattle.std.proofs.{Common.arith, lemmas.Grind.common_steps}
use Rattle.rnxcmp_c.proofs.Vocabulary.{Check, refl}
use Rattle.rnxcmp_c.proofs.handle.rnxcmp_c_open_check.Goals as goal

pub returns-in-Ok-clause-opened : goal.returns-in-Ok-clause-opened
returns-in-Ok-clause-opened c =
    let made = c.in-Ok.ensures in
    c.open.ensures.opened Check (grind (arith, common_steps)) refl
