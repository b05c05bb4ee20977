use Rattle.std.proofs.{Common.arith, lemmas.Grind.common_steps}
use Rattle.rnxcmp_c.proofs.Vocabulary.{ap, refl}
use Rattle.rnxcmp_c.proofs.handle.rnxcmp_c_open_compact.Goals as goal

pub returns-in-Ok-new-clause-opened : goal.returns-in-Ok-new-clause-opened
returns-in-Ok-new-clause-opened c =
    let state = c.in-Ok-new.ensures.state in
    let same = ap (λ s. s.choices) state in
    c.open.ensures.opened _ (grind (arith, common_steps)) refl
