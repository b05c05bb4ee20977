use Rattle.std.proofs.{Common.arith, lemmas.Grind.common_steps}
use Rattle.rnxcmp_c.proofs.Vocabulary.{ap, refl, Choices}
use Rattle.rnxcmp_c.proofs.handle.rnxcmp_c_open_expand.Goals as goal

pub returns-in-Ok-new-clause-opened : goal.returns-in-Ok-new-clause-opened
returns-in-Ok-new-clause-opened c = λ zero.
    let state = c.in-Ok-new.ensures.state in
    let same =
    ap (λ s. s.choices) state in (
      c.in-Ok.options,
      ap (λ (o : Choices). o.skip) c.in-Ok.ensures.value.0,
      c.open.ensures.opened _ (grind (arith, common_steps, same, c.in-Ok-new.ensures.drained))
          refl zero,
    )
