use Rattle.rnxcmp_c.proofs.Vocabulary.{ap, ◌∙◌}
use Rattle.rnxcmp_c.proofs.handle.take_out.Goals as goal

pub into_loose-requires : goal.into_loose-requires
into_loose-requires c = (c.requires.0, ap (λ h. h.place.held) c.replace-held.ensures.value ∙ c.requires.1)
