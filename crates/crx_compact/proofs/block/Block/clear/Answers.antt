use Rattle.crx_compact.proofs.Vocabulary.{arith}
use Rattle.crx_compact.proofs.LineTexts.{none-cut}
use Rattle.crx_compact.proofs.block.Block.clear.Goals as goal
use Rattle.std.proofs.lemmas.Grind.{common_steps}

pub invariant_of-self : goal.invariant_of-self
invariant_of-self c =
    let inside = c.self.inside in
    let kept = c.self.invariant.4 in
    grind (arith, common_steps, inside, kept, none-cut inside.lengths.items inside.bytes.items 2 6078)
