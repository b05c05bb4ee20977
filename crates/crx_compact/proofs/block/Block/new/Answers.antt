use Rattle.crx_compact.proofs.Vocabulary.{arith}
use Rattle.crx_compact.proofs.LineTexts.{none-cut}
use Rattle.crx_compact.proofs.block.Block.new.Goals as goal
use Rattle.std.proofs.lemmas.Grind.{common_steps}

pub invariant_of-result : goal.invariant_of-result
invariant_of-result c =
    grind (arith, common_steps, none-cut c.lengthen-2.new.items.items c.lengthen.new.items.items 2 6078)
