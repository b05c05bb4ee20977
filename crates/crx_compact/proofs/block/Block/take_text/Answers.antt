use Rattle.crx_compact.proofs.{Vocabulary.{rules, length-take-le}, LineTexts.{all-lines, none-left}}
use Rattle.crx_compact.proofs.block.Block.take_text.Goals as goal

pub returns : goal.returns
returns c =
    search (rules, length-take-le, none-left, all-lines)
