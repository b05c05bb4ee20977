-- The compact text of some items, and of the items up to a block.
use Rattle.crx_filter.proofs.Vocabulary.{arith, true, ◌≡◌, List, [], ◌∷◌, ◌++◌, Choices, Epoch, Item}
use Rattle.crx_filter.proofs.Vocabulary.{header_has_ended}
use Rattle.crx_filter.proofs.Vocabulary.{AreInPlace, compact_lines}
use Rattle.crx_filter.proofs.damage.TextAfter.{lines_on, written-on}
use Rattle.crx_filter.proofs.wayback.{UnitsReadAgain.started, WayBack.lines-same}

pub rest-in_place : (later before : List (Item Epoch)) → AreInPlace (later ++ before) → AreInPlace before
rest-in_place [] before h = h
rest-in_place (item ∷ later) before h = grind (arith, rest-in_place later before)

-- the compact text of all items is the text up to the block's end and the text after it
pub text-parts : (choices : Choices) (after block : List (Item Epoch)) → AreInPlace (after ++ block)
    → header_has_ended (after ++ block) ≡ true → header_has_ended block ≡ true → compact_lines choices
    (after ++ block) ≡ compact_lines choices block ++ lines_on choices.every after block
text-parts choices after block h all header = search (lines-same, started, written-on, rest-in_place)
