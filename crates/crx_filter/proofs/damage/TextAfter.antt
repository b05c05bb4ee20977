-- The compact text of some items after others.
use Rattle.crx_filter.proofs.Vocabulary
use Vocabulary.{common_steps, arith, ℕ, ◌≡◌, List, [], ◌∷◌, ◌++◌, Option, sym, append-nil, append_assoc}
use Vocabulary.{Epoch, Choices, Item, Accepted, Warned, written_lines, BeginsAnew}
use Rattle.crx_filter.proofs.wayback.{Items.body_unit}

abbrev pub lines_on : Option ℕ → List (Item Epoch) → List (Item Epoch) → List (List ℕ)
lines_on every [] before = []
lines_on every (Accepted unit ∷ later) before = lines_on every later before ++ body_unit every
    (later ++ before) unit
lines_on every (Warned at ∷ later) before = lines_on every later before

pub written-on : (every : Option ℕ) (later before : List (Item Epoch))
    → written_lines (body_unit every) (later ++ before)
    ≡ written_lines (body_unit every) before ++ lines_on every later before
written-on every [] before = sym (append-nil (written_lines (body_unit every) before))
written-on every (item ∷ later) before =
    grind (arith, common_steps, written-on every later before, append_assoc)

pub begins-rest : (choices : Choices) (block : List (Item Epoch)) (item : Item Epoch)
    (items : List (Item Epoch))
    → BeginsAnew choices block (item ∷ items) → BeginsAnew choices block items
begins-rest choices block item items h = grind (arith, common_steps)
