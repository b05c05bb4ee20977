-- A text that is blank from a place on, by its characters.
use Rattle.crx_compact.proofs.Vocabulary.{◌≡◌, ◌+◌, ℕ, true, List, drop, common_steps}
use Rattle.crx_compact.proofs.Vocabulary.{arith, list_all, is_blank}
use Rattle.crx_text.proofs.Characters.{at, at-drop}
use Rattle.crx_compact.proofs.{Characters.list_all-at}

pub blank-after : (n : ℕ) (text : List ℕ) → list_all is_blank (drop n text) ≡ true → (p : ℕ)
    → at text (n + p) ≡ 32
blank-after n text h p = grind (arith, common_steps, at-drop, list_all-at)
