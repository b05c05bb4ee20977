-- Blocks are short.
use Rattle.std.proofs.Common.{◌≡◌, refl, ℕ, List, [], ◌∷◌, false, Some, ◌<◌, ◌≤◌}
use Rattle.std.proofs.Common.{arith, ◌+◌, ◌*◌, ◌%◌, length}
use Rattle.std.proofs.lemmas.Bool.{cases_lt}
use Rattle.std.proofs.lemmas.Nat.{mod-mul-add, div-add-mod', mod_below}
use Rattle.crx_base.specs.meaning.Choices.{Choices}
use Rattle.crx_rinex.specs.meaning.Observations.{Epoch}
use Rattle.crx_rinex.specs.meaning.Units.{Observation}
use Rattle.crx_filter.specs.meaning.Items.{Item, Accepted}
use Rattle.crx_filter.specs.meaning.Compacted.{compacted, epochs_accepted, is_at_every}
use Rattle.crx_filter.specs.meaning.Accounts.{AreContinued, HasShortBlocks}
use Rattle.crx_filter.proofs.Vocabulary.{common_steps}

-- the remainder of the next number, if it isn't 0
at-next : (q r n : ℕ) → r < n → ((q * n + (r + 1)) % n ≡ 0 → ⊥) → r + 1 < n
at-next q r n less other = grind (arith, common_steps, cases_lt, mod-mul-add)

next-remainder : (k n : ℕ) → 0 < n → ((k + 1) % n ≡ 0 → ⊥) → (k + 1) % n ≡ k % n + 1
next-remainder k n some other = grind (arith, common_steps, div-add-mod', at-next, mod_below, mod-mul-add)

not-at : (n index : ℕ) → 0 < n → is_at_every (Some n) index ≡ false → index % n ≡ 0 → ⊥
not-at n index some h e = grind (arith, some, h, e)

-- epochs after an epoch, none of them full: the index of the first of them is k + 1
few : (choices : Choices) (n : ℕ) (before : List (Item Epoch)) (first : Epoch) (others : List Epoch)
    → choices.every ≡ Some n → 0 < n → AreContinued choices (Accepted (Observation first) ∷ before) others
    → length others + (epochs_accepted before % n + 1) ≤ n
few choices n before first [] every some h = omega (arith, mod_below (epochs_accepted before) n some)
few choices n before first (e ∷ later) every some h =
    grind (
      arith,
      few choices n (Accepted (Observation first) ∷ before) e later every some h.1,
      next-remainder,
    )

pub short-blocks : (choices : Choices) (file : List ℕ) → HasShortBlocks choices file (compacted file choices)
short-blocks choices file n every some = (
  refl,
  λ before after first others parts continued.
      omega (arith, few choices n before first others every some continued),
)
