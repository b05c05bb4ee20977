-- Lines that are borrowed one by one, from the first of a list on.
use Rattle.std.proofs.Common.{◌≡◌, ◌≢◌, ℕ, ◌-◌, List, ◌∷◌, None, drop, slice_get, arith}
use Rattle.std.proofs.{Common.{suc}, lemmas.{Grind.common_steps, Option.none-some}}
use Rattle.std.proofs.lemmas.Option.{slice_get-map, slice_get_within}

pub after_first : {X : Type 0} (x : X) (xs : List X) (n : ℕ) → n ≢ 0
    → slice_get (x ∷ xs) n ≡ slice_get xs (n - 1)
after_first = grind (arith, common_steps)

pub first_of_rest : {X : Type 0} (xs : List X) (n : ℕ) → slice_get (drop n xs) 0 ≡ slice_get xs n
first_of_rest (x ∷ xs) (suc n) = first_of_rest xs n
first_of_rest xs n = grind (arith, common_steps)

pub no_next : {X : Type 0} (xs : List X) → slice_get xs 0 ≡ None → xs ≡ drop 1 xs
no_next = grind (arith, common_steps, none-some)

-- the lines of an epoch, one by one
pub ruleset each_line = (after_first, slice_get-map, slice_get_within, first_of_rest, no_next)
