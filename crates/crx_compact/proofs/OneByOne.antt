-- Items one by one, and the text that they make.
use Rattle.std.proofs.lemmas.List.{take_all, take_more, flat_map_more}
use Rattle.std.proofs.lemmas.Option.{get_or_from_slice_get, slice_get_cases, slice_get_within}
use Rattle.crx_compact.proofs.Vocabulary.{◌≡◌, ℕ, ◌+◌, List, [], ◌∷◌, ◌++◌, take, slice_get, Some}
use Rattle.crx_compact.proofs.Vocabulary.{None, Result, arith}
use Rattle.std.specs.Prelude.{flat_map, IsOk, IsErr}

-- a result that is no Err is an Ok
pub ok-unless : {X E : Type 0} (r : Result X E) → (IsErr r → ⊥) → IsOk r
ok-unless r good = grind arith

-- ---- items one by one

pub taken_more : {X : Type 0} (xs : List X) (i : ℕ) (x : X)
    → slice_get xs i ≡ Some x → take (i + 1) xs ≡ take i xs ++ x ∷ []
taken_more xs i x h = cc (take_more xs i x (slice_get_within xs i x h), get_or_from_slice_get xs i x x h)

-- no item is after a place without one
pub taken_all : {X : Type 0} (xs : List X) (i : ℕ) → slice_get xs i ≡ None → take i xs ≡ xs
taken_all xs i h = grind (arith, slice_get_cases, take_all)

pub texts_more : {X : Type 0} (f : X → List ℕ) (before : List ℕ) (xs : List X) (i : ℕ) (x : X)
    (old new : List ℕ)
    → old ≡ before ++ flat_map f (take i xs)
    → slice_get xs i ≡ Some x → new ≡ old ++ f x → new ≡ before ++ flat_map f (take (i + 1) xs)
texts_more f before xs i x old new so_far here more = grind (arith, flat_map_more, taken_more)
