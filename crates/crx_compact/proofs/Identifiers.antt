-- Things with different identifiers: each is found by its own, and none is among earlier ones.
use Rattle.crx_compact.proofs.Vocabulary.{◌≡◌, ℕ, true, false, List, [], ◌∷◌, Some, refl, AllByRecursion}
use Rattle.crx_compact.proofs.Vocabulary.{bytes_eq, not-true, is_among, are_apart, arith}
use Rattle.crx_compact.proofs.Characters.{bytes_eq-same}
use Rattle.std.specs.List.{list_any}
use Rattle.std.proofs.{lemmas.Bool.or_parts, lemmas.Grind.common_steps}
use Rattle.crx_header.proofs.OtherIdentifiers.{other_way}
use Rattle.crx_compact.specs.meaning.Sequences.{named}

-- things found among some items are found with one more before these, if its identifier differs
found-later : {X : Type 0} (f : X → List ℕ) (x : X) (xs ys : List X) → is_among f (f x) ys ≡ false
    → AllByRecursion (λ y. named f (f y) xs ≡ Some y) ys
    → AllByRecursion (λ y. named f (f y) (x ∷ xs) ≡ Some y) ys
found-later f x xs [] new h = tt
found-later f x xs (y ∷ ys) new h =
    grind (arith, common_steps, or_parts, bytes_eq, is_among, other_way, found-later f x xs ys)

-- each of some different items is the first with its identifier
pub each-own : {X : Type 0} (f : X → List ℕ) (xs : List X)
    → are_apart f xs ≡ true → AllByRecursion (λ x. named f (f x) xs ≡ Some x) xs
each-own f [] h = tt
each-own f (x ∷ xs) h =
    grind (
      arith,
      common_steps,
      bytes_eq-same (f x),
      found-later f x xs xs,
      not-true (is_among f (f x) xs),
      each-own f xs,
    )

-- ---- earlier identifiers

-- none of some things has an earlier identifier
abbrev pub AreNew : {X : Type 0} → (X → List ℕ) → List (List ℕ) → List X → Type 0
AreNew f earlier xs = AllByRecursion (λ x. list_any (bytes_eq (f x)) earlier ≡ false) xs

pub none-earlier : {X : Type 0} (f : X → List ℕ) (xs : List X) → AreNew f [] xs
none-earlier f [] = tt
none-earlier f (x ∷ xs) = (refl, none-earlier f xs)

-- the same with one more identifier, which none of them has
pub new-after : {X : Type 0} (f : X → List ℕ) (name : List ℕ) (earlier : List (List ℕ)) (xs : List X)
    → AreNew f earlier xs → is_among f name xs ≡ false → AreNew f (name ∷ earlier) xs
new-after f name earlier [] h k = tt
new-after f name earlier (x ∷ xs) h k =
    grind (arith, new-after f name earlier xs h.1 (or_parts (bytes_eq (f x) name) (is_among f name xs) k).1)

-- the same without the newest identifier, which none of them has
pub new-before : {X : Type 0} (f : X → List ℕ) (name : List ℕ) (earlier : List (List ℕ)) (xs : List X)
    → AreNew f (name ∷ earlier) xs → AreNew f earlier xs × (is_among f name xs ≡ false)
new-before f name earlier [] h = (tt, refl)
new-before f name earlier (x ∷ xs) h = grind (arith, new-before f name earlier xs h.1)
