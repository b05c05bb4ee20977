-- Entries of a map in consecutive ranges: the place of an identifier, and the ranges after a swap.
use Rattle.std.proofs.Common.{◌≡◌, ℕ, zero, suc, ◌<◌, ◌≤◌, true, false, List, [], ◌∷◌, take, drop, set, map}
use Rattle.std.proofs.Common.{swap, slice_get, Some, None, option_map, refl, arith, rules}
use Rattle.std.proofs.lemmas.Bool.{or_parts}
use Rattle.std.proofs.lemmas.Option.{get_or_from_slice_get, same_Some, slice_get_within}
use Rattle.std.proofs.lemmas.List.Edits.{swap_is}
use Rattle.std.proofs.lemmas.Map.Keys.{IsDistinct-head, IsDistinct-tail}
use Rattle.std.specs.{Str.bytes_eq, List.{AllByRecursion, IsDistinct}, Map.keys_of}
use Rattle.crx_header.specs.meaning.Satellites.{is_among}
use Rattle.crx_compact.specs.meaning.Sequences.{named}
use Rattle.crx_compact.proofs.Characters.{bytes_eq-same}

-- a swap by the two things themselves
pub swap-is : {X : Type 0} (xs : List X) (i j : ℕ) (a b : X)
    → slice_get xs i ≡ Some a → slice_get xs j ≡ Some b → swap xs i j ≡ set (set xs i b) j a
swap-is xs i j a b here there = grind (arith, swap_is xs i j a, get_or_from_slice_get, slice_get_within)

-- in a list made of things, the first with an identifier is made of the first thing with it
pub named-map : {X Y : Type 0} (f : Y → List ℕ) (g : X → Y) (name : List ℕ) (xs : List X)
    → named f name (map g xs) ≡ option_map g (named (λ x. f (g x)) name xs)
named-map f g name [] = refl
named-map f g name (x ∷ xs) = grind (arith, named-map f g name xs)

-- if none has an identifier, none is found
pub none-named : {X : Type 0} (f : X → List ℕ) (name : List ℕ) (count : ℕ) (xs : List X)
    → is_among f name xs ≡ false → named f name (drop count xs) ≡ None
none-named f name zero (x ∷ xs) h =
    grind (arith, none-named f name zero xs (or_parts (bytes_eq (f x) name) (is_among f name xs) h).1)
none-named f name (suc count) (x ∷ xs) h =
    none-named f name count xs (or_parts (bytes_eq (f x) name) (is_among f name xs) h).1
none-named f name count xs h = refl

module _ {V : Type 0} where
  abbrev name_of : List ℕ × V → List ℕ
  name_of e = e.0

  -- an identifier that differs from all differs from the one at an index
  apart-at : (name : List ℕ) (es : List (List ℕ × V)) (i : ℕ) (e : List ℕ × V) → AllByRecursion (λ other.
      bytes_eq name other ≡ false) (keys_of es) → slice_get es i ≡ Some e → bytes_eq name e.0 ≡ false
  apart-at name (x ∷ es) (suc i) e h there = apart-at name es i e h.1 there
  apart-at name es i e h there = grind (arith, same_Some)

  -- a thing at an index isn't among those before it
  pub not-before : (n : ℕ) (es : List (List ℕ × V)) (i : ℕ) (e : List ℕ × V) → IsDistinct bytes_eq
      (keys_of es) → slice_get es i ≡ Some e → n ≤ i → is_among name_of e.0 (take n es) ≡ false
  not-before (suc n) (x ∷ es) (suc i) e h there before =
      rw (apart-at x.0 es i e (IsDistinct-head bytes_eq x.0 (keys_of es) h) there)
      (not-before n es i e (IsDistinct-tail bytes_eq x.0 (keys_of es) h) there (omega (arith, before)))
  not-before n es i e h there before = grind arith

  -- but it is among those up to it
  pub among-up_to : (n : ℕ) (es : List (List ℕ × V)) (i : ℕ) (e : List ℕ × V)
      → slice_get es i ≡ Some e → i < n → is_among name_of e.0 (take n es) ≡ true
  among-up_to (suc n) (x ∷ es) (suc i) e there within =
      grind (arith, among-up_to n es i e there (omega (arith, within)))
  among-up_to n es i e there within = grind (arith, same_Some, bytes_eq-same)

  -- a thing in a range is found there
  pub found-in_range : (start end : ℕ) (es : List (List ℕ × V)) (i : ℕ) (e : List ℕ × V)
      → IsDistinct bytes_eq (keys_of es) → slice_get es i ≡ Some e → start ≤ i → i < end
      → named name_of e.0 (drop start (take end es)) ≡ Some e
  found-in_range zero (suc end) (x ∷ es) (suc i) e h there after before =
      rw (apart-at x.0 es i e (IsDistinct-head bytes_eq x.0 (keys_of es) h) there) (found-in_range zero
      end es i e (IsDistinct-tail bytes_eq x.0 (keys_of es) h) there (omega arith) (omega (arith, before)))
  found-in_range (suc start) (suc end) (x ∷ es) (suc i) e h there after before = found-in_range start end es
      i e (IsDistinct-tail bytes_eq x.0 (keys_of es) h) there (omega (arith, after)) (omega (arith, before))
  found-in_range start end es i e h there after before = grind (arith, same_Some, bytes_eq-same)

  -- in a range that is longer by one, all others are found as before
  pub rest-one_more : (start end : ℕ) (es : List (List ℕ × V)) (e : List ℕ × V) (other : List ℕ)
      → start ≤ end → slice_get es end ≡ Some e → bytes_eq e.0 other ≡ false
      → named name_of other (drop start (take (suc end) es)) ≡ named name_of other (drop start (take end es))
  rest-one_more zero (suc end) (x ∷ es) e other within there differs =
      cc (rest-one_more zero end es e other (omega arith) there differs)
  rest-one_more (suc start) (suc end) (x ∷ es) e other within there differs =
      rest-one_more start end es e other (omega (arith, within)) there differs
  rest-one_more start end es e other within there differs = grind arith

  -- in a range without its first thing, all others are found as before
  pub rest-next : (start end : ℕ) (es : List (List ℕ × V)) (e : List ℕ × V) (other : List ℕ)
      → start < end → slice_get es start ≡ Some e → bytes_eq e.0 other ≡ false
      → named name_of other (drop (suc start) (take end es)) ≡ named name_of other (drop start (take end es))
  rest-next (suc start) (suc end) (x ∷ es) e other within there differs =
      rest-next start end es e other (omega (arith, within)) there differs
  rest-next zero (suc end) (x ∷ es) e other within there differs = grind arith
  rest-next start end es e other within there differs = grind arith

  -- a thing in the place of another is found as if it were the first, by an identifier that isn't the other's
  in_place : (end i : ℕ) (es : List (List ℕ × V)) (a b : List ℕ × V) (other : List ℕ) → i < end
      → slice_get es i ≡ Some b → AllByRecursion (λ name. bytes_eq a.0 name ≡ false) (keys_of es) → bytes_eq
      b.0 other ≡ false → named name_of other (take end (set es i a)) ≡ named name_of other (a ∷ take end es)
  in_place (suc end) (suc i) (x ∷ es) a b other within there new differs =
      search (rules, in_place end i es a b other (omega (arith, within)) there new.1 differs)
  in_place end i es a b other within there new differs = grind arith

  -- the same in a range that loses its first thing, which takes the place of the other
  pub rest-brought : (start end i : ℕ) (es : List (List ℕ × V)) (a b : List ℕ × V) (other : List ℕ)
      → start < i → i < end → slice_get es start ≡ Some a → slice_get es i ≡ Some b
      → IsDistinct bytes_eq (keys_of es) → bytes_eq b.0 other ≡ false → named name_of other
      (drop (suc start) (take end (set es i a))) ≡ named name_of other (drop start (take end es))
  rest-brought zero (suc end) (suc i) (x ∷ es) a b other after before here there h differs =
      let head = IsDistinct-head bytes_eq x.0 (keys_of es) h in
      grind (arith, same_Some x a here, in_place end i es x b other (omega arith) there head differs)
  rest-brought (suc start) (suc end) (suc i) (x ∷ es) a b other after before here there h differs =
      rest-brought start end i es a b other (omega (arith, after)) (omega (arith, before)) here there
      (IsDistinct-tail bytes_eq x.0 (keys_of es) h) differs
  rest-brought start end i es a b other after before here there h differs = grind arith
