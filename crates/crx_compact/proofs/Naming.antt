-- The identifiers of an epoch text, read from left to right.
use Rattle.crx_compact.proofs.Vocabulary.{append-nil}
use Rattle.crx_compact.proofs.Vocabulary.{◌≡◌, ◌<◌, refl, ℕ, suc, ◌+◌, ◌*◌, Bool, true, false, ◌||◌, List}
use Rattle.crx_compact.proofs.Vocabulary.{[], ◌∷◌, ◌++◌, drop, Some, None, Ok, Err, length, All-from_recursion}
use Rattle.crx_compact.proofs.Vocabulary.{bytes_eq, sym, ◌∙◌, ap, arith, get_or, length-map}
use Rattle.crx_compact.proofs.Vocabulary.{each_place, types_of_satellite, columns, BadSatellite}
use Rattle.crx_compact.proofs.Vocabulary.{RepeatedSatellite, Count, Satellite, names_in}
use Rattle.crx_compact.proofs.Vocabulary.{satellites_named}
use Rattle.crx_compact.proofs.{GoodResults.{onto, onto-err, onto-more, onto-ok}}
use Rattle.std.specs.List.{list_any}
use Rattle.crx_header.proofs.OtherIdentifiers.{other_way}
use Rattle.std.proofs.{lemmas.List.{get_or-map}, lemmas.Grind.common_steps}
use Rattle.crx_text.proofs.EachPlace.{drop-each_place}
use Rattle.crx_compact.specs.{meaning.EpochText.satellite_before}

-- the names of some satellites before earlier ones, the last one first
abbrev pub names_after : List Satellite → List (List ℕ) → List (List ℕ)
names_after [] earlier = earlier
names_after (s ∷ ss) earlier = names_after ss (s.name ∷ earlier)

names-more : (ss : List Satellite) (s : Satellite) (earlier : List (List ℕ))
    → names_after (ss ++ s ∷ []) earlier ≡ s.name ∷ names_after ss earlier
names-more [] s earlier = refl
names-more (q ∷ qs) s earlier = names-more qs s (q.name ∷ earlier)

-- ---- whether an identifier occurs already

any-after : (name : List ℕ) (ss : List Satellite) (earlier : List (List ℕ))
    → list_any (bytes_eq name) (names_after ss earlier)
    ≡ (list_any (bytes_eq name) earlier || list_any (λ (s : Satellite). bytes_eq s.name name) ss)
any-after name [] earlier = grind arith
any-after name (s ∷ ss) earlier = grind (arith, common_steps, other_way, any-after name ss (s.name ∷ earlier))

-- ---- one identifier more

pub record NamedSoFar (types : List Count) (all : List (List ℕ)) (place : ℕ)
    (found : List Satellite) : Type 0 where
  pub so_far : satellites_named types [] all
      ≡ onto found (satellites_named types (names_after found []) (drop place all))

module _ (types : List Count) (all : List (List ℕ)) (place : ℕ) (found : List Satellite)
    (n : NamedSoFar types all place found) where
  pub named-all : drop place all ≡ [] → satellites_named types [] all ≡ Ok found
  named-all e = cc (n.so_far, e, onto-ok found [], append-nil found)

  module _ (name : List ℕ) (e : drop place all ≡ name ∷ drop (place + 1) all) where
    at-next : satellites_named types [] all ≡ onto found
        (satellite_before (names_after found []) name (types_of_satellite types name)
        (satellites_named types (name ∷ names_after found []) (drop (place + 1) all)))
    at-next = cc (n.so_far, e)

    stands : list_any (bytes_eq name) (names_after found [])
        ≡ list_any (λ (s : Satellite). bytes_eq s.name name) found
    stands = any-after name found []

    pub named-bad : types_of_satellite types name ≡ None → satellites_named types [] all ≡ Err BadSatellite
    named-bad none = grind (arith, common_steps, at-next, onto-err)

    module _ {count : ℕ} (some : types_of_satellite types name ≡ Some count) where
      pub named-twice : list_any (λ (s : Satellite). bytes_eq s.name name) found ≡ true
          → satellites_named types [] all ≡ Err RepeatedSatellite
      named-twice twice = grind (arith, at-next, stands, onto-err)

      pub named-more : list_any (λ (s : Satellite). bytes_eq s.name name) found ≡ false
          → NamedSoFar types all (place + 1) (found ++ record { name = name; count = count } ∷ [])
      named-more once = grind (arith, stands, onto-more, names-more)

-- ---- an identifier among those of a text

pub next-name : (text : List ℕ) (count place : ℕ) (name : List ℕ) → place < count → name ≡ columns text
    (42 + 3 * place) 3 → drop place (names_in text count) ≡ name ∷ drop (place + 1) (names_in text count)
next-name text count place name h e = cc (drop-each_place count place (λ k. columns text (42 + 3 * k) 3) h, e)
