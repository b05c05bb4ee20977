-- Facts about epochs and rows that can be written.
use Rattle.crx_compact.proofs.Vocabulary.{◌≡◌, refl, true, List, Some, at, nat_eq, length, arith}
use Rattle.crx_compact.proofs.Vocabulary.{◌+◌, ◌-◌, ◌*◌, ◌<◌, ℕ, ◌∷◌, map, ◌∙◌, Row, sym, [], Epoch}
use Rattle.crx_compact.proofs.Vocabulary.{epoch_count, columns-are, name-length, common_steps, Count}
use Rattle.crx_compact.proofs.Vocabulary.{columns, is_kept, list_all, flat_map}
use Rattle.crx_compact.proofs.Vocabulary.{and_parts, Satellite, epoch_text, IsSoundRow, ap, HasItsTypes, at-append}
use Rattle.crx_compact.proofs.Vocabulary.{each_place, AllByRecursion, are_different, at-append_past}
use Rattle.crx_compact.proofs.Vocabulary.{Ok, satellites_named, each_place-same}
use Rattle.crx_compact.proofs.Vocabulary.{not-true}
use Rattle.crx_compact.proofs.Characters.{list_all-append}
use Rattle.crx_compact.proofs.Vocabulary.{IsWholeEpoch, length-append}
use Rattle.crx_compact.proofs.{Identifiers.{AreNew, new-after}, Characters.{if_some, name-kept}}
use Rattle.crx_compact.proofs.wayback.Runs.{IsUnmarked}
use Rattle.std.proofs.lemmas.List.Elements.{recursion_from_All}

-- ---- rows

-- a sound row with a value for each of its system's types
abbrev pub IsTypedRow : List Count → Row → Type 0
IsTypedRow types row = IsSoundRow row × HasItsTypes types row

pub sound-name_kept : (row : Row) → IsSoundRow row → list_all is_kept row.name ≡ true
sound-name_kept row h = name-kept row.name (name-length row h) h.named

-- ---- epochs

pub typed-rows : (types : List Count) (epoch : Epoch)
    → IsWholeEpoch types epoch → AllByRecursion (IsTypedRow types) epoch.rows
typed-rows types epoch h = recursion_from_All (IsTypedRow types) epoch.rows
    (λ k row less. (h.sound.rows_sound k row less, h.typed k row less))

pub head-counted : (types : List Count) (epoch : Epoch)
    → IsWholeEpoch types epoch → epoch_count epoch.head ≡ Some (length epoch.rows)
head-counted types epoch h = h.sound.head_sound.counted ∙ ap (λ n. Some n) (sym h.full)

-- ---- tests of all characters

pub unmarked : (text : List ℕ) → list_all is_kept text ≡ true → IsUnmarked text
unmarked text h p = (grind (arith, common_steps))

-- ---- an epoch's head and text

names-text : (types : List Count) (rows : List Row) → AllByRecursion (IsTypedRow types) rows
    → (list_all is_kept (flat_map (λ (r : Row). r.name) rows) ≡ true)
    × (length (flat_map (λ (r : Row). r.name) rows) ≡ 3 * length rows)
names-text types [] h = (refl, refl)
names-text types (r ∷ rs) h =
    grind (arith, common_steps, list_all-append, sound-name_kept, length-append, names-text types rs h.1)

module _ (types : List Count) (e : Epoch) (h : IsWholeEpoch types e) where
  pub head-kept : list_all is_kept e.head ≡ true
  head-kept = grind (arith, common_steps, and_parts, if_some, head-counted)

  pub text-kept : list_all is_kept (epoch_text e) ≡ true
  text-kept = list_all-append is_kept e.head _ head-kept (names-text types e.rows (typed-rows types e h)).0

  pub text-head : (p : ℕ) → p < 41 → at (epoch_text e) p ≡ at e.head p
  text-head p less = at-append e.head _ p (omega (arith, h.sound.head_sound.width))

  pub text-begins : at (epoch_text e) 0 ≡ 62
  text-begins = grind (arith, common_steps, nat_eq, text-head)

  pub length-text : length (epoch_text e) ≡ 41 + 3 * length e.rows
  length-text = grind (arith, length-append, names-text types e.rows (typed-rows types e h))

-- ---- identifiers

-- the identifiers from an offset on
pub names-read : (types : List Count) (text : List ℕ) (offset : ℕ) (rows : List Row) → AllByRecursion
    (IsTypedRow types) rows → ((p : ℕ) → at text (offset + p) ≡ at (flat_map (λ (r : Row). r.name) rows) p)
    → each_place (length rows) (λ k. columns text (offset + 1 + 3 * k) 3) ≡ map (λ (r : Row). r.name) rows
names-read types text offset [] h e = refl
names-read types text offset (r ∷ rs) h e =
    let long = name-length r h.0.0 in
    let first = columns-are text (offset + 1 + 3 * 0) 3 r.name long
    (λ p less. let place : offset + 1 + 3 * 0 - 1 + p ≡ offset + p = omega arith in
    cc (e p, at-append r.name (flat_map (λ (q : Row). q.name) rs) p (omega (arith, less, long)))) in
    let rest = names-read types text (offset + 3) rs h.1
    (λ p. let place : offset + 3 + p ≡ offset + (3 + p) = omega arith in
    cc (e (3 + p), at-append_past r.name (flat_map (λ (q : Row). q.name) rs) 3 p long)) in
    grind (arith, each_place-same, first, rest)

abbrev pub satellites_of_rows : List Row → List Satellite
satellites_of_rows rows = map (λ (r : Row). record { name = r.name; count = length r.values }) rows

pub satellites-good : (types : List Count) (earlier : List (List ℕ)) (rows : List Row)
    → AllByRecursion (IsTypedRow types) rows → AreNew (λ (r : Row). r.name) earlier rows → are_different rows
    ≡ true → satellites_named types earlier (map (λ (r : Row). r.name) rows) ≡ Ok (satellites_of_rows rows)
satellites-good types earlier [] h new k = refl
satellites-good types earlier (r ∷ rs) h new k =
    grind (arith, common_steps, new-after, not-true, satellites-good types (r.name ∷ earlier) rs h.1)
