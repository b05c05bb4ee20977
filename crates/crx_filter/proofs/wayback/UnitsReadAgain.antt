-- The accepted units of a RINEX file, written and read again: the units without the warnings between them, with the
-- same header, events and types in force.
use Rattle.crx_filter.proofs.Vocabulary
use Vocabulary.{rules, refl, length-map, common_steps, ℕ, ◌≡◌, ◌+◌, ◌<◌, true, false, cond, Bool, List, [], ◌∷◌}
use Vocabulary.{◌++◌, map, length, None}
use Vocabulary.{arith, length-append, map-append, ReadLine, Content, Epoch, Place}
use Vocabulary.{Done, FileUnit, HeaderLine, EventRecord, Item, Accepted, Warned}
use Vocabulary.{is_at_start, header_has_ended, records_left, records_count_types, types_in_force}
use Vocabulary.{types_fault, header_line_fault, unit_place, AtLines, reading_from, IsReadForward, AreInPlace}
use Rattle.crx_filter.proofs.reading.{Resuming.{resumed, within-here, enough-units}}
use Rattle.crx_filter.specs.meaning.UnitsAndText.{as_items}
use Rattle.{crx_header.proofs.Counts.types_of-push, std.proofs.lemmas.List.drop_all}

-- the units among some items
abbrev pub units_in : List (Item Epoch) → List (FileUnit Epoch)
units_in [] = []
units_in (Accepted unit ∷ before) = unit ∷ units_in before
units_in (Warned at ∷ before) = units_in before

-- ---- the same state

-- some items leave the same as some units: the same header, the same number of records to be read, and the same types
pub record IsLike {E : Type 0} (items : List (Item E)) (units : List (FileUnit Epoch)) : Type 0 where
  pub header : header_has_ended items ≡ header_has_ended (as_items units)
  pub start : is_at_start items ≡ is_at_start (as_items units)
  pub left : records_left items ≡ records_left (as_items units)
  pub counts : 0 < records_left items → records_count_types items ≡ records_count_types (as_items units)
  pub types : types_in_force items ≡ types_in_force (as_items units)

pub started : {E : Type 0} (items : List (Item E)) → header_has_ended items ≡ true → is_at_start items ≡ false
started items e = grind (arith, common_steps)

pub units-like : (items : List (Item Epoch)) → AreInPlace items → IsLike items (units_in items)
units-like [] h = search rules
units-like (Accepted unit ∷ before) h = grind (arith, common_steps, types_of-push, units-like before h.1)
units-like (Warned at ∷ before) h = grind (arith, common_steps, started, units-like before h.1)

pub units-placed : (items : List (Item Epoch)) → AreInPlace items → AreInPlace (as_items (units_in items))
units-placed [] h = tt
units-placed (Accepted unit ∷ before) h = grind (arith, common_steps, units-like, units-placed before h.1)
units-placed (Warned at ∷ before) h = units-placed before h.1

-- ---- header lines and records at their places

pub header-here : {E : Type 0} (beginning : List (Item E) → List ReadLine → Place (FileUnit E)) (items : List
    (Item E)) (line : List ℕ) → header_has_ended items ≡ false → header_line_fault (is_at_start items) line
    ≡ None → unit_place beginning items (Content line ∷ []) ≡ Done (HeaderLine line) 1
header-here beginning items line e f = rw (e, f) refl

pub record-here : {E : Type 0} (beginning : List (Item E) → List ReadLine → Place (FileUnit E))
    (items : List (Item E)) (line : List ℕ) (left : ℕ) → header_has_ended items ≡ true
    → records_left items ≡ left → 0 < left → cond (records_count_types items) (types_fault line) None ≡ None
    → unit_place beginning items (Content line ∷ []) ≡ Done (EventRecord line) 1
record-here beginning items line other ended_reading e some good = grind arith

-- ---- one unit after another

-- these lines were read to their end, after some items
abbrev pub AllRead : {E : Type 0} → (List (Item E) → List ReadLine → Place (FileUnit E)) → Bool
    → List (Item E) → ℕ
    → List (List ℕ) → List (Item E) → Type 0
AllRead place skip before number lines items = reading_from place skip before number (map Content lines)
    ≡ record { items = items; stop = AtLines (number + length lines) [] }

pub unit-more : {E : Type 0} (place : List (Item E) → List ReadLine → Place (FileUnit E))
    → IsReadForward place
    → (skip : Bool) (before items : List (Item E)) (number : ℕ) (first more : List (List ℕ))
    (unit : FileUnit E)
    → AllRead place skip before number first items → place items (map Content more) ≡ Done unit (length more)
    → AllRead place skip before number (first ++ more) (Accepted unit ∷ items)
unit-more place h skip before items number first more unit e f = grind
    (arith, map-append, resumed, enough-units, within-here, drop_all, length-map, length-append)
