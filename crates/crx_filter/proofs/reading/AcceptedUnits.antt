-- Accepted units were at the lines where they were read.
use Rattle.crx_filter.proofs.Vocabulary.{common_steps, arith, ℕ, ◌≡◌, ◌+◌, Bool, true, List, [], length, ◌∷◌}
use Rattle.crx_filter.proofs.Vocabulary.{ReadLine, Fault, Place, FileUnit, Item, header_has_ended, records_left}
use Rattle.crx_filter.proofs.Vocabulary.{is_skipped, reading_from, is_skippable, compact_place, compact_reading}
use Rattle.crx_filter.proofs.Vocabulary.{ItemsAreRead, At, Warned, WholeReading, Stop, whole_reading}
use Rattle.crx_filter.proofs.Vocabulary.{whole_compact}
use Rattle.crx_filter.proofs.{Vocabulary.{ended_reading, by_bool}, reading.StepInvariants.within-kept}

pub allowed : {E : Type 0} (skip : Bool) (items : List (Item E)) (fault : Fault) → is_skipped skip items fault
    ≡ true → (header_has_ended items ≡ true) × (records_left items ≡ 0) × (is_skippable fault ≡ true)
allowed skip items fault e = grind (arith, common_steps)

-- a property of the items read, which a skipped warning keeps, holds after the input's end
pub of-ended : {E : Type 0} (P : List (Item E) → Type 0) (skip : Bool) (items : List (Item E)) (stop : Stop)
    → P items → ((at : At) → is_skipped skip items at.fault ≡ true → P (Warned at ∷ items))
    → P (WholeReading.items (ended_reading skip (record { items = items; stop = stop })))
of-ended v1 skip items v2 h warned = grind (arith, by_bool)

pub items-read : {E : Type 0} (place : List (Item E) → List ReadLine → Place (FileUnit E)) (skip : Bool)
    (number : ℕ) (lines : List ReadLine) → ItemsAreRead place (reading_from place skip [] number lines).items
items-read place skip number lines = (within-kept place skip (λ items ls. ItemsAreRead place items) (record {
  here = λ items lines unit count e h. ((lines, count, e), h);
  passed = λ items lines at n on h. (allowed skip items at.fault on, h);
}) (length lines + 1) [] number lines tt).1

pub compact-items-read : (skip : Bool) (lines : List ReadLine)
    → ItemsAreRead compact_place (compact_reading skip lines).items
compact-items-read skip lines = grind (arith, common_steps, items-read)

pub whole-read : {E : Type 0} (place : List (Item E) → List ReadLine → Place (FileUnit E)) (skip : Bool)
    (number : ℕ) (lines : List ReadLine) → ItemsAreRead place (whole_reading place skip number lines).items
whole-read place skip number lines = grind (arith, common_steps, items-read, of-ended)

pub compact-whole_read : (skip : Bool) (lines : List ReadLine)
    → ItemsAreRead compact_place (whole_compact skip lines).items
compact-whole_read skip lines = grind (arith, common_steps, whole-read)
