-- The fault of a line that may declare types.
use Rattle.crx_filter.proofs.Vocabulary.{common_steps, arith, ◌≡◌, ◌⊎◌, Bool, true, List, ℕ, Option, Some, None}
use Rattle.crx_filter.proofs.Vocabulary.{if◌then◌else◌, is_some, Fault, OutOfMemory, Count}
use Rattle.crx_filter.proofs.Vocabulary.{types_fault}
use Rattle.{crx_filter.specs.meaning.UnitPlaces.first_fault}
use Rattle.{std.specs.Prelude.[], crx_base.specs.declared.fault.Fault.TheVariants.BadTypesLine}
use Rattle.crx_header.specs.meaning.ObservationTypes.{is_bad_types_line, count_of_types_line}

-- the meaning of a fault of `accept_line`
abbrev pub Bad : List Count → List ℕ → Fault → Type 0
Bad types line fault = ((fault ≡ BadTypesLine) × (is_bad_types_line line ≡ true))
    ⊎ ((fault ≡ OutOfMemory) × (is_some (count_of_types_line line) ≡ true) × (types ≡ []))

-- the same of a header line
abbrev pub RefusedFirst : Option Fault → List ℕ → Fault → Type 0
RefusedFirst wrong line fault =
    (wrong ≡ Some fault) ⊎ ((fault ≡ OutOfMemory) × (is_some (count_of_types_line line) ≡ true))

pub refused-first : (types : List Count) (wrong : Option Fault) (line : List ℕ) (fault : Fault) → wrong ≡ None
    → Bad types line fault → RefusedFirst (first_fault wrong (types_fault line)) line fault
refused-first types wrong line fault none bad =
    grind (arith, common_steps, first_fault, types_fault)

pub if-none : (b : Bool) (o : Option Fault) → o ≡ None → (if b then o else None) ≡ None
if-none other o none = grind (arith, common_steps)
