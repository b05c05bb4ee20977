-- The two texts of units that make a file; and each standard file is such a text.
use Rattle.crx_filter.proofs.Vocabulary
use Vocabulary.{common_steps, arith, ℕ, ◌≡◌, List, [], ◌∷◌, None, refl, ap, lines_of}
use Vocabulary.{as_read, Epoch, FileUnit, Choices, compacted}
use Vocabulary.{WholeReading, whole_of, IsStandard, OfCopiedLines, HaveNoReturns}
use Vocabulary.{written_well, warnings_in, AreInPlace}
use Rattle.crx_filter.proofs.wayback.NormalForm.{printed-again, accepted-all, whole-none, settled-standard}
pub use Rattle.crx_filter.proofs.wayback.UnitsReadAgain.{units_in}
use Rattle.crx_filter.proofs.wayback.Reading.{whole-copied}
use Rattle.crx_filter.proofs.wayback.Standard.{plain-no_return, plain-text, NoReturn}
use Rattle.crx_filter.proofs.wayback.{Canonical.compacted-by, WayBack.{IsSettled, whole-settled}}
use Rattle.crx_filter.{proofs.wayback.LinesCutAgain.CanStand, specs.meaning.UnitsAndText.{CanBeCopied, as_items}}
use Rattle.crx_filter.specs.meaning.UnitsAndText.{AreInOrder, MakeAFile, rinex_text, compact_text}
use Rattle.crx_filter.specs.meaning.UnitsAndText.{IsStandardByUnits}

-- ---- units in order are items that are settled

in-place : (units : List (FileUnit Epoch)) → AreInOrder units → AreInPlace (as_items units)
in-place [] h = tt
in-place (unit ∷ before) h = (h.0, in-place before h.2)

copied : (Q : List ℕ → Type 0) → ((line : List ℕ) → CanBeCopied line → Q line)
    → (units : List (FileUnit Epoch)) → AreInOrder units → OfCopiedLines Q (as_items units)
copied Q f [] h = tt
copied Q f (unit ∷ before) h = (grind (arith, common_steps), copied Q f before h.2)

can-stand : (line : List ℕ) → CanBeCopied line → CanStand line
can-stand line h = (h.one_line, h.short)

pub settled : (units : List (FileUnit Epoch)) → MakeAFile units → IsSettled (as_items units)
settled units h = search (in-place, copied, can-stand)

pub no-returns : (units : List (FileUnit Epoch)) → MakeAFile units → HaveNoReturns (as_items units)
no-returns units h = copied NoReturn (λ line c. c.no_return) units h.in_order

-- ---- their texts

pub none-warned : (units : List (FileUnit Epoch)) → warnings_in (as_items units) ≡ []
none-warned [] = refl
none-warned (unit ∷ before) = none-warned before

pub units-again : (units : List (FileUnit Epoch)) → units_in (as_items units) ≡ units
units-again [] = refl
units-again (unit ∷ units) = ap (λ us. unit ∷ us) (units-again units)

whole-text : (units : List (FileUnit Epoch)) → MakeAFile units
    → whole_of (rinex_text units) ≡ record { items = as_items units; fault = None }
whole-text units h = grind (arith, common_steps, printed-again, as_items, settled, no-returns, units-again)

pub compacts : (units : List (FileUnit Epoch)) (choices : Choices) → MakeAFile units
    → compacted (rinex_text units) choices ≡ written_well (compact_text choices units)
compacts units choices h = search (whole-text, compacted-by, none-warned)

-- ---- a standard file is the text of its units

in-order : (units : List (FileUnit Epoch)) → AreInPlace (as_items units)
    → OfCopiedLines CanStand (as_items units) → HaveNoReturns (as_items units) → AreInOrder units
in-order [] h k e = tt
in-order (unit ∷ before) h k e = (h.0, grind arith, in-order before h.1 k.1 e.1)

make-file : (units : List (FileUnit Epoch)) → IsSettled (as_items units) → HaveNoReturns (as_items units)
    → MakeAFile units
make-file units h none = search (in-order)

all-accepted : (file : List ℕ)
    → as_items (units_in (WholeReading.items (whole_of file))) ≡ WholeReading.items (whole_of file)
all-accepted file = grind (arith, common_steps, accepted-all, whole_of, whole-none, as_read, lines_of)

-- the units read from a standard file
pub read-units : (file : List ℕ) → IsStandard file → MakeAFile (units_in (WholeReading.items (whole_of file)))
read-units file h = search (all-accepted, make-file, whole-settled, whole-copied, plain-no_return)

units-of_standard : (file : List ℕ) → IsStandard file
    → (units : List (FileUnit Epoch)) × MakeAFile units × (file ≡ rinex_text units)
units-of_standard file h =
    grind (arith, common_steps, read-units file h, plain-text file h.plain, all-accepted file)

pub standard-by_units : (file : List ℕ) → IsStandardByUnits file
standard-by_units file =
    grind (arith, common_steps, units-of_standard, settled-standard, as_items, settled, no-returns)
