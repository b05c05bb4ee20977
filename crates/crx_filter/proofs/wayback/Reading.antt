-- The lines that a compaction wrote, read one unit after another; and properties of the copied lines among an input's
-- lines.
use Rattle.crx_filter.proofs.Vocabulary
use Vocabulary.{[], ◌∷◌, ℕ, ◌≡◌, ◌≤◌, Bool, List, Option, AllByRecursion, ReadLine}
use Vocabulary.{Epoch, Item, HeaderLine}
use Vocabulary.{EventLine, EventRecord, Observation, Accepted, Warned}
use Vocabulary.{arith, common_steps}
use Vocabulary.{None, whole_rinex, written_lines, Place, FileUnit, WholeReading, rinex_place}
use Rattle.crx_filter.proofs.{Vocabulary.OfCopiedLines, reading.{ListsOfUnits.all-parts}}
use Rattle.crx_filter.proofs.accounts.{CopiedUnits.{CopiesLines, rinex-copies}, OwnedLines.file-told}
use Rattle.crx_filter.proofs.wayback.{LinesCutAgain.OfContent, Items.body_unit}
use Rattle.crx_filter.proofs.wayback.{Returns.{returns_in, returns_read, read-append}}
use Rattle.crx_filter.specs.meaning.Fate.{OwnInOrder}

-- ---- the lines written for the units, read again

-- the lines of compact text after its first two
abbrev pub lines_back : Option ℕ → List (Item Epoch) → List (List ℕ)
lines_back every items = written_lines (body_unit every) items

-- ---- copied lines are lines of the input

abbrev pub copied : {E : Type 0} → List (Item E) → List (List ℕ)
copied [] = []
copied (Accepted (HeaderLine line) ∷ before) = line ∷ copied before
copied (Accepted (EventLine line) ∷ before) = line ∷ copied before
copied (Accepted (EventRecord line) ∷ before) = line ∷ copied before
copied (Accepted (Observation epoch) ∷ before) = copied before
copied (Warned at ∷ before) = copied before

-- if `P` holds of each line's content, it holds of each copied line
pub of-own : {E : Type 0} (place : List (Item E) → List ReadLine → Place (FileUnit E)) → CopiesLines place
    → (P : List ℕ → Type 0) (number : ℕ) (items : List (Item E)) (lines kept : List ReadLine)
    → OwnInOrder place number items lines kept → AllByRecursion (OfContent P) lines
    → AllByRecursion P (copied items)
of-own place copies P number [] lines kept h all = tt
of-own place copies P number (Accepted unit ∷ before) lines kept
    (front, own, others, is, left, mine, rest) all =
    grind (
      arith,
      common_steps,
      all-parts (OfContent P) front own,
      copies before own unit mine,
      of-own place copies P number before front others rest,
    )
of-own place copies P number (Warned at ∷ before) lines kept (front, own, others, is, left, mine, rest) all =
    grind (
      arith,
      common_steps,
      all-parts (OfContent P) front own,
      of-own place copies P number before front others rest,
    )

-- the copied lines have no more bytes 13 than all lines
pub own-counted : {E : Type 0} (place : List (Item E) → List ReadLine → Place (FileUnit E))
    → CopiesLines place
    → (number : ℕ) (items : List (Item E)) (lines kept : List ReadLine)
    → OwnInOrder place number items lines kept → returns_in (copied items) ≤ returns_read lines
own-counted place copies number [] lines kept h = omega arith
own-counted place copies number (Accepted unit ∷ before) lines kept
    (front, own, others, is, left, mine, rest) =
    grind (
      arith,
      common_steps,
      read-append,
      copies before own unit mine,
      own-counted place copies number before front others rest,
    )
own-counted place copies number (Warned at ∷ before) lines kept (front, own, others, is, left, mine, rest) =
    grind (arith, common_steps, read-append, own-counted place copies number before front others rest)

-- ---- of RINEX

pub of-copied : (P : List ℕ → Type 0) (items : List (Item Epoch)) → AllByRecursion P (copied items)
    → OfCopiedLines P items
of-copied P [] h = tt
of-copied P (item ∷ items) h = grind (arith, common_steps, of-copied P items)

pub whole-copied : (P : List ℕ → Type 0) (skip : Bool) (lines : List ReadLine)
    → (whole_rinex skip lines).fault ≡ None
    → AllByRecursion (OfContent P) lines → OfCopiedLines P (whole_rinex skip lines).items
whole-copied P skip lines f all =
    let (kept, own) = file-told skip lines f in
    let items = WholeReading.items (whole_rinex skip lines) in
    of-copied P items (of-own rinex_place rinex-copies P 1 items lines kept own all)
