-- The output of an expansion is standard: the units read from compact text are in place, as units of RINEX, and a
-- copied line is a line.
use Rattle.crx_filter.proofs
use proofs.Vocabulary.{common_steps, [], ℕ, ◌≡◌, Bool, true, List, ◌∷◌, ◌++◌, None}
use proofs.Vocabulary.{refl, ap, ◌∙◌, arith, AllByRecursion, and_parts, not-true}
use proofs.Vocabulary.{lines_text, ReadLine, Epoch}
use proofs.Vocabulary.{printed_unit, ReadEpoch, Choices}
use proofs.Vocabulary.{compact_place, whole_compact, expanded_unit, Item}
use proofs.Vocabulary.{Accepted, Warned, is_at_start, header_has_ended, records_left, records_count_types}
use proofs.Vocabulary.{declaring_lines, WholeReading, printed_items}
use proofs.Vocabulary.{HaveNoReturns, written_lines, ItemsAreRead}
use proofs.{Vocabulary.{AreInPlace}, reading.ListsOfUnits.{all-parts}}
use proofs.reading.{ForwardCompact.compact-forward}
use proofs.accounts.{CopiedUnits.compact-copies, OwnedLines.text-told}
use proofs.{reading.AcceptedUnits.compact-whole_read}
use proofs.wayback.{RestoredIsStandard.{lines-plain, all-plain}, LinesCutAgain.{CanStand, OfContent, input-stands}}
use proofs.wayback.{LinesCutAgain.first-cut, ExpandedWhole.{AreGoodEpochs, compact-stands, epochs-good}}
use proofs.wayback.NormalForm.{printed-clean, printed-stand, settled-standard}
use proofs.{wayback.FirstTwoLines.{two-back, two-whole}}
use proofs.wayback.Reading.{copied, of-copied, of-own}
use proofs.wayback.{Standard.NoReturn, WayBack.{IsSettled, whole-closes}}
use Rattle.crx_filter.specs.meaning.{Expanded.rinex_unit, WrittenStandard.{has_plain_lines, rinex_items}}
use Rattle.crx_filter.specs.meaning.{WrittenStandard.WhatIsExpandedIsStandard}

-- ---- the units of compact text, as units of RINEX, have the same header, events and types in force

record IsReadAs (items : List (Item ReadEpoch)) (units : List (Item Epoch)) : Type 0 where
  start : is_at_start units ≡ is_at_start items
  header : header_has_ended units ≡ header_has_ended items
  left : records_left units ≡ records_left items
  counts : records_count_types units ≡ records_count_types items
  lines : declaring_lines units ≡ declaring_lines items

read-as : (items : List (Item ReadEpoch)) → IsReadAs items (rinex_items items)
read-as [] = record { start = refl; header = refl; left = refl; counts = refl; lines = refl }
read-as (item ∷ before) = grind (arith, common_steps, read-as before)

pub count-read : (items : List (Item ReadEpoch))
    → records_count_types (rinex_items items) ≡ records_count_types items
count-read items = (read-as items).counts

-- ---- they are in place

items-placed : (items : List (Item ReadEpoch)) → ItemsAreRead compact_place items → AreGoodEpochs items
    → AreInPlace (rinex_items items)
items-placed [] h good = tt
items-placed (Accepted unit ∷ before) h good =
    let stands = compact-stands before (h.0).0 unit (h.0).1 (h.0).2 in
    let same = read-as before in
    grind (arith, common_steps, items-placed before h.1)
items-placed (Warned at ∷ before) h good = grind (arith, items-placed before h.1 good, read-as before)

-- ---- a copied line is a line

pub copied-read : (items : List (Item ReadEpoch)) → copied (rinex_items items) ≡ copied items
copied-read [] = refl
copied-read (item ∷ items) = grind (arith, common_steps, copied-read items)

-- ---- the end

pub read-settled : (skip : Bool) (lines : List ReadLine) → AllByRecursion (OfContent CanStand) lines
    → WholeReading.fault (whole_compact skip lines) ≡ None
    → IsSettled (rinex_items (WholeReading.items (whole_compact skip lines)))
read-settled skip lines h f =
    let items = (whole_compact skip lines).items in
    let read = compact-whole_read skip lines in
    let (first, second, rest, is, kept, own) = text-told skip lines f in
    let two = two-back skip lines f in
    let whole = two-whole skip lines two in
    let closed = whole-closes compact_place compact-forward skip 3 two.rest (rw whole at f) in
    record {
      in_place = items-placed items read (epochs-good items read);
      copied = of-copied CanStand (rinex_items items)
          (rw copied-read (of-own compact_place compact-copies CanStand 3 items rest kept own
          (rw is at h).1.1));
      header = (read-as items).header ∙ rw whole closed.0;
      none = (read-as items).left ∙ rw whole closed.1;
    }

-- ---- the output

pub printed-read : (items : List (Item ReadEpoch))
    → written_lines expanded_unit items ≡ printed_items (rinex_items items)
printed-read [] = refl
printed-read (Accepted unit ∷ before) = ap (λ ls. ls ++ printed_unit (rinex_unit unit)) (printed-read before)
printed-read (Warned at ∷ before) = printed-read before

-- if each of some lines is plain after they are written and cut again, none has a CR at its end
cut-plain : (lines : List (List ℕ)) → AllByRecursion CanStand lines
    → has_plain_lines (lines_text lines) ≡ true → AllByRecursion NoReturn lines
cut-plain [] h e = tt
cut-plain (line ∷ lines) h e = grind (arith, first-cut, and_parts, not-true, cut-plain lines)

copied-plain : (items : List (Item Epoch))
    → AllByRecursion NoReturn (printed_items items) → HaveNoReturns items
copied-plain [] h = tt
copied-plain (Accepted unit ∷ before) h =
    let both = all-parts _ _ _ h in grind (arith, copied-plain before both.0)
copied-plain (Warned at ∷ before) h = copied-plain before h

plain-copied : (items : List (Item Epoch)) → IsSettled items → HaveNoReturns items
    → has_plain_lines (lines_text (printed_items items)) ≡ true
plain-copied items h none = search (lines-plain, printed-clean, all-plain)

pub expanded-standard : (text : List ℕ) (choices : Choices) → WhatIsExpandedIsStandard text choices
expanded-standard text choices good = grind (
  arith,
  read-settled,
  input-stands,
  printed-read,
  copied-plain,
  cut-plain,
  printed-stand,
  settled-standard,
  plain-copied,
)
