-- A compacted file is restored: its compact text is one that any writer may write.
use Rattle.crx_filter.proofs
use proofs.Vocabulary.{common_steps, arith, ℕ, ◌≡◌, true, false, List, map, None, ap, sym, ◌∙◌, lines_of}
use proofs.Vocabulary.{lines_text}
use proofs.Vocabulary.{pieces_of, as_read, Epoch, FileUnit, Choices, is_date, compacted, expanded, Item}
use proofs.Vocabulary.{FilterResult, compact_lines, printed_items, whole_of, IsStandard}
use proofs.Vocabulary.{HaveNoReturns, written_well}
use proofs.anywriter.{AnyText.any-text, TextCompactedHere.{own-items, units-printed, whole-items}}
use proofs.wayback.{Canonical.same-compaction, NormalForm.standard-as_normal}
use proofs.wayback.{Units.{compacts, settled, no-returns, units_in}}
use proofs.wayback.{Standard.{NoReturn, plain-no_return, plain-text, same-reading}, Reading.whole-copied}
use proofs.wayback.WayBack.{IsSettled, whole-settled}
use Rattle.crx_filter.specs.meaning.{Canonical.IsCanonical, UnitsAndText.TextsOfUnits}
use Rattle.crx_filter.specs.WayBack.{ComesBack, NormalFormComesBack, StandardComesBack}

-- accepted items are restored from their compact text
pub items-back : (items : List (Item Epoch)) (compacting expanding : Choices) → is_date compacting.date ≡ true
    → IsSettled items → HaveNoReturns items → expanded (lines_text (compact_lines compacting items)) expanding
    ≡ written_well (lines_text (printed_items items))
items-back items compacting expanding dated h none =
    any-text (lines_text (compact_lines compacting items)) expanding (units_in items) (whole-items items h)
    (own-items compacting items dated h none) ∙ ap (λ ls. written_well (lines_text ls)) (units-printed items)

pub comes-back : (input : List ℕ) (compacting expanding : Choices) → ComesBack input compacting expanding
comes-back input compacting expanding dated f none = search (items-back, whole-settled)

-- ---- a file read to its end without a fault, and a standard file

pub normal-comes_back : (input : List ℕ) (compacting expanding : Choices)
    → NormalFormComesBack input compacting expanding
normal-comes_back input compacting expanding dated good none =
    grind (arith, common_steps, same-reading, comes-back)

pub standard-comes_back : (input : List ℕ) (compacting expanding : Choices)
    → StandardComesBack input compacting expanding
standard-comes_back input compacting expanding dated standard =
    let none = whole-copied NoReturn false (map as_read (lines_of input)) standard.good
    (plain-no_return (pieces_of input) standard.plain) in
    grind (arith, common_steps, normal-comes_back, plain-text)

-- a file without copied lines that end in CR
pub standard-where_kept : (input : List ℕ) (compacting expanding : Choices)
    → is_date compacting.date ≡ true → (whole_of input).fault ≡ None → HaveNoReturns (whole_of input).items
    → (expanded (compacted input compacting).output expanding).output ≡ input → IsStandard input
standard-where_kept input compacting expanding dated good none same =
    grind (arith, common_steps, normal-comes_back, standard-as_normal)

pub canonical : (one other : List ℕ) (choices : Choices) → IsCanonical one other choices
canonical one other choices dated h k = (
  λ same. ap (λ (r : FilterResult). r.output)
      (sym (normal-comes_back one choices choices dated h.good h.no_returns) ∙ ap (λ t. expanded t choices)
      same ∙ normal-comes_back other choices choices dated k.good k.no_returns),
  λ same. ap (λ (r : FilterResult). r.output) (same-compaction one other choices h k same),
)

-- ---- the two texts of units that make a file

pub texts-of_units : (units : List (FileUnit Epoch)) (compacting expanding : Choices)
    → TextsOfUnits units compacting expanding
texts-of_units units compacting expanding h = search (compacts, items-back, settled, no-returns)
