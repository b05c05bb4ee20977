-- The compact text of a file that is compacted here, damaged in stretches or cut off, is a damaged text as of any
-- writer.
use Rattle.crx_filter.proofs
use proofs.Vocabulary.{ℕ, ◌≡◌, true, false, List, [], ◌∷◌, ◌++◌, map, Option, None, refl, ap, sym, ◌∙◌}
use proofs.Vocabulary.{subst, arith, AllByRecursion, flat_map, printed_epoch, list_all}
use proofs.Vocabulary.{InputLine, lines_of, lines_text, common_steps}
use proofs.Vocabulary.{as_read, version_line, program_line, Epoch, FileUnit, IsWholeEpoch}
use proofs.Vocabulary.{Choices, is_date, Item, is_at_start, records_left}
use proofs.Vocabulary.{compact_lines, printed_items, expanded, Begins, AreInPlace, BeginsAnew, with_stretches}
use proofs.Vocabulary.{Stretch, IsStretch, AreStretches}
use Rattle.crx_filter.specs.meaning.{CompactText.{AreUnitsInPlace, AreWholeFile}, Stretches.{BeginsWithUnits}}
use Rattle.crx_filter.specs.meaning.{Stretches.{HasStretches, Saves, begins_no_event}}
use Rattle.crx_filter.specs.OwnStretches.{read_of_file, IsReadWhole, OwnStretch, up_to_own_end}
use Rattle.crx_filter.specs.OwnStretches.{up_to_own_next, with_own, own_text}
use Rattle.crx_filter.specs.OwnStretches.{may_come_instead, AreOwnStretches, HasOwnStretches, SavesOwn}
use Rattle.crx_filter.specs.OwnStretches.{KeepsOwnRest, BeginsWithOwn}
use proofs.anywriter.{AnyText.first-units}
use proofs.anywriter.TextCompactedHere.{units-append, units-printed, state_after}
use proofs.anywriter.TextCompactedHere.{state_on, own-on, own-cut, own-lines, whole-items}
use proofs.damage.{ItemTexts.rest-in_place, TextAfter.begins-rest}
use proofs.stretches.StretchesCut.{AreGood, good-before, good-up_to, as_stretch, as_stretches, stretches-cut}
use proofs.stretches.StretchesSaved.{rest-kept}
use proofs.wayback.{UnitsReadAgain.{started, units-like}, FirstTwoLines.program-read}
use proofs.wayback.{Reading.lines_back, Units.units_in, WayBack.{IsSettled, whole-settled}}

-- ---- the file

pub file-settled : (file : List ℕ) (choices : Choices) → IsReadWhole file choices
    → IsSettled (read_of_file file choices).items
file-settled file choices h = whole-settled choices.skip file h.good

pub file-good : (file : List ℕ) (choices : Choices) → IsReadWhole file choices
    → AreGood (read_of_file file choices).items
file-good file choices h = grind (arith, file-settled)

pub file-whole : (file : List ℕ) (choices : Choices) → IsReadWhole file choices
    → AreWholeFile (units_in (read_of_file file choices).items)
file-whole file choices h = whole-items (read_of_file file choices).items (file-settled file choices h)

-- ---- text that begins with the lines of its first units

abbrev pub begins-own : (choices : Choices) (before : List (Item Epoch)) (more : List ℕ)
    → is_date choices.date ≡ true → AreGood before
    → is_at_start before ≡ false
    → BeginsWithUnits (units_in before) (lines_text (compact_lines choices before) ++ more)
begins-own choices before more dated h begun = record {
  version = version_line;
  program = program_line choices.date;
  lines = lines_back choices.every before;
  more = map as_read (lines_of more);
  last = state_after choices.every before;
  cut = own-cut choices before more dated h begun;
  first = refl;
  second = program-read choices.date;
  written = own-lines choices before h.in_place;
}

pub units-before : (later before : List (FileUnit Epoch)) → AreUnitsInPlace (later ++ before)
    → AreUnitsInPlace before
units-before [] before h = h
units-before (unit ∷ later) before h = units-before later before h.1

pub whole-first : (file : List ℕ) (choices expanding : Choices) (text : List ℕ)
    → is_date choices.date ≡ true → (h : BeginsWithOwn file choices text)
    → Begins (expanded text expanding).output (lines_text (printed_items h.before))
whole-first file choices expanding text dated h = by_units h.before
    (good-before h.after h.before (rw (← h.parts) (file-good file choices h.file_good)))
    (units-before (units_in h.after) (units_in h.before) (subst AreUnitsInPlace
    (ap units_in h.parts ∙ units-append h.after h.before) (file-whole file choices h.file_good).in_place))
    h.text_is
  where
    by_units : (before : List (Item Epoch)) → AreGood before → AreUnitsInPlace (units_in before)
        → text ≡ lines_text (compact_lines choices before) ++ h.more
        → Begins (expanded text expanding).output (lines_text (printed_items before))
    by_units [] good placed e = record { rest = (expanded text expanding).output; same = refl }
    by_units (item ∷ before) good placed e =
        subst (λ ls. Begins (expanded text expanding).output (lines_text ls)) (units-printed (item ∷ before))
        (first-units (units_in (item ∷ before)) text expanding placed
        (subst (BeginsWithUnits (units_in (item ∷ before))) (sym e)
        (begins-own choices (item ∷ before) h.more dated good refl)))

-- ---- its stretches

-- if the kept units begin with a restart, they follow whole units
left-before : (choices : Choices) (kept block : List (Item Epoch)) → AreInPlace (kept ++ block)
    → BeginsAnew choices block kept → (kept ≡ [] → records_left block ≡ 0) → records_left block ≡ 0
left-before choices [] block h anew closed = closed refl
left-before choices (item ∷ []) block h anew closed = grind (arith, common_steps)
left-before choices (newest ∷ item ∷ items) block h anew closed =
    grind (arith, common_steps, rest-in_place, begins-rest, left-before choices (item ∷ items) block)

lines-allowed : (lines : List InputLine) → list_all may_come_instead lines ≡ true
    → list_all begins_no_event (map as_read lines) ≡ true
lines-allowed [] e = refl
lines-allowed (line ∷ lines) e = grind (arith, common_steps, lines-allowed lines)

-- its units up to the next stretch, or the end, are whole
next-closed : (choices : Choices) (next : List (Item Epoch)) (later : List OwnStretch)
    → AreOwnStretches choices next later → records_left (with_own next later) ≡ 0 → records_left next ≡ 0
next-closed choices next [] h closed = closed
next-closed choices next (s ∷ later) h closed = (h.0).between

units-next : (before : List (Item Epoch)) (s : OwnStretch)
    → units_in (up_to_own_next before s) ≡ units_in s.kept ++ (units_in s.lost ++ units_in before)
units-next before s = units-append s.kept (up_to_own_end before s)
    ∙ ap (λ us. units_in s.kept ++ us) (units-append s.lost before)

one-stretch : (choices : Choices) (before : List (Item Epoch)) (s : OwnStretch) (later : List OwnStretch)
    → AreOwnStretches choices before (s ∷ later) → AreInPlace (up_to_own_next before s)
    → records_left (with_own (up_to_own_next before s) later) ≡ 0
    → IsStretch (units_in before) (as_stretch choices.every before s)
one-stretch choices before s later h placed closed =
    let block : List (Item Epoch) = up_to_own_end before s in
    let up_to : AreInPlace block = rest-in_place s.kept block placed in
    let first : AreInPlace before = rest-in_place s.lost before up_to in
    let same : units_in block ≡ units_in s.lost ++ units_in before = units-append s.lost before in
    let ends : records_left block ≡ 0 = left-before choices s.kept block placed (h.0).anew
    (λ none. rw none at (next-closed choices (up_to_own_next before s) later h.1 closed)) in
    record {
      begins = sym (units-like before first).left ∙ (h.0).between;
      ends = rw (← same) (sym (units-like block up_to).left ∙ ends);
      types = rw (← same) (cc ((units-like block up_to).types, (h.0).types, (units-like before first).types));
      allowed = lines-allowed (lines_of s.instead) (h.0).allowed;
      last = state_on None choices.every block s.kept;
      written = rw (← same) (own-on None choices block s.kept placed (λ e. (h.0).anew));
    }

-- its stretches as those of a text, whoever wrote it
pub own-as : (choices : Choices) (before : List (Item Epoch)) (stretches : List OwnStretch)
    → AreOwnStretches choices before stretches → AreGood (with_own before stretches)
    → records_left (with_own before stretches) ≡ 0
    → (with_stretches (units_in before) (as_stretches choices.every before stretches) ≡ units_in
    (with_own before stretches))
    × AreStretches (units_in before) (as_stretches choices.every before stretches)
own-as choices before [] h good closed = (refl, tt)
own-as choices before (s ∷ later) h good closed =
    let next = up_to_own_next before s in
    let rest = own-as choices next later h.1 good closed in
    grind (arith, common_steps, as_stretches, units-next, one-stretch, good-up_to, good)

-- ---- its saved units

saves-own : (every : Option ℕ) (before : List (Item Epoch)) (stretches : List OwnStretch)
    (lines : List (List ℕ))
    → AreGood (with_own before stretches)
    → Saves (units_in before) (as_stretches every before stretches) lines
    → SavesOwn before stretches lines
saves-own every before [] lines good h = h
saves-own every before (s ∷ later) lines good h = (
  h.0,
  h.1,
  subst (λ types. AllByRecursion (IsWholeEpoch types) h.0)
      (sym (units-like before (good-up_to before (s ∷ later) good).in_place).types) h.2,
  h.3 ∙ ap (λ ls. flat_map printed_epoch h.0 ++ (ls ++ h.1)) (units-printed s.kept),
  saves-own every (up_to_own_next before s) later h.1 good (rw (units-next before s) h.4),
)

module _ (file : List ℕ) (choices : Choices) (damaged : List ℕ) (dated : is_date choices.date ≡ true)
    (d : HasOwnStretches file choices damaged) where
  pub settled : IsSettled (with_own d.before d.stretches)
  settled = subst IsSettled d.parts (file-settled file choices d.file_good)

  pub good : AreGood (with_own d.before d.stretches)
  good = subst AreGood d.parts (file-good file choices d.file_good)

  -- the text, and the stretches as those of a text, whoever wrote it
  abbrev pub text_of_own : List ℕ
  text_of_own = lines_text (compact_lines choices d.before) ++ own_text choices d.before d.stretches

  abbrev pub stretches_of_own : List Stretch
  stretches_of_own = as_stretches choices.every d.before d.stretches

  abbrev pub own-damage : HasStretches (units_in d.before) stretches_of_own text_of_own
  own-damage =
      let as_own = own-as choices d.before d.stretches d.each good settled.none in record {
        file = subst AreWholeFile (ap units_in d.parts ∙ sym as_own.0)
            (file-whole file choices d.file_good);
        header = sym (units-like d.before (good-up_to d.before d.stretches good).in_place).header ∙ d.header;
        text = begins-own choices d.before (own_text choices d.before d.stretches) dated (good-up_to d.before
            d.stretches good)
            (started d.before d.header);
        each = as_own.1;
        rest = stretches-cut choices d.before d.stretches d.each good d.header;
      }

pub own-rest : (file : List ℕ) (choices expanding : Choices) (damaged : List ℕ)
    → is_date choices.date ≡ true → expanding.skip ≡ true → (d : HasOwnStretches file choices damaged)
    → KeepsOwnRest file choices damaged d (expanded damaged expanding)
own-rest file choices expanding damaged dated skips d =
    let k = rest-kept (units_in d.before) (stretches_of_own file choices damaged dated d)
    (text_of_own file choices damaged dated d)
    expanding skips (own-damage file choices damaged dated d) in
    let same = ap (λ t. expanded t expanding) d.text in
    grind (
      arith,
      common_steps,
      k,
      same,
      saves-own choices.every d.before d.stretches k.lines (good file choices damaged dated d) k.saves,
      units-printed d.before,
    )
