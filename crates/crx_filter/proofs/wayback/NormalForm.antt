-- The accepted units, printed and read again; the normal form of a file, and a file in order.
use Rattle.crx_filter.proofs
use proofs.Vocabulary.{ℕ, ◌≡◌, ◌+◌, ◌*◌, ◌≤◌, true, false, List, [], ◌∷◌, ◌++◌, map, length, Option, None, refl}
use proofs.Vocabulary.{ap, ◌∙◌, arith, append-nil, AllByRecursion, is_some, length-map}
use proofs.Vocabulary.{and_parts, ReadLine, Content, clock_text, without_end_blanks, TYPES_LIMIT}
use proofs.Vocabulary.{Epoch, Count, is_event_line, records_in, IsWholeEpoch, epoch_place, Done}
use proofs.Vocabulary.{printed_row, printed_epoch, printed_cells, lines_text, FileUnit, HeaderLine, EventLine}
use proofs.Vocabulary.{EventRecord, Observation, printed_unit, Item, Accepted, Warned, types_in_force}
use proofs.Vocabulary.{WholeReading, warnings_in, rinex_place, whole_rinex, rinex_reading, printed_items, whole_of}
use proofs.Vocabulary.{normal_form, IsStandard, AreInPlace, OfCopiedLines, HaveNoReturns, HasNormalForm, sym}
use Rattle.{crx_header.specs.meaning.EpochColumns.satellites_of, crx_rinex.proofs.ReadingBack.epoch-back}
use Rattle.{crx_rinex.proofs.ReadingBack.{length-row, length-head}, crx_text.proofs.EndBlanks.few_kept}
use proofs.{following.Agreement.body-place, reading.{Forward.rinex-forward}}
use proofs.reading.{Forward.rinex_beginning, StepInvariants.within-kept, AcceptedUnits.of-ended}
use proofs.wayback.UnitsReadAgain.{units_in, units-like, units-placed, header-here, record-here, AllRead, unit-more}
use proofs.reading.{ListsOfUnits.all-from, EndAtStops.closes-well}
use proofs.Vocabulary.{Bool, IsInPlace, ended_reading, common_steps}
use Rattle.crx_filter.specs.meaning.UnitsAndText.{as_items}
use proofs.wayback.RestoredIsStandard.{rows-all, lines-plain, epoch-printable, all-plain, contents-plain}
use proofs.wayback.{LinesCutAgain.{IsClean, CanStand, front-cut}, WayBack.{IsSettled, whole-settled, written-all}}
use proofs.wayback.WayBack.{copied-clean, epoch-clean}
use proofs.Vocabulary.{OfCopiedLine}

-- ---- the printed lines of some units, read again

event-stands : (types : List Count) (line : List ℕ) (o : Option ℕ) → records_in line ≡ o → is_some o ≡ true
    → is_event_line line ≡ true → epoch_place types (Content line ∷ []) ≡ Done (EventLine line) 1
event-stands types line v1 e h event = grind (arith, and_parts)

stands : (items : List (Item Epoch)) (unit : FileUnit Epoch) → IsInPlace items unit
    → rinex_place items (map Content (printed_unit unit)) ≡ Done unit (length (printed_unit unit))
stands items (HeaderLine line) h = header-here rinex_beginning items line h.0 h.1
stands items (EventLine line) h = body-place rinex_beginning items (Content line ∷ []) h.0 h.1
    ∙ event-stands (types_in_force items) line _ refl h.3 h.2
stands items (EventRecord line) h = grind (arith, common_steps, record-here, rinex_beginning)
stands items (Observation epoch) h =
    let lines = map Content (printed_epoch epoch) in
    let counted : length epoch.rows + 1 ≡ length (printed_epoch epoch) = omega (
      arith,
      length-map epoch.rows printed_row,
    ) in
    cc (
      body-place rinex_beginning items lines h.0 h.1,
      append-nil lines,
      epoch-back (types_in_force items)
          epoch [] h.2,
      counted,
    )

printed-read : (skip : Bool) (units : List (FileUnit Epoch)) → AreInPlace (as_items units)
    → AllRead rinex_place skip [] 1 (printed_items (as_items units)) (as_items units)
printed-read skip [] h = grind arith
printed-read skip (unit ∷ units) h = unit-more rinex_place rinex-forward skip [] (as_items units) 1
    (printed_items (as_items units)) (printed_unit unit) unit (printed-read skip units h.1) (stands
    (as_items units) unit h.0)

-- ---- no warnings if nothing is skipped

pub whole-none : (lines : List ReadLine) → warnings_in (WholeReading.items (whole_rinex false lines)) ≡ []
whole-none lines =
    let r = rinex_reading false lines in
    let none = (within-kept rinex_place false (λ items ls. warnings_in items ≡ []) (record {
      here = λ items ls unit count e h. h;
      passed = λ items ls at n on h. absurd (cc);
    }) (length lines + 1) [] 1 lines refl).1 in
    of-ended (λ items. warnings_in items ≡ []) false r.items r.stop none (λ at on. absurd (cc))

-- without warnings they are all items
pub accepted-all : (items : List (Item Epoch)) → warnings_in items ≡ [] → as_items (units_in items) ≡ items
accepted-all [] h = refl
accepted-all (Accepted unit ∷ before) h = cc (accepted-all before h)
accepted-all (Warned at ∷ before) h = absurd (cc)

pub units-printed : (items : List (Item Epoch)) → printed_items (as_items (units_in items))
    ≡ printed_items items
units-printed [] = refl
units-printed (item ∷ before) = grind (arith, units-printed before)

-- ---- printed lines are read as they were written

pub epoch-within : (n : ℕ) → 16 * TYPES_LIMIT + 3 ≤ n → (types : List Count) (epoch : Epoch)
    → IsWholeEpoch types epoch → AllByRecursion (λ (line : List ℕ). length line ≤ n) (printed_epoch epoch)
epoch-within n most types epoch h =
    let fewer : length (without_end_blanks (epoch.head ++ clock_text epoch.clock))
    ≤ length (epoch.head ++ clock_text epoch.clock) = few_kept _ in (
      omega (
        arith,
        length-head (record { head = epoch.head; count = satellites_of epoch.head; clock = epoch.clock })
            h.sound.head_sound,
        fewer,
        most,
      ),
      rows-all (λ line. length line ≤ n) (λ row sound. omega (
        arith,
        length-row row sound,
        few_kept (row.name ++ printed_cells row.values row.flags),
        sound.counted.1,
        most,
      )) epoch.rows h.sound.rows_sound,
    )

-- if `P` holds of clean lines, and of each copied line, it holds of all
printed-lines : (P : List ℕ → Type 0) → ((line : List ℕ) → IsClean line → P line)
    → (items : List (Item Epoch))
    → AreInPlace items → OfCopiedLines P items → AllByRecursion P (printed_items items)
printed-lines P f = written-all P P (λ before. printed_unit) printed-unit
  where
    printed-unit : (before : List (Item Epoch)) (unit : FileUnit Epoch) → AreInPlace (Accepted unit ∷ before)
        → OfCopiedLine P unit → AllByRecursion P (printed_unit unit)
    printed-unit before (Observation epoch) h k =
        let types = types_in_force before in
        let whole = (h.0).2 in
        all-from IsClean P f (printed_epoch epoch) (epoch-clean (printed_epoch epoch)
        (epoch-printable types epoch whole) (epoch-within (18 * TYPES_LIMIT) (omega arith) types epoch whole))
    printed-unit before other h k = (k, tt)

pub printed-clean : (items : List (Item Epoch)) → AreInPlace items
    → OfCopiedLines CanStand items → HaveNoReturns items → AllByRecursion IsClean (printed_items items)
printed-clean items h k e = printed-lines IsClean (λ line c. c) items h (copied-clean items k e)

pub printed-stand : (items : List (Item Epoch)) → AreInPlace items
    → OfCopiedLines CanStand items → AllByRecursion CanStand (printed_items items)
printed-stand = printed-lines CanStand (λ line c. (c.one_line, c.short))

pub printed-again : (items : List (Item Epoch)) → IsSettled items → HaveNoReturns items → whole_of (lines_text
    (printed_items items)) ≡ record { items = as_items (units_in items); fault = None }
printed-again items h none =
    let like = units-like items h.in_place in
    ap (whole_rinex false) (simp append-nil at (front-cut (printed_items items) []
    (printed-clean items h.in_place h.copied none))
    ∙ ap (map Content) (sym (units-printed items)))
    ∙ ap (ended_reading false) (printed-read false (units_in items) (units-placed items h.in_place))
    ∙ rw (closes-well (as_items (units_in items)) (sym like.header ∙ h.header) (sym like.left ∙ h.none)) refl

-- ---- the accepted units, printed, are a standard file

pub settled-standard : (items : List (Item Epoch))
    → IsSettled items → HaveNoReturns items → IsStandard (lines_text (printed_items items))
settled-standard items settled none =
    let again = printed-again items settled none in
    let cut = lines-plain (printed_items items) (printed-clean items settled.in_place settled.copied none) in
    record {
      good = cc (again);
      plain = cc (cut, all-plain (printed_items items));
      given_back = cc (cut, contents-plain (printed_items items), units-printed items, again);
    }

-- ---- the normal form

pub read-as_normal : (input : List ℕ) → HasNormalForm input → whole_of (normal_form input) ≡ whole_of input
read-as_normal input h = grind (arith, printed-again, whole-settled, accepted-all, whole-none)

pub standard-as_normal : (input : List ℕ) → HasNormalForm input → IsStandard (normal_form input)
standard-as_normal input h = search (settled-standard, whole-settled)

pub normal-for_good : (input : List ℕ)
    → HasNormalForm input → normal_form (normal_form input) ≡ normal_form input
normal-for_good input h = cc (read-as_normal input h)
