-- A compacted file is restored.
use Rattle.crx_filter.proofs
use proofs.Vocabulary.{common_steps, ℕ, ◌≡◌, ◌+◌, ◌*◌, ◌≤◌, Bool, true, false, List, [], ◌∷◌, map, length}
use proofs.Vocabulary.{Option, Some, None, refl, arith, AllByRecursion, list_all, lines_of}
use proofs.Vocabulary.{ReadLine, as_read, is_printable, Fault, TYPES_LIMIT, Epoch}
use proofs.Vocabulary.{FileUnit, HeaderLine, Observation, compact_epoch, Choices}
use proofs.Vocabulary.{Item, Accepted, Warned, is_at_start, header_has_ended, records_left, types_in_force}
use proofs.Vocabulary.{WholeReading, Stop, AtFault, AtLines, Looking, is_skipped, fault_at_end}
use proofs.Vocabulary.{ended_with, ended_reading, written_lines, rinex_place}
use proofs.Vocabulary.{marked_epochs, whole_rinex, version_line, program_line, compact_lines}
use proofs.Vocabulary.{whole_reading, reading_from, IsReadForward}
use proofs.Vocabulary.{AreInPlace}
use proofs.Vocabulary.{OfCopiedLine, OfCopiedLines, HaveNoReturns, Place, by_bool}
use Rattle.crx_compact.proofs.wayback.LinesInFiles.{lines-short}
use proofs.{following.LinesAtStops.IsStopped, reading.{ListsOfUnits.{all-append, all-from}, Forward.rinex-forward}}
use proofs.reading.{InPlace.items-in_place, Stopping.reading-stopped}
use proofs.{reading.AcceptedUnits.{allowed, whole-read}, wayback.UnitsReadAgain.started}
use proofs.wayback.LinesCutAgain.{IsClean, CanStand, input-stands}
use proofs.wayback.FirstTwoLines.{printable-no_feed, printable-no_return}
use proofs.wayback.Items.{marked_now, body_unit, whole-next, epoch-stands}
use proofs.wayback.Reading.{lines_back, whole-copied}

-- ---- the end of the compaction

-- the accepted units, if no fault ends the compaction
pub record IsSettled (items : List (Item Epoch)) : Type 0 where
  pub in_place : AreInPlace items
  pub copied : OfCopiedLines CanStand items
  pub header : header_has_ended items ≡ true
  pub none : records_left items ≡ 0

abbrev pub IsClosed : {E : Type 0} → List (Item E) → Type 0
IsClosed items = (header_has_ended items ≡ true) × (records_left items ≡ 0)

-- if the end of the input is no fault, it follows whole units
closes : {E : Type 0} (place : List (Item E) → List ReadLine → Place (FileUnit E)) (skip : Bool)
    (items : List (Item E)) (stop : Stop) (next : ℕ) → IsStopped place items stop next
    → WholeReading.fault (ended_reading skip (record { items = items; stop = stop })) ≡ None
    → IsClosed (WholeReading.items (ended_reading skip (record { items = items; stop = stop })))
closes place skip items (AtFault at) next s f = absurd (cc)
closes place skip items (Looking number) next s f = (s.1, s.2)
closes place skip items (AtLines number rest) next s f = at_end (fault_at_end items rest) refl f
  where
    at_end : (o : Option Fault) → fault_at_end items rest ≡ o
        → WholeReading.fault (ended_with skip items (number + length rest) o) ≡ None
        → IsClosed (WholeReading.items (ended_with skip items (number + length rest) o))
    at_end None e f = grind (arith, common_steps)
    at_end (Some fault) e f = by_bool (is_skipped skip items fault)
        (λ on. rw on ((allowed skip items fault on).0, refl)) (λ off. absurd (cc (rw off at f)))

pub whole-closes : {E : Type 0} (place : List (Item E) → List ReadLine → Place (FileUnit E))
    → IsReadForward place
    → (skip : Bool) (number : ℕ) (lines : List ReadLine)
    → (whole_reading place skip number lines).fault ≡ None
    → IsClosed (whole_reading place skip number lines).items
whole-closes place forward skip number lines f =
    let r = reading_from place skip [] number lines in
    closes place skip r.items r.stop (number + length lines)
    (reading-stopped place forward skip [] number (number + length lines) lines refl) f

pub whole-settled : (skip : Bool) (input : List ℕ)
    → (whole_rinex skip (map as_read (lines_of input))).fault ≡ None
    → IsSettled (whole_rinex skip (map as_read (lines_of input))).items
whole-settled skip input f =
    let lines = map as_read (lines_of input) in
    let closed = whole-closes rinex_place rinex-forward skip 1 lines f in
    record {
      in_place = items-in_place _ (whole-read rinex_place skip 1 lines);
      copied = whole-copied CanStand skip lines f (input-stands input);
      header = closed.0;
      none = closed.1;
    }

-- ---- the lines written

pub lines-same : (choices : Choices) (items : List (Item Epoch)) → AreInPlace items
    → is_at_start items ≡ false
    → compact_lines choices items ≡ version_line ∷ program_line choices.date ∷ lines_back choices.every items
lines-same choices [] h e = absurd (cc)
lines-same choices (Accepted (HeaderLine line) ∷ []) h e = refl
lines-same choices (Accepted (HeaderLine line) ∷ item ∷ before) h e = cc (lines-same choices (item ∷ before)
    h.1 refl)
lines-same choices (Accepted unit ∷ before) h e = cc (lines-same choices before h.1 (started before (h.0).0))
lines-same choices (Warned at ∷ before) h e = lines-same choices before h.1 (started before (h.0).0)

-- ---- each of them is read as it was written

-- if `P` holds of each unit's lines, given `Q` of its copied line, it holds of all lines
pub written-all : (P Q : List ℕ → Type 0) (lines_of_unit : List (Item Epoch) → FileUnit Epoch → List (List ℕ))
    → ((before : List (Item Epoch)) (unit : FileUnit Epoch) → AreInPlace (Accepted unit ∷ before)
    → OfCopiedLine Q unit → AllByRecursion P (lines_of_unit before unit)) → (items : List (Item Epoch))
    → AreInPlace items → OfCopiedLines Q items → AllByRecursion P (written_lines lines_of_unit items)
written-all P Q lines each [] h k = tt
written-all P Q lines each (Accepted unit ∷ before) h k =
    all-append P (written_lines lines before) (lines before unit)
    (written-all P Q lines each before h.1 k.1) (each before unit h k.0)
written-all P Q lines each (Warned at ∷ before) h k = written-all P Q lines each before h.1 k

pub copied-clean : (items : List (Item Epoch)) → OfCopiedLines CanStand items → HaveNoReturns items
    → OfCopiedLines IsClean items
copied-clean [] k e = tt
copied-clean (Accepted unit ∷ before) k e = grind (arith, common_steps, copied-clean before k.1 e.1)
copied-clean (Warned at ∷ before) k e = copied-clean before k e

pub epoch-clean : (lines : List (List ℕ)) → AllByRecursion (λ (line : List ℕ). list_all is_printable line
    ≡ true) lines
    → AllByRecursion (λ (line : List ℕ). length line ≤ 18 * TYPES_LIMIT) lines → AllByRecursion IsClean lines
epoch-clean [] h k = tt
epoch-clean (line ∷ lines) h k =
    grind (arith, epoch-clean lines h.1 k.1, printable-no_feed, printable-no_return)

-- if `P` holds of clean lines, and of each copied line, it holds of all
pub lines-hold : (P : List ℕ → Type 0) → ((line : List ℕ) → IsClean line → P line) → (every : Option ℕ)
    (items : List (Item Epoch)) → AreInPlace items → OfCopiedLines P items
    → AllByRecursion P (lines_back every items)
lines-hold P f every = written-all P P (body_unit every) unit-lines
  where
    unit-lines : (before : List (Item Epoch)) (unit : FileUnit Epoch) → AreInPlace (Accepted unit ∷ before)
        → OfCopiedLine P unit → AllByRecursion P (body_unit every before unit)
    unit-lines before (Observation epoch) h k =
        let m = marked_now every before epoch in
        let older = marked_epochs every before in
        all-from IsClean P f (compact_epoch (m ∷ older)) (epoch-clean (compact_epoch (m ∷ older))
        (epoch-stands every before epoch h).printable
        (lines-short (types_in_force before) m.in_full m.epoch older (whole-next every before epoch h)))
    unit-lines before other h k = (k, tt)

pub lines-clean : (every : Option ℕ) (items : List (Item Epoch)) → AreInPlace items
    → OfCopiedLines CanStand items → HaveNoReturns items → AllByRecursion IsClean (lines_back every items)
lines-clean every items h k e = lines-hold IsClean (λ line c. c) every items h (copied-clean items k e)
