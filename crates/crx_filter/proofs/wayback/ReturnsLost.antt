-- A file is restored byte for byte only if no copied line ends in CR; otherwise it has fewer bytes 13 then. So it is
-- standard.
use Rattle.crx_filter.proofs
use proofs.Vocabulary.{ℕ, ◌≡◌, ◌+◌, ◌<◌, ◌≤◌, Bool, true, List, [], ◌∷◌, map, drop, refl}
use proofs.Vocabulary.{arith, ◌⊎◌, inl}
use proofs.Vocabulary.{lines_of, ReadLine, as_read, Epoch, printed_epoch, lines_text}
use proofs.Vocabulary.{Observation, ReadEpoch, LinesCanStand, IsGood}
use proofs.Vocabulary.{Choices, is_date, Item, Accepted, Warned, types_in_force, WholeReading}
use proofs.Vocabulary.{compact_lines, version_line, program_line, compact_place}
use proofs.Vocabulary.{first_lines, whole_compact, expanded_lines, AreInPlace}
use proofs.Vocabulary.{HaveNoReturns, compact_unit, false, reading_from, whole_of, ap, rinex_place}
use proofs.reading.{ListsOfUnits.{all-from}, ForwardCompact.compact-forward, Resuming.by_place}
use proofs.reading.AcceptedUnits.{compact-whole_read, of-ended}
use proofs.{anywriter.RestoredFiles.standard-where_kept, wayback.{RestoredIsStandard.epoch-printable, Items.epoch-stands}}
use proofs.wayback.{Standard.same-reading, ExpandedWhole.{AreGoodEpochs, epochs-good}}
use proofs.wayback.{WayBack.{IsSettled, whole-settled, lines-same, lines-hold}, LinesCutAgain.{CanStand}}
use proofs.wayback.Returns.{returns, returns-kept, returns-fewer, returns_in, read-append, total-append}
use proofs.wayback.Returns.{in-printable, returns_read, returns_left, left-kept, read-written, in-text}
use proofs.wayback.{UnitsReadAgain.started, Returns.{read-input, read-cut}, Reading.{copied, own-counted}}
use proofs.accounts.{LineFates.told, OwnedLines.file-told, CopiedUnits.{rinex-copies, compact-copies}}
use proofs.wayback.FirstTwoLines.{program-printable, program-clean, version-clean}
use Rattle.{crx_filter.specs.WayBack.IsStandardWhereSame}
use Rattle.{crx_header.specs.meaning.CompactHeader.lines_before_header}

-- ---- the output of an expansion

written-returns : (items : List (Item ReadEpoch))
    → AreGoodEpochs items → returns_in (expanded_lines items) ≡ returns_in (copied items)
written-returns [] h = refl
written-returns (Accepted (Observation read) ∷ before) h =
    let first = in-printable
    (printed_epoch read.epoch) (epoch-printable (types_in_force before) read.epoch (IsGood.whole h.0)) in
    let second = total-append returns (expanded_lines before) (printed_epoch read.epoch) in
    omega (arith, written-returns before h.1)
written-returns (Accepted unit ∷ before) h = grind (arith, written-returns before h, total-append)
written-returns (Warned at ∷ before) h = written-returns before h

-- ---- compact text

-- no copied line ends in CR, or some are lost
abbrev KeepsOrLoses : List (Item Epoch) → Type 0
KeepsOrLoses items = HaveNoReturns items ⊎ (returns_left (copied items) < returns_in (copied items))

keeps-or_loses : (items : List (Item Epoch)) → KeepsOrLoses items
keeps-or_loses [] = inl tt
keeps-or_loses (Accepted unit ∷ before) = grind
    (arith, returns-fewer, left-kept, returns-kept, keeps-or_loses before)
keeps-or_loses (Warned at ∷ before) = keeps-or_loses before

-- the lines of compact text have no more of them at their ends than the copied lines
first-none : (date : List ℕ) → is_date date ≡ true → (b : Bool)
    → returns_left (lines_before_header date b) ≡ 0
first-none date dated true = omega (
  arith,
  left-kept (version_line ∷ program_line date ∷ []),
  in-printable (version_line ∷ program_line date ∷ []) (refl, (program-printable date dated, tt)),
)
first-none date dated false = refl

lines-left : (choices : Choices) → is_date choices.date ≡ true → (items : List (Item Epoch))
    → AreInPlace items
    → returns_left (compact_lines choices items) ≤ returns_left (copied items)
lines-left choices dated [] h = omega arith
lines-left choices dated (Accepted (Observation epoch) ∷ before) h =
    let lines = compact_unit choices before (Observation epoch) in
    let none = in-printable lines (LinesCanStand.printable (epoch-stands choices.every before epoch h)) in
    grind (arith, lines-left choices dated before h.1, total-append, left-kept lines, none)
lines-left choices dated (Accepted unit ∷ before) h =
    grind (arith, lines-left choices dated before h.1, total-append, first-none)
lines-left choices dated (Warned at ∷ before) h = lines-left choices dated before h.1

-- compact text is read with no more of them than are left
compacted-returns : (choices : Choices) (items : List (Item Epoch)) → is_date choices.date ≡ true → IsSettled
    items → returns_read (map as_read (lines_of (lines_text (compact_lines choices items)))) ≤ returns_left
    (copied items)
compacted-returns choices items dated h =
    let stand = lines-hold CanStand (λ line c. (c.one_line, c.short)) choices.every items h.in_place h.copied
    in
    grind (arith, lines-same, started, version-clean, program-clean, all-from, read-written, lines-left)

-- ---- a restored file

compact-within : (skip : Bool) (lines : List ReadLine)
    → returns_in (copied (WholeReading.items (whole_compact skip lines))) ≤ returns_read lines
compact-within skip lines = by_place (first_lines lines) (λ two count e. rw (e, whole_compact) (
    let r = reading_from compact_place skip [] (count + 1) (drop count lines) in
    let (number, left, far, stops) = told compact_place compact-forward skip (count + 1) (drop count lines) in
    let few : returns_in (copied r.items) ≤ returns_read lines = omega (
      arith,
      own-counted compact_place compact-copies (count + 1) r.items far.front far.kept far.own,
      ap returns_read far.all_is,
      read-append far.front left,
      read-cut count lines,
    ) in
    of-ended (λ items. returns_in (copied items) ≤ returns_read lines) skip r.items r.stop few
    (λ at on. few)))
    (λ offset fault e. rw (e, whole_compact) (omega arith)) (λ e. rw (e, whole_compact) (omega arith))

pub standard-where_same : (input : List ℕ) (compacting expanding : Choices)
    → IsStandardWhereSame input compacting expanding
standard-where_same input compacting expanding dated good same =
    let lines = map as_read (lines_of input) in
    let (kept, own) = file-told false lines good in
    let within = own-counted rinex_place rinex-copies 1 (whole_of input).items lines kept own in
    grind (
      arith,
      same-reading,
      keeps-or_loses,
      standard-where_kept,
      written-returns,
      epochs-good,
      compact-whole_read,
      in-text,
      compact-within,
      compacted-returns,
      whole-settled,
      read-input,
    )
