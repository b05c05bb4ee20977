-- The lines of each unit in compact text can be borrowed.
use Rattle.crx_filter.proofs.Vocabulary.{ℕ, ◌≡◌, ◌≤◌, Bool, true, false, List, [], ◌∷◌, ◌++◌, map, length, arith}
use Rattle.crx_filter.proofs.Vocabulary.{AllByRecursion, length-map, ReadLine, Content, Overlong, LINE_LIMIT, Row}
use Rattle.crx_filter.proofs.Vocabulary.{Epoch, FileUnit, HeaderLine, EventLine, EventRecord, Observation, Marked}
use Rattle.crx_filter.proofs.Vocabulary.{Choices, is_date, Item, Accepted, Warned, is_at_start, types_in_force}
use Rattle.crx_filter.proofs.Vocabulary.{marked_epochs, compact_unit, rinex_place, rinex_reading, AreInPlace}
use Rattle.crx_filter.proofs.Vocabulary.{OfCopiedLine, OfCopiedLines}
use Rattle.crx_compact.specs.meaning.Compaction.{run_of, satellite_line}
use Rattle.crx_compact.proofs.wayback.LinesInFiles.{lines-short}
use Rattle.crx_header.specs.meaning.CompactHeader.{lines_before_header}
use Rattle.crx_laws.specs.Bounds.{AreReadyToHandOut, OfUnits, longest_of, IsNotTooLong}
use Rattle.crx_laws.specs.Bounds.{CompactIsReadyToHandOut}
use Rattle.crx_filter.proofs.reading.InPlace.{items-in_place}
use Rattle.crx_filter.proofs.reading.AcceptedUnits.{items-read}
use Rattle.crx_filter.proofs.wayback.LinesCutAgain.{IsClean, OfContent}
use Rattle.crx_filter.proofs.wayback.FirstTwoLines.{program-clean, version-clean}
use Rattle.crx_filter.proofs.wayback.Items.{marked_now, whole-next}
use Rattle.crx_filter.proofs.wayback.Reading.{of-copied, of-own}
use Rattle.crx_filter.proofs.accounts.{CopiedUnits.rinex-copies, LineFates.told}
use Rattle.crx_filter.proofs.reading.{ListsOfUnits.all-parts, Forward.rinex-forward}

abbrev pub IsShort : List ℕ → Type 0
IsShort line = length line ≤ LINE_LIMIT

header-ready_to_hand_out : (date line : List ℕ) (is_first : Bool)
    → is_date date ≡ true → IsShort line → AreReadyToHandOut LINE_LIMIT
    (lines_before_header date is_first ++ line ∷ [])
header-ready_to_hand_out date line true dated h = record {
  few = omega arith;
  short = (IsClean.short version-clean, (IsClean.short (program-clean date dated), (h, tt)));
}
header-ready_to_hand_out date line false dated h = record { few = omega arith; short = (h, tt) }

pub one-ready_to_hand_out : (line : List ℕ) → IsShort line → AreReadyToHandOut LINE_LIMIT (line ∷ [])
one-ready_to_hand_out line h = record { few = omega arith; short = (h, tt) }

unit-ready_to_hand_out : (choices : Choices) (before : List (Item Epoch)) (unit : FileUnit Epoch)
    → is_date choices.date ≡ true → AreInPlace (Accepted unit ∷ before)
    → OfCopiedLine IsShort unit → AreReadyToHandOut (longest_of unit) (compact_unit choices before unit)
unit-ready_to_hand_out choices before (HeaderLine line) dated h k =
    header-ready_to_hand_out choices.date line (is_at_start before) dated k
unit-ready_to_hand_out choices before (EventLine line) dated h k = one-ready_to_hand_out line k
unit-ready_to_hand_out choices before (EventRecord line) dated h k = one-ready_to_hand_out line k
unit-ready_to_hand_out choices before (Observation epoch) dated h k =
    let m : Marked = marked_now choices.every before epoch in
    let older : List Marked = marked_epochs choices.every before in
    let kept : length (map (λ (r : Row). satellite_line (run_of r.name (m ∷ older)) r) epoch.rows)
    ≡ length epoch.rows = length-map epoch.rows (λ (r : Row). satellite_line (run_of r.name (m ∷ older)) r) in
    let full = (h.0).2.full in
    let within = (h.0).2.sound.head_sound.within in
    record {
      few = omega (arith, kept, full, within);
      short = lines-short (types_in_force before) m.in_full m.epoch older
          (whole-next choices.every before epoch h);
    }

units-ready_to_hand_out : (choices : Choices) (items : List (Item Epoch))
    → is_date choices.date ≡ true → AreInPlace items → OfCopiedLines IsShort items
    → OfUnits (λ before unit. AreReadyToHandOut (longest_of unit) (compact_unit choices before unit)) items
units-ready_to_hand_out choices [] dated h k = tt
units-ready_to_hand_out choices (Accepted unit ∷ before) dated h k = (
  unit-ready_to_hand_out choices before unit dated h k.0,
  units-ready_to_hand_out choices before dated h.1 k.1,
)
units-ready_to_hand_out choices (Warned at ∷ before) dated h k =
    units-ready_to_hand_out choices before dated h.1 k

pub contents-short : (lines : List ReadLine) → AllByRecursion IsNotTooLong lines
    → AllByRecursion (OfContent IsShort) lines
contents-short [] h = tt
contents-short (Content line ∷ lines) h = (h.0, contents-short lines h.1)
contents-short (Overlong ∷ lines) h = (tt, contents-short lines h.1)

pub compact-ready_to_hand_out : (choices : Choices) (lines : List ReadLine)
    → CompactIsReadyToHandOut choices lines
compact-ready_to_hand_out choices lines dated short =
    let items = (rinex_reading choices.skip lines).items in
    let (number, rest, far, stops) = told rinex_place rinex-forward choices.skip 1 lines in
    let all = (all-parts (OfContent IsShort) far.front rest
    (rw far.all_is at (contents-short lines short))).0 in
    units-ready_to_hand_out choices items dated
    (items-in_place items (items-read rinex_place choices.skip 1 lines))
    (of-copied IsShort items (of-own rinex_place rinex-copies IsShort 1 items far.front far.kept far.own all))
