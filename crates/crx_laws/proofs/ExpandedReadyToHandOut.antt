-- The lines of each unit that an expansion accepts can be borrowed.
use Rattle.crx_filter.proofs.Vocabulary.{ℕ, ◌≡◌, ◌+◌, ◌*◌, List, [], ◌∷◌, map, length, arith, length-map, ReadLine}
use Rattle.crx_filter.proofs.Vocabulary.{NAME_WIDTH, TYPES_LIMIT, Epoch, IsWholeEpoch, Count, printed_row}
use Rattle.crx_filter.proofs.Vocabulary.{printed_epoch, HeaderLine, EventLine, EventRecord, Observation, ReadEpoch}
use Rattle.crx_filter.proofs.Vocabulary.{IsGood, Choices, Item, Accepted, Warned, types_in_force, expanded_unit}
use Rattle.crx_filter.proofs.Vocabulary.{compact_reading, OfCopiedLines}
use Rattle.crx_base.specs.declared.limits.TheConstants.{CELL_WIDTH}
use Rattle.crx_laws.specs.Bounds.{AreReadyToHandOut, OfUnits, longest_printed, ExpandedIsReadyToHandOut}
use Rattle.crx_filter.proofs.reading.AcceptedUnits.{compact-items-read}
use Rattle.crx_filter.proofs.wayback.ExpandedWhole.{AreGoodEpochs, epochs-good}
use Rattle.crx_laws.proofs.output.ReadyToHandOut.{IsShort, contents-short, one-ready_to_hand_out}
use Rattle.crx_filter.proofs.Vocabulary.{AllByRecursion, drop, reading_from, first_lines, compact_place, Bool}
use Rattle.crx_filter.proofs.wayback.{LinesCutAgain.OfContent, ExpandedStandard.copied-read}
use Rattle.crx_filter.proofs.wayback.Reading.{of-copied, of-own}
use Rattle.crx_filter.proofs.accounts.{CopiedUnits.compact-copies, LineFates.told}
use Rattle.crx_filter.proofs.reading.{ListsOfUnits.{all-parts, all-drop}, ForwardCompact.compact-forward}
use Rattle.crx_filter.proofs.reading.Resuming.{by_place}
use Rattle.crx_filter.specs.meaning.WrittenStandard.{rinex_items}
use Rattle.crx_filter.proofs.wayback.NormalForm.{epoch-within}

-- ---- an epoch's lines

abbrev longest : ℕ
longest = NAME_WIDTH + CELL_WIDTH * TYPES_LIMIT

pub epoch-ready_to_hand_out : (types : List Count) (epoch : Epoch)
    → IsWholeEpoch types epoch → AreReadyToHandOut longest (printed_epoch epoch)
epoch-ready_to_hand_out types epoch h =
    let kept : length (map printed_row epoch.rows) ≡ length epoch.rows = length-map epoch.rows printed_row in
    let full = h.full in
    let within = h.sound.head_sound.within in
    record {
      few = omega (arith, kept, full, within);
      short = epoch-within longest (omega arith) types epoch h;
    }

units-ready_to_hand_out : (items : List (Item ReadEpoch)) → OfCopiedLines IsShort (rinex_items items)
    → AreGoodEpochs items
    → OfUnits (λ before unit. AreReadyToHandOut (longest_printed unit) (expanded_unit before unit)) items
units-ready_to_hand_out [] h k = tt
units-ready_to_hand_out (Accepted (HeaderLine line) ∷ before) h k =
    (one-ready_to_hand_out line h.0, units-ready_to_hand_out before h.1 k)
units-ready_to_hand_out (Accepted (EventLine line) ∷ before) h k =
    (one-ready_to_hand_out line h.0, units-ready_to_hand_out before h.1 k)
units-ready_to_hand_out (Accepted (EventRecord line) ∷ before) h k =
    (one-ready_to_hand_out line h.0, units-ready_to_hand_out before h.1 k)
units-ready_to_hand_out (Accepted (Observation read) ∷ before) h k = (
  epoch-ready_to_hand_out (types_in_force before) read.epoch (IsGood.whole k.0),
  units-ready_to_hand_out before h.1 k.1,
)
units-ready_to_hand_out (Warned at ∷ before) h k = units-ready_to_hand_out before h k

compact-copied : (skip : Bool) (lines : List ReadLine) → AllByRecursion (OfContent IsShort) lines
    → OfCopiedLines IsShort (rinex_items (compact_reading skip lines).items)
compact-copied skip lines all = by_place (first_lines lines) (λ two count e. rw (e, compact_reading) (
    let left = drop count lines in
    let items = (reading_from compact_place skip [] (count + 1) left).items in
    let (number, rest, far, stops) = told compact_place compact-forward skip (count + 1) left in
    let short = (all-parts (OfContent IsShort) far.front rest (rw far.all_is at (all-drop
    (OfContent IsShort) count lines all))).0 in
    of-copied IsShort (rinex_items items) (rw copied-read
    (of-own compact_place compact-copies IsShort (count + 1) items far.front far.kept far.own short))))
    (λ offset fault e. rw (e, compact_reading) tt) (λ e. rw (e, compact_reading) tt)

pub expanded-ready_to_hand_out : (choices : Choices) (lines : List ReadLine)
    → ExpandedIsReadyToHandOut choices lines
expanded-ready_to_hand_out choices lines short =
    units-ready_to_hand_out (compact_reading choices.skip lines).items
    (compact-copied choices.skip lines (contents-short lines short))
    (epochs-good (compact_reading choices.skip lines).items (compact-items-read choices.skip lines))
