-- The state between two lines is bounded.
use Rattle.std.proofs.lemmas.Grind.{common_steps}
use Rattle.crx_filter.proofs.Vocabulary.{ℕ, zero, suc, ◌≡◌, Bool, List, [], ◌∷◌, Option, Some, None, ap, sym, ◌∙◌}
use Rattle.crx_filter.proofs.Vocabulary.{subst, arith, All, AllByRecursion, All-head, All-tail, ReadLine, Row}
use Rattle.crx_filter.proofs.Vocabulary.{Epoch, Count, Done, IsSoundRow, HeaderLine, EventLine, EventRecord}
use Rattle.crx_filter.proofs.Vocabulary.{Observation, OpenEpoch, ReadEpoch, epoch_at, RawEpoch, Tail, OpenRawEpoch}
use Rattle.crx_filter.proofs.Vocabulary.{first_step, open_raw_with, Choices, Item, Accepted, Warned}
use Rattle.crx_filter.proofs.Vocabulary.{records_count_types, types_in_force}
use Rattle.crx_filter.proofs.Vocabulary.{Reading, Stop, AtLines, Phase, InEpoch, Ended, kept_in, phase_in_body}
use Rattle.crx_filter.proofs.Vocabulary.{phase_after_items, phase_of, marked_epochs, rinex_place, rinex_reading}
use Rattle.crx_filter.proofs.Vocabulary.{Written, compaction, written_of, rinex_open, compaction_state}
use Rattle.crx_filter.proofs.Vocabulary.{compact_place, empties_state, raws_kept, first_lines, compact_reading}
use Rattle.crx_filter.proofs.Vocabulary.{expansion, tail_of_items, compact_open, expansion_state}
use Rattle.crx_filter.proofs.Vocabulary.{ItemsAreRead, AreInPlace}
use Rattle.std.proofs.Common.{IfSome}
use Rattle.crx_base.specs.declared.limits.TheConstants.{ORDER_LIMIT, WRITTEN_ORDER}
use Rattle.crx_header.specs.ObservationTypes.{AreCounts}
use Rattle.crx_header.proofs.Counts.{systems_few}
use Rattle.crx_laws.proofs.OpenSound.{IsOpenSoundly, open-sound}
use Rattle.crx_compact.specs.Tails.{IsBoundedTail, tail_left}
use Rattle.crx_compact.specs.OpenEpochs.{IsBoundedOpen, epoch_after, held_after, placed_as, place_by_steps}
use Rattle.crx_laws.proofs.soundness.BoundedTails.{written-bounded}
use Rattle.crx_laws.proofs.soundness.BoundedReading.{read-bounded, open-bounded, place-bounded, OfHeld}
use Rattle.crx_compact.proofs.reading.LineByLine.{steps-agree}
use Rattle.crx_compact.proofs.reading.RawTailing.{place-by_tail, left-by_tail}
use Rattle.crx_compact.proofs.soundness.Soundness.{reads-soundly}
use Rattle.crx_compact.proofs.Characters.{length-is}
use Rattle.crx_filter.specs.ExpansionByLine.{phase_from_first_lines}
use Rattle.crx_laws.specs.Bounds.{IsBoundedRow, IsBoundedEpoch, OfOpen, IsBoundedCompaction}
use Rattle.crx_laws.specs.Bounds.{IsBoundedExpansion}
use Rattle.crx_filter.proofs.CasesOfTests.{by_bool}
use Rattle.crx_filter.proofs.wayback.ExpandedWhole.{compact-stands}
use Rattle.crx_filter.proofs.reading.Types.{counts-in_force}
use Rattle.crx_filter.proofs.wayback.Items.{marked_now, whole-next}
use Rattle.crx_filter.proofs.reading.AcceptedUnits.{items-read, compact-items-read}
use Rattle.crx_filter.proofs.reading.InPlace.{items-in_place}
use Rattle.crx_filter.proofs.reading.Resuming.{by_place}

-- ---- the epoch that is open

in-body : {O : Type 0} (P : O → Type 0) (left : ℕ) (counted : Bool) (so_far : Option O)
    → IfSome so_far P → OfOpen P (phase_in_body left counted so_far)
in-body P zero counted None h = tt
in-body P zero counted (Some so_far) h = h
in-body P (suc left) counted so_far h = tt

after-items : {E O : Type 0} (P : O → Type 0) (items : List (Item E)) (so_far : Option O)
    → IfSome so_far P → OfOpen P (phase_after_items items so_far)
after-items P items so_far h = grind (arith, common_steps, in-body)

open-phase : {E O : Type 0} (P : O → Type 0) (open_raw_with : List (Item E) → List ReadLine
    → Option O) (items : List (Item E)) (stop : Stop) → ((lines : List ReadLine)
    → IfSome (open_raw_with items lines) P)
    → OfOpen P (phase_of open_raw_with (record { items = items; stop = stop }))
open-phase P open_raw_with items (AtLines number lines) h =
    after-items P items (open_raw_with items lines) (h lines)
open-phase P open_raw_with items stop h = tt

-- ---- a compaction

rows-bounded : (rows : List Row) → All IsSoundRow rows → AllByRecursion IsBoundedRow rows
rows-bounded [] h = tt
rows-bounded (row ∷ rows) h =
    let sound : IsSoundRow row = All-head IsSoundRow row rows h in
    let few = sound.counted.1 in
    let pairs = sound.paired in (
      record { name = length-is row.name sound.named; values = few; flags = omega (arith, few, pairs) },
      rows-bounded rows (All-tail IsSoundRow row rows h),
    )

open-epoch : (so_far : Option OpenEpoch) → IfSome so_far IsOpenSoundly → IfSome so_far IsBoundedEpoch
open-epoch None h = tt
open-epoch (Some so_far) h =
    let wants = h.wants in
    let within = h.sound.head.within in
    record {
      systems = systems_few so_far.types h.counts;
      counts = h.counts;
      head = h.sound.head.width;
      few = omega (arith, wants, within);
      rows = rows-bounded so_far.rows h.sound.rows;
    }

-- the state after some items
kept-bounded : (choices : Choices) (items : List (Item Epoch))
    → AreInPlace items → IfSome (written_of choices.every items).tail (IsBoundedTail WRITTEN_ORDER)
kept-bounded choices (Accepted (Observation epoch) ∷ before) h =
    written-bounded (types_in_force before) (marked_now choices.every before epoch)
    (marked_epochs choices.every before) (whole-next choices.every before epoch h)
kept-bounded choices items h = tt

written-in : (phase : Phase OpenEpoch) (kept : Written) → IfSome kept.tail (IsBoundedTail WRITTEN_ORDER)
    → IfSome (kept_in compaction phase kept).tail (IsBoundedTail WRITTEN_ORDER)
written-in (Ended at) kept h = tt
written-in phase kept h = h

pub compaction-bounded : (choices : Choices) (lines : List ReadLine)
    → IsBoundedCompaction (compaction_state choices lines)
compaction-bounded choices lines =
    let r : Reading Epoch = rinex_reading choices.skip lines in
    let counts : AreCounts (types_in_force r.items) = counts-in_force r.items in
    record {
      systems = systems_few (types_in_force r.items) counts;
      counts = counts;
      tail = written-in (phase_of rinex_open r) (written_of choices.every r.items)
          (kept-bounded choices r.items (items-in_place r.items
          (items-read rinex_place choices.skip 1 lines)));
      open_epoch = open-phase IsBoundedEpoch rinex_open r.items r.stop
          (λ ls. open-epoch (rinex_open r.items ls) (open-sound (types_in_force r.items) ls counts));
    }

-- ---- an expansion

by-steps : (types : List Count) (tail : Option Tail) (lines : List ReadLine)
    → AreCounts types → IfSome tail (IsBoundedTail ORDER_LIMIT) → OfHeld (place_by_steps types tail lines)
by-steps types tail [] counts h = tt
by-steps types tail (line ∷ lines) counts h =
    place-bounded lines 0 (first_step types tail line) (read-bounded.first types tail line counts h)

-- the state after the epochs that were read
left-bounded : (items : List (Item ReadEpoch))
    → ItemsAreRead compact_place items → IfSome (tail_left (raws_kept items)) (IsBoundedTail ORDER_LIMIT)
left-bounded [] h = tt
left-bounded (Accepted (HeaderLine line) ∷ before) h = tt
left-bounded (Accepted (EventLine line) ∷ before) h = left-bounded before h.1
left-bounded (Accepted (EventRecord line) ∷ before) h =
    by_bool (empties_state (records_count_types before) line)
    (λ on. rw on tt)
    (λ off. rw off (left-bounded before h.1))
left-bounded (Accepted (Observation read) ∷ before) h =
    let types : List Count = types_in_force before in
    let raws : List RawEpoch = raws_kept before in
    let lines : List ReadLine = (h.0).0 in
    let count : ℕ = (h.0).1 in
    let here : epoch_at types raws lines ≡ Done read count =
    (compact-stands before lines (Observation read) count (h.0).2).2 in
    let after : epoch_after types (tail_left raws) lines ≡ Done read count =
    sym (place-by_tail types raws lines) ∙ here in
    let placed : place_by_steps types (tail_left raws) lines ≡ Done (held_after (tail_left raws) read) count =
    sym (steps-agree types (tail_left raws) lines) ∙ ap (placed_as (held_after (tail_left raws))) after in
    let bounded : IsBoundedTail ORDER_LIMIT (held_after (tail_left raws) read).tail = subst OfHeld placed
    (by-steps types (tail_left raws) lines (counts-in_force before) (left-bounded before h.1)) in
    subst (λ o. IfSome o (IsBoundedTail ORDER_LIMIT))
    (sym (left-by_tail read.raw raws (reads-soundly types raws lines read count here).single)) bounded
left-bounded (Warned at ∷ before) h = tt

open-with : (types : List Count) (tail : Option Tail) (lines : List ReadLine)
    → AreCounts types → IfSome tail (IsBoundedTail ORDER_LIMIT)
    → IfSome (open_raw_with types tail lines) IsBoundedOpen
open-with types tail [] counts h = tt
open-with types tail (line ∷ lines) counts h =
    open-bounded lines (first_step types tail line) (read-bounded.first types tail line counts h)

compact-open : (items : List (Item ReadEpoch)) (lines : List ReadLine)
    → IfSome (tail_of_items items) (IsBoundedTail ORDER_LIMIT)
    → IfSome (compact_open items lines) IsBoundedOpen
compact-open items lines h = grind (arith, common_steps, open-with, counts-in_force)

left-in : (phase : Phase OpenRawEpoch) (kept : Option Tail)
    → IfSome kept (IsBoundedTail ORDER_LIMIT) → IfSome (kept_in expansion phase kept)
    (IsBoundedTail ORDER_LIMIT)
left-in (InEpoch so_far) kept h = tt
left-in (Ended at) kept h = tt
left-in phase kept h = h

first-phase : (lines : List ReadLine) (phase : Phase OpenRawEpoch)
    → OfOpen IsBoundedOpen phase → OfOpen IsBoundedOpen (phase_from_first_lines lines phase)
first-phase lines phase h = by_place (first_lines lines)
    (λ two count e. rw (e, phase_from_first_lines) h)
    (λ offset fault e. rw (e, phase_from_first_lines) h)
    (λ e. rw (e, phase_from_first_lines) tt)

pub expansion-bounded : (choices : Choices) (lines : List ReadLine)
    → IsBoundedExpansion (expansion_state choices lines)
expansion-bounded choices lines =
    let r : Reading ReadEpoch = compact_reading choices.skip lines in
    let counts : AreCounts (types_in_force r.items) = counts-in_force r.items in
    let left : IfSome (tail_of_items r.items) (IsBoundedTail ORDER_LIMIT) =
    left-bounded r.items (compact-items-read choices.skip lines) in
    record {
      systems = systems_few (types_in_force r.items) counts;
      counts = counts;
      tail = left-in (phase_of compact_open r) (tail_of_items r.items) left;
      open_epoch = first-phase lines (phase_of compact_open r)
          (open-phase IsBoundedOpen compact_open r.items r.stop (λ ls. compact-open r.items ls left));
    }
