-- Text that is compacted here is compact text that any writer may write.
use Rattle.crx_filter.proofs
use proofs.Vocabulary.{arith, common_steps, ℕ, ◌≡◌, true, false, Bool, List, [], ◌∷◌, ◌++◌, map}
use proofs.Vocabulary.{Option, Some, None}
use proofs.Vocabulary.{refl, ap, sym, ◌∙◌, subst}
use proofs.Vocabulary.{append-nil, append_assoc, if◌then◌else◌, lines_of, lines_text, as_read}
use proofs.Vocabulary.{Epoch, FileUnit, HeaderLine, EventLine}
use proofs.Vocabulary.{EventRecord, Observation, Count, Marked, Choices, is_date, Item, Accepted, Warned}
use proofs.Vocabulary.{is_at_start, Content, records_count_types, types_in_force, is_in_full, marked_epochs}
use proofs.Vocabulary.{compact_epoch}
use proofs.Vocabulary.{compact_lines}
use proofs.Vocabulary.{version_line, program_line, AreInPlace, BeginsAnew, HaveNoReturns, printed_items}
use proofs.damage.TextAfter.{lines_on, written-on, begins-rest}
use proofs.{damage.DamagedText.front-cut, stretches.StretchesCut.AreGood}
use proofs.{wayback.UnitsReadAgain.{started, units-like, units-placed}}
use proofs.wayback.FirstTwoLines.{program-clean, program-read, version-clean}
use proofs.wayback.Items.{marked_now, body_unit, not-interrupted, whole-next}
use proofs.{anywriter.AnyText.of-nothing, wayback.Reading.lines_back}
use proofs.wayback.Units.{settled, no-returns, units_in, units-again}
pub use proofs.wayback.NormalForm.{units-printed}
use proofs.wayback.WayBack.{IsSettled, lines-same, lines-clean}
use Rattle.crx_filter.specs.meaning.{Expanded.empties_state, UnitsAndText.{MakeAFile, as_items}}
use Rattle.crx_filter.specs.meaning.CompactText.{AreLinesOfUnit, AreLinesOf, IsCompactTextOf}
use Rattle.crx_filter.specs.meaning.{CompactText.{AreUnitsInPlace, AreWholeFile}, Stretches.AreLinesOn}
use Rattle.crx_filter.specs.CompactText.{OwnTextIsOne}
use Rattle.crx_compact.specs.{Laws.AreWhole, meaning.Compaction.since_full}
use Rattle.crx_compact.specs.meaning.AnyWriter.{WrittenEpoch, AreEpochLines}
use Rattle.crx_compact.proofs.wayback.Runs.{marked}
use Rattle.crx_compact.proofs.anywriter.OurWriter.{epoch_written, epoch-same, full-lines, later-lines}

-- ---- the units among some items

pub units-append : (later before : List (Item Epoch))
    → units_in (later ++ before) ≡ units_in later ++ units_in before
units-append [] before = refl
units-append (item ∷ later) before = grind (arith, units-append later before)

pub printed-append : (later before : List (Item Epoch))
    → printed_items (later ++ before) ≡ printed_items before ++ printed_items later
printed-append [] before = sym (append-nil (printed_items before))
printed-append (item ∷ later) before = grind (arith, common_steps, printed-append later before, append_assoc)

-- ---- the epoch that later lines may continue from
-- the epoch that the lines after a block may continue from; `start` is the one for the first of them

abbrev pub state_on : Option WrittenEpoch → Option ℕ → List (Item Epoch) → List (Item Epoch)
    → Option WrittenEpoch
state_on start every block [] = start
state_on start every block (Accepted (HeaderLine line) ∷ later) = None
state_on start every block (Accepted (EventLine line) ∷ later) = state_on start every block later
state_on start every block (Accepted (EventRecord line) ∷ later) =
    if empties_state (records_count_types (later ++ block)) line then None
    else state_on start every block later
state_on start every block (Accepted (Observation epoch) ∷ later) =
    Some (epoch_written (marked_now every (later ++ block) epoch) (marked_epochs every (later ++ block)))
state_on start every block (Warned at ∷ later) = state_on start every block later

-- the first epoch after a block is full
abbrev pub GoAnew : Choices → List (Item Epoch) → List (Item Epoch) → Type 0
GoAnew choices block items = is_in_full choices.every block ≡ false → BeginsAnew choices block items

module _ (start : Option WrittenEpoch) (choices : Choices) (block : List (Item Epoch)) where
  abbrev before_all : List (Item Epoch) → Option WrittenEpoch
  before_all items = state_on start choices.every block items

  abbrev epoch_of : Marked → List (Item Epoch) → WrittenEpoch
  epoch_of m items = epoch_written m (marked_epochs choices.every (items ++ block))

  abbrev IsWholeAfter : List Count → Marked → List (Item Epoch) → Type 0
  IsWholeAfter types m items = AreWhole types (since_full (m ∷ marked_epochs choices.every (items ++ block)))

  own-epoch : (types : List Count) (epoch : Epoch) (items : List (Item Epoch)) (full : Bool)
      → GoAnew choices block (Accepted (Observation epoch) ∷ items)
      → is_in_full choices.every (items ++ block) ≡ full
      → IsWholeAfter types (marked full epoch) items
      → AreEpochLines (before_all items) (epoch_of (marked full epoch) items)
      (compact_epoch (marked full epoch ∷ marked_epochs choices.every (items ++ block)))
  own-epoch types epoch items true anew e h =
      full-lines types epoch (marked_epochs choices.every (items ++ block)) (before_all items) h
  own-epoch types epoch [] false anew e h = absurd (cc (anew e, e))
  own-epoch types epoch (Accepted (Observation last) ∷ items) false anew e h = later-lines types epoch
      (marked_now choices.every (items ++ block) last) (marked_epochs choices.every (items ++ block)) h
  own-epoch types epoch (item ∷ items) false anew e h = grind (arith, common_steps, not-interrupted)

  own-unit : (items : List (Item Epoch)) (unit : FileUnit Epoch)
      → AreInPlace (Accepted unit ∷ (items ++ block))
      → GoAnew choices block (Accepted unit ∷ items) → AreLinesOfUnit (as_items (units_in (items ++ block)))
      (before_all items) unit (body_unit choices.every (items ++ block) unit)
      (before_all (Accepted unit ∷ items))
  own-unit items (HeaderLine line) h anew = (refl, refl)
  own-unit items (EventLine line) h anew = (refl, refl)
  own-unit items (EventRecord line) h anew = grind (arith, common_steps, units-like)
  own-unit items (Observation epoch) h anew =
      let all = items ++ block in
      let whole = whole-next choices.every all epoch h in (
        epoch_of (marked_now choices.every all epoch) items,
        epoch-same (types_in_force all) (is_in_full choices.every all) epoch
            (marked_epochs choices.every all) whole.0,
        refl,
        own-epoch (types_in_force all) epoch items (is_in_full choices.every all) anew refl whole,
      )

  -- the lines of some items after a block
  pub own-on : (items : List (Item Epoch)) → AreInPlace (items ++ block) → GoAnew choices block items
      → AreLinesOn (units_in block) start (units_in items) (lines_on choices.every items block)
      (before_all items)
  own-on [] h anew = (refl, refl)
  own-on (Warned at ∷ items) h anew = own-on items h.1 (λ e. begins-rest choices block (Warned at) items
      (anew e))
  own-on (Accepted unit ∷ items) h anew = (
    before_all items,
    lines_on choices.every items block,
    body_unit choices.every (items ++ block) unit,
    own-on items h.1 (λ e. begins-rest choices block (Accepted unit) items (anew e)),
    refl,
    rw (← units-append items block) (own-unit items unit h anew),
  )

-- ---- all items

-- the epoch that the lines after some items may continue from
abbrev pub state_after : Option ℕ → List (Item Epoch) → Option WrittenEpoch
state_after every items = state_on None every [] items

pub own-lines : (choices : Choices) (items : List (Item Epoch)) → AreInPlace items
    → AreLinesOf (units_in items) (lines_back choices.every items) (state_after choices.every items)
own-lines choices items h =
    let same : lines_on choices.every items [] ≡ lines_back choices.every items =
    sym (written-on choices.every items []) ∙ ap (lines_back choices.every) (append-nil items) in
    rw (
      ← same,
      ← of-nothing (units_in items) (lines_on choices.every items []) (state_after choices.every items),
    )
    (own-on None choices [] items (rw append-nil h) (λ e. absurd (cc e)))

pub units-in_place : (units : List (FileUnit Epoch)) → AreInPlace (as_items units) → AreUnitsInPlace units
units-in_place [] h = tt
units-in_place (unit ∷ before) h = (h.0, units-in_place before h.1)

-- the units of a file that is read to its end without a fault make a file
pub whole-items : (items : List (Item Epoch)) → IsSettled items → AreWholeFile (units_in items)
whole-items items h = grind (arith, common_steps, units-like, units-in_place, units_in, units-placed)

pub whole-file : (units : List (FileUnit Epoch)) → MakeAFile units → AreWholeFile units
whole-file units h = subst AreWholeFile (units-again units) (whole-items (as_items units) (settled units h))

-- the lines of its text, whatever follows it
pub own-cut : (choices : Choices) (before : List (Item Epoch)) (more : List ℕ) → is_date choices.date ≡ true
    → AreGood before
    → is_at_start before ≡ false → map as_read (lines_of (lines_text (compact_lines choices before) ++ more))
    ≡ map Content (version_line ∷ program_line choices.date ∷ lines_back choices.every before) ++ map as_read
    (lines_of more)
own-cut choices before more dated h begun =
    grind (arith, lines-same, front-cut, version-clean, program-clean, lines-clean)

pub own-items : (choices : Choices) (items : List (Item Epoch))
    → is_date choices.date ≡ true → IsSettled items
    → HaveNoReturns items → IsCompactTextOf (units_in items) (lines_text (compact_lines choices items))
own-items choices items dated h none = record {
  version = version_line;
  program = program_line choices.date;
  lines = lines_back choices.every items;
  last = state_after choices.every items;
  cut = simp append-nil at (own-cut choices items [] dated (record
      { in_place = h.in_place; copied = h.copied; no_returns = none }) (started items h.header));
  first = refl;
  second = program-read choices.date;
  written = own-lines choices items h.in_place;
}

pub own-text : OwnTextIsOne
own-text units choices dated file = (
  whole-file units file,
  subst (λ us. IsCompactTextOf us (lines_text (compact_lines choices (as_items units)))) (units-again units)
      (own-items choices (as_items units) dated (settled units file) (no-returns units file)),
)
