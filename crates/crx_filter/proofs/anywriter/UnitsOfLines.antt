-- If a unit is read at some lines of compact text, these are its lines, whoever wrote them.
use Rattle.crx_filter.proofs
use proofs.Vocabulary.{ℕ, ◌≡◌, ◌+◌, false, List, [], ◌∷◌, ◌++◌, map, length, drop, take, Option, Some, arith}
use proofs.Vocabulary.{refl, ap, sym, ◌∙◌, common_steps}
use proofs.Vocabulary.{ReadLine, Content, Epoch, Done, FileUnit, HeaderLine, EventLine, EventRecord}
use proofs.Vocabulary.{Observation, Item, Accepted, ReadEpoch}
use proofs.Vocabulary.{records_count_types, declaring_lines, types_in_force, raws_kept}
use proofs.Vocabulary.{by_bool, compact_place, IsWholeEpoch}
use proofs.wayback.ExpandedStandard.{count-read}
use proofs.wayback.ExpandedWhole.{AreGoodEpochs, IsReadAt, compact-stands, marks-printable}
use Rattle.crx_filter.proofs.reading.{Types.counts-in_force, UnitsAtLines.StandsAt}
use Rattle.crx_filter.specs.meaning.{Expanded.{rinex_unit, empties_state}, WrittenStandard.rinex_items}
use Rattle.crx_filter.specs.meaning.UnitsAndText.{as_items}
use Rattle.crx_filter.specs.{meaning.CompactText.{AreLinesOfUnit}}
use Rattle.crx_header.proofs.Counts.{types_of-push}
use Rattle.crx_compact.proofs.soundness.WholeEpochs.{reads-whole}
use Rattle.crx_compact.proofs.Vocabulary.{epoch_at, tail_left, option_map, same_Some}
use Rattle.std.proofs.{Common.{take-append-drop}}
use Rattle.crx_compact.specs.meaning.AnyWriter.{WrittenEpoch, epoch_now}
use Rattle.crx_compact.specs.AnyWriter.{epoch_left}
use Rattle.crx_compact.proofs.anywriter.{Epochs.any-epoch, OnlyEpochs.{only-epoch, done-things}}

-- ---- some items, the units that they show, and the epoch that later lines may continue from

pub record Standing (items : List (Item ReadEpoch)) (units : List (FileUnit Epoch))
    (before : Option WrittenEpoch) : Type 0 where
  pub known : rinex_items items ≡ as_items units
  pub left : tail_left (raws_kept items) ≡ option_map epoch_left before
  pub whole : (b : WrittenEpoch) → before ≡ Some b → IsWholeEpoch (types_in_force items) (epoch_now b)
  pub good : AreGoodEpochs items

pub record UnitBack (items : List (Item ReadEpoch)) (units : List (FileUnit Epoch))
    (before : Option WrittenEpoch)
    (unit : FileUnit ReadEpoch) (lines : List ReadLine) : Type 0 where
  pub own : List (List ℕ)
  pub cut : lines ≡ map Content own
  pub now : Option WrittenEpoch
  pub stands : Standing (Accepted unit ∷ items) (rinex_unit unit ∷ units) now
  pub written : AreLinesOfUnit (as_items units) before (rinex_unit unit) own now

module _ (items : List (Item ReadEpoch)) (units : List (FileUnit Epoch)) (before : Option WrittenEpoch)
    (s : Standing items units before) where
  count-same : records_count_types items ≡ records_count_types (as_items units)
  count-same = sym (count-read items) ∙ ap records_count_types s.known

  steady-types : (line : List ℕ) → empties_state (records_count_types items) line ≡ false
      → types_in_force (Accepted (EventRecord line) ∷ items) ≡ types_in_force items
  steady-types line e = by_bool (records_count_types items)
      (λ on. rw on (types_of-push (declaring_lines items) line ∙ rw (rw on at e) refl)) (λ off. rw off refl)

  record-back : (line : List ℕ) → UnitBack items units before (EventRecord line) (Content line ∷ [])
  record-back line = by_bool (empties_state (records_count_types items) line)
      (λ on. grind (arith, common_steps, count-same))
      (λ off. grind (arith, common_steps, count-same, steady-types))

  epoch-back : (read : ReadEpoch) (lines : List ReadLine) (count : ℕ)
      → epoch_at (types_in_force items) (raws_kept items) lines ≡ Done read count
      → UnitBack items units before (Observation read) (take count lines)
  epoch-back read lines count e =
      let types = types_in_force items in
      let raws = raws_kept items in
      let found = only-epoch types before raws lines read count s.left s.whole e in
      let good =
      reads-whole types raws lines read count (counts-in_force items) (marks-printable items s.good) e in
      let whole : IsWholeEpoch types (epoch_now found.now) = rw found.epoch good.whole in
      let any = any-epoch types before raws found.now found.own
      (λ b e. s.left ∙ ap (option_map epoch_left) e) whole found.written in
      let split : map Content found.own ++ drop count lines ≡ lines = cc (
        found.cut,
        take-append-drop count lines,
      ) in
      let same : record { raw = any.raw; epoch = epoch_now found.now } ≡ read =
      done-things (record { raw = any.raw; epoch = epoch_now found.now }) read
      (2 + length found.now.rows) count
      (sym (any.reads (drop count lines)) ∙ ap (epoch_at types raws) split ∙ e) in
      record {
        own = found.own;
        cut = found.cut;
        now = Some found.now;
        stands = grind (arith, common_steps, types, raws, found, good, whole, any, same, same_Some found.now);
        written = (found.now, found.epoch, refl, found.written);
      }

  pub unit-back : (lines : List ReadLine) (unit : FileUnit ReadEpoch) (count : ℕ)
      → compact_place items lines ≡ Done unit count → UnitBack items units before unit (take count lines)
  unit-back lines unit count e = by_unit unit (compact-stands items lines unit count e)
    where
      by_unit : (unit : FileUnit ReadEpoch) → StandsAt (IsReadAt items) items lines unit count
          → UnitBack items units before unit (take count lines)
      by_unit (HeaderLine line) k = rw k.0 (grind (arith, common_steps))
      by_unit (EventLine line) k = rw k.0 (grind (arith, common_steps))
      by_unit (EventRecord line) k = rw k.0 (record-back line)
      by_unit (Observation read) k = epoch-back read lines count k.2
