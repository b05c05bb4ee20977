-- Damaged compact text, whoever wrote it, if one block is damaged: other lines replace the lines of an epoch and of
-- the units after it, up to the next line that begins with >. Lists of units have the newest first.
use Rattle.std.specs.Prelude.{ℕ, ◌≡◌, Bool, true, false, not, ⊤, List, [], ◌∷◌, ◌++◌, ◌≤◌, Option, None, map, length}
use Rattle.std.specs.List.{AllByRecursion, list_all, flat_map}
use Rattle.crx_base.specs.declared.fault.At.{At}
use Rattle.crx_base.specs.meaning.AsRead.{ReadLine, Content, Overlong}
use Rattle.crx_base.specs.meaning.Lines.{lines_text}
use Rattle.crx_header.specs.meaning.EpochColumns.{begins_epoch, is_event_line}
use Rattle.crx_rinex.specs.meaning.Epochs.{IsWholeEpoch}
use Rattle.crx_rinex.specs.meaning.Observations.{Epoch}
use Rattle.crx_rinex.specs.meaning.Printing.{printed_epoch}
use Rattle.crx_rinex.specs.meaning.Units.{Unit as FileUnit, HeaderLine, EventLine, EventRecord, Observation}
use Rattle.crx_compact.specs.meaning.AnyWriter.{WrittenEpoch}
use Rattle.crx_filter.specs.meaning.CompactText.{AreUnitsInPlace}
use Rattle.crx_filter.specs.meaning.Items.{records_left, types_in_force}
use Rattle.crx_filter.specs.meaning.Standard.{printed_items}
use Rattle.crx_filter.specs.meaning.Stretches.{AreLinesOn, HasStretches, Stretch}
use Rattle.crx_filter.specs.meaning.UnitsAndText.{as_items}
use Rattle.crx_runs.specs.meaning.Messages.{notices_text}
use Rattle.crx_runs.specs.meaning.Results.{FilterResult, status_after}

-- a line that isn't too long and doesn't begin with >
abbrev pub is_inside : ReadLine → Bool
is_inside Overlong = false
is_inside (Content line) = not (begins_epoch line)

-- the lines of a block: the first one begins no event, none of the others begins with >, and none is too long
abbrev pub AreBlockLines : List ReadLine → Type 0
AreBlockLines [] = ⊤
AreBlockLines (Overlong ∷ lines) = ⊥
AreBlockLines (Content line ∷ lines) = (is_event_line line ≡ false) × (list_all is_inside lines ≡ true)

-- a text that is damaged in one stretch: the lines that replace the lines of the lost units are the lines of a block
pub record IsDamaged (before : List (FileUnit Epoch)) (s : Stretch) (damaged : List ℕ) : Type 0 where
  pub stretch : HasStretches before (s ∷ []) damaged
  pub block : AreBlockLines s.instead

-- ---- the saved units

-- the epochs among some units, the oldest first
abbrev pub epochs_among : List (FileUnit Epoch) → List Epoch
epochs_among [] = []
epochs_among (HeaderLine line ∷ before) = epochs_among before
epochs_among (EventLine line ∷ before) = epochs_among before
epochs_among (EventRecord line ∷ before) = epochs_among before
epochs_among (Observation epoch ∷ before) = epochs_among before ++ epoch ∷ []

-- the output and messages of an expansion of such a text that skips faults: the exact text of all units before the
-- block, then the text of some epochs, and then the exact text of all units after it, with at most one warning. Each
-- of these epochs is whole, by the types in force at the block. The first of them are the epochs whose lines are at
-- the block's beginning
pub record IsSalvaged (before : List (FileUnit Epoch)) (s : Stretch) (damaged : List ℕ)
    (damage : IsDamaged before s damaged) (result : FilterResult) : Type 0 where
  pub epochs : List Epoch
  pub whole : AllByRecursion (IsWholeEpoch (types_in_force (as_items before))) epochs
  pub warnings : List At
  pub few : length warnings ≤ 1
  pub output : result.output ≡ lines_text (printed_items (as_items before)
      ++ (flat_map printed_epoch epochs ++ printed_items (as_items s.kept)))
  pub messages : result.messages ≡ notices_text warnings
  pub status : result.status ≡ status_after warnings None
  pub fault : result.fault ≡ None
  pub own : (units : List (FileUnit Epoch)) (lines : List (List ℕ)) (last : Option WrittenEpoch) (rest : List ReadLine)
      → AreUnitsInPlace (units ++ before) → records_left (as_items (units ++ before)) ≡ 0
      → AreLinesOn before ((damage.stretch).text).last units lines last → s.instead ≡ map Content lines ++ rest
      → (more : List Epoch) × (epochs ≡ epochs_among units ++ more)
