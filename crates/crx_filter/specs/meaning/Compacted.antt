-- The compaction of a RINEX file: Hatanaka's Compact RINEX 3.0.
-- Lists of items have the newest first.
use Rattle.std.specs.Prelude.{ℕ, Bool, true, false, ◌||◌, ◌&&◌, ◌+◌, ◌%◌, List, [], ◌∷◌, ◌++◌, ◌==◌, Option, Some, None}
use Rattle.std.specs.Prelude.{nat_lt, map}
use Rattle.crx_base.specs.meaning.AsRead.{ReadLine, as_read}
use Rattle.crx_base.specs.meaning.Lines.{lines_of}
use Rattle.crx_rinex.specs.meaning.Observations.{Epoch}
use Rattle.crx_rinex.specs.meaning.Places.{Place}
use Rattle.crx_rinex.specs.meaning.Units.{Unit, HeaderLine, EventLine, EventRecord, Observation}
use Rattle.crx_rinex.specs.meaning.EpochPlaces.{epoch_place}
use Rattle.crx_compact.specs.meaning.Compaction.{Marked, compact_epoch}
use Rattle.crx_header.specs.meaning.CompactHeader.{lines_before_header}
use Rattle.crx_base.specs.meaning.Choices.{Choices}
use Rattle.crx_filter.specs.meaning.Items.{Item, Accepted, Warned, is_at_start, types_in_force}
use Rattle.crx_filter.specs.meaning.UnitPlaces.{unit_place}
use Rattle.crx_filter.specs.meaning.Reading.{WholeReading, whole_reading}
use Rattle.crx_runs.specs.meaning.Results.{FilterResult}
use Rattle.crx_filter.specs.meaning.Written.{written_lines, result_of}

-- the unit that these lines of a RINEX file begin with, after these items
abbrev pub rinex_place : List (Item Epoch) → List ReadLine → Place (Unit Epoch)
rinex_place before lines = unit_place (λ (items : List (Item Epoch)). epoch_place (types_in_force items)) before lines

-- ---- full epochs

-- how many observation epochs were accepted
abbrev pub epochs_accepted : {E : Type 0} → List (Item E) → ℕ
epochs_accepted [] = 0
epochs_accepted (Accepted (HeaderLine line) ∷ before) = epochs_accepted before
epochs_accepted (Accepted (EventLine line) ∷ before) = epochs_accepted before
epochs_accepted (Accepted (EventRecord line) ∷ before) = epochs_accepted before
epochs_accepted (Accepted (Observation epoch) ∷ before) = epochs_accepted before + 1
epochs_accepted (Warned at ∷ before) = epochs_accepted before

-- whether the next epoch is the first, or follows an event or a warning
abbrev pub is_interrupted : {E : Type 0} → List (Item E) → Bool
is_interrupted [] = true
is_interrupted (Accepted (HeaderLine line) ∷ before) = true
is_interrupted (Accepted (EventLine line) ∷ before) = true
is_interrupted (Accepted (EventRecord line) ∷ before) = true
is_interrupted (Accepted (Observation epoch) ∷ before) = false
is_interrupted (Warned at ∷ before) = true

-- whether n, above 0, divides an epoch's index, counted from 0
abbrev pub is_at_every : Option ℕ → ℕ → Bool
is_at_every None index = false
is_at_every (Some n) index = nat_lt 0 n && (index % n == 0)

-- whether the epoch after these items is full
abbrev pub is_in_full : Option ℕ → List (Item Epoch) → Bool
is_in_full every before = is_interrupted before || is_at_every every (epochs_accepted before)

-- the accepted epochs, newest first, each marked whether it is full
abbrev pub marked_epochs : Option ℕ → List (Item Epoch) → List Marked
marked_epochs every [] = []
marked_epochs every (Accepted (HeaderLine line) ∷ before) = marked_epochs every before
marked_epochs every (Accepted (EventLine line) ∷ before) = marked_epochs every before
marked_epochs every (Accepted (EventRecord line) ∷ before) = marked_epochs every before
marked_epochs every (Accepted (Observation epoch) ∷ before) =
    record { in_full = is_in_full every before; epoch = epoch } ∷ marked_epochs every before
marked_epochs every (Warned at ∷ before) = marked_epochs every before

-- ---- the text

-- the lines of a unit in compact text, after the items before it
abbrev pub compact_unit : Choices → List (Item Epoch) → Unit Epoch → List (List ℕ)
compact_unit choices before (HeaderLine line) = lines_before_header choices.date (is_at_start before) ++ line ∷ []
compact_unit choices before (EventLine line) = line ∷ []
compact_unit choices before (EventRecord line) = line ∷ []
compact_unit choices before (Observation epoch) = compact_epoch
    (record { in_full = is_in_full choices.every before; epoch = epoch } ∷ marked_epochs choices.every before)

-- ---- whole files

-- the reading of all lines of a RINEX file
abbrev pub whole_rinex : Bool → List ReadLine → WholeReading Epoch
whole_rinex skip lines = whole_reading rinex_place skip 1 lines

-- the lines of the compact text of some items
abbrev pub compact_lines : Choices → List (Item Epoch) → List (List ℕ)
compact_lines choices items = written_lines (compact_unit choices) items

-- the compaction of `lines`, all lines of an input
abbrev pub compaction_result : Choices → List ReadLine → FilterResult
compaction_result choices lines = result_of (compact_unit choices) (whole_rinex choices.skip lines)

-- the compaction of an input
abbrev pub compacted : List ℕ → Choices → FilterResult
compacted input choices = compaction_result choices (map as_read (lines_of input))
