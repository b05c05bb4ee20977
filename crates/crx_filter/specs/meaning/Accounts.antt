-- Nothing is lost in silence: each line of an input belongs to an accepted unit, or a warning drops it. Lists of
-- items have the newest first.
use Rattle.std.specs.Prelude.{ℕ, ◌≡◌, ◌<◌, ◌≤◌, Bool, false, List, [], ◌∷◌, ◌++◌, Some, None, ⊤, length, map, reverse}
use Rattle.crx_base.specs.meaning.AsRead.{ReadLine, as_read}
use Rattle.crx_base.specs.meaning.Choices.{Choices}
use Rattle.crx_base.specs.meaning.Lines.{lines_of, lines_text}
use Rattle.crx_rinex.specs.meaning.Observations.{Epoch}
use Rattle.crx_rinex.specs.meaning.Places.{Place}
use Rattle.crx_rinex.specs.meaning.Units.{Unit, Observation}
use Rattle.crx_filter.specs.meaning.Compacted.{compact_lines, compact_unit, is_in_full, rinex_place, whole_rinex}
use Rattle.crx_filter.specs.meaning.Expanded.{compact_place, expanded_unit, whole_compact}
use Rattle.crx_filter.specs.meaning.Fate.{OwnInOrder}
use Rattle.crx_filter.specs.meaning.Items.{Item, Accepted}
use Rattle.crx_filter.specs.meaning.Written.{warnings_in, written_lines}
use Rattle.crx_runs.specs.meaning.Messages.{notices_text}
use Rattle.crx_runs.specs.meaning.Results.{FilterResult, status_after}

-- ---- the output and messages for the lines

-- `result` accounts for `lines`, the first of which has this `number`, by the items that were read from them: the
-- items own the lines, the output is the text of the items, and the messages are their warnings. So with status 0 no
-- line was dropped
pub record AccountsForLines {E : Type 0} (place : List (Item E) → List ReadLine → Place (Unit E))
    (unit_lines : List (Item E) → Unit E → List (List ℕ)) (number : ℕ) (items : List (Item E)) (lines : List ReadLine)
    (result : FilterResult) : Type 0 where
  pub kept : List ReadLine
  pub lines_are : OwnInOrder place number items lines kept
  pub output : result.output ≡ lines_text (written_lines unit_lines items)
  pub messages : result.messages ≡ notices_text (reverse (warnings_in items))
  pub status : result.status ≡ status_after (reverse (warnings_in items)) None

-- if no fault ended it, a compaction accounts for all lines of its file
abbrev pub AccountsForFile : Choices → List ℕ → FilterResult → Type 0
AccountsForFile choices file result = result.fault ≡ None → AccountsForLines rinex_place (compact_unit choices) 1
    (whole_rinex choices.skip (map as_read (lines_of file))).items (map as_read (lines_of file)) result

-- if no fault ended it, an expansion accounts for all lines of its text after the first two, which hold the format
-- and the date. `skip`: whether it skips faults
abbrev pub AccountsForText : Bool → List ℕ → FilterResult → Type 0
AccountsForText skip text result = result.fault ≡ None
    → (first : ReadLine) × (second : ReadLine) × (rest : List ReadLine)
    × (map as_read (lines_of text) ≡ first ∷ second ∷ rest)
    × AccountsForLines compact_place expanded_unit 3 (whole_compact skip (map as_read (lines_of text))).items rest
    result

-- ---- the length of a block

-- the items with some later epochs, the oldest first
abbrev pub with_epochs : List (Item Epoch) → List Epoch → List (Item Epoch)
with_epochs before [] = before
with_epochs before (epoch ∷ later) = with_epochs (Accepted (Observation epoch) ∷ before) later

-- none of these epochs, read after the items, is full
abbrev pub AreContinued : Choices → List (Item Epoch) → List Epoch → Type 0
AreContinued choices before [] = ⊤
AreContinued choices before (epoch ∷ later) = (is_in_full choices.every before ≡ false)
    × AreContinued choices (Accepted (Observation epoch) ∷ before) later

-- in these items, an epoch and the epochs after it of which none is full are never more than n
abbrev pub HaveShortBlocks : Choices → ℕ → List (Item Epoch) → Type 0
HaveShortBlocks choices n items =
    (before after : List (Item Epoch)) (first : Epoch) (others : List Epoch)
    → items ≡ after ++ with_epochs before (first ∷ others)
    → AreContinued choices (Accepted (Observation first) ∷ before) others → length (first ∷ others) ≤ n

-- with every n-th epoch full, the output is the compact text of the items read from the file, and its blocks have at
-- most n epochs
abbrev pub HasShortBlocks : Choices → List ℕ → FilterResult → Type 0
HasShortBlocks choices file result = (n : ℕ) → choices.every ≡ Some n → 0 < n
    → (result.output ≡ lines_text (compact_lines choices (whole_rinex choices.skip (map as_read (lines_of file))).items))
    × HaveShortBlocks choices n (whole_rinex choices.skip (map as_read (lines_of file))).items
