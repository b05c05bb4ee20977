-- Additions to meaning/Damage: the compact text of a file that is compacted here, damaged in one block, from a full
-- epoch up to the next line that begins a unit with >. Lists of items have the newest first.
use Rattle.std.specs.Prelude.{ℕ, ◌≡◌, ◌⊎◌, Bool, true, not, ◌&&◌, ⊤, List, [], ◌∷◌, ◌++◌, ◌≤◌, suc, None, map}
use Rattle.std.specs.Prelude.{length, drop, take}
use Rattle.std.specs.List.{AllByRecursion, list_all, flat_map}
use Rattle.crx_base.specs.meaning.Lines.{Piece, InputLine, pieces_of, lines_of, is_long}
use Rattle.crx_base.specs.declared.fault.At.{At}
use Rattle.crx_rinex.specs.meaning.Observations.{Epoch}
use Rattle.crx_header.specs.meaning.EpochColumns.{begins_epoch}
use Rattle.crx_rinex.specs.meaning.Epochs.{IsWholeEpoch}
use Rattle.crx_rinex.specs.meaning.Printing.{printed_epoch}
use Rattle.crx_base.specs.meaning.Lines.{lines_text}
use Rattle.crx_rinex.specs.meaning.Units.{HeaderLine, EventLine, EventRecord, Observation}
use Rattle.crx_base.specs.meaning.Choices.{Choices, is_date}
use Rattle.crx_filter.specs.meaning.Accounts.{AreContinued, with_epochs}
use Rattle.crx_filter.specs.meaning.Items.{Item, Accepted, Warned, types_in_force}
use Rattle.crx_runs.specs.meaning.Messages.{notices_text}
use Rattle.crx_runs.specs.meaning.Results.{FilterResult, status_after}
use Rattle.crx_filter.specs.meaning.Compacted.{is_in_full, compact_unit, compact_lines, compacted}
use Rattle.crx_filter.specs.meaning.Expanded.{expanded}
use Rattle.crx_filter.specs.meaning.Standard.{IsStandard, whole_of, printed_items}

-- the lines of some epochs after these items, the oldest first
abbrev pub lines_of_epochs : Choices → List (Item Epoch) → List Epoch → List (List ℕ)
lines_of_epochs choices before [] = []
lines_of_epochs choices before (epoch ∷ later) = compact_unit choices before (Observation epoch)
    ++ lines_of_epochs choices (Accepted (Observation epoch) ∷ before) later

-- a line that may replace others: it isn't too long and doesn't begin with >
abbrev pub may_replace : InputLine → Bool
may_replace line = not (is_long line) && not (begins_epoch line.content)

-- the compact lines of `all` that follow those of `before`
abbrev pub lines_after : Choices → List (Item Epoch) → List (Item Epoch) → List (List ℕ)
lines_after choices before all = drop (length (compact_lines choices before)) (compact_lines choices all)

-- a block is followed by nothing, or by a unit that begins with >: an event or a full epoch
abbrev pub BeginsAnew : Choices → List (Item Epoch) → List (Item Epoch) → Type 0
BeginsAnew choices block [] = ⊤
BeginsAnew choices block (Warned at ∷ []) = ⊥
BeginsAnew choices block (Accepted (HeaderLine line) ∷ []) = ⊥
BeginsAnew choices block (Accepted (EventLine line) ∷ []) = ⊤
BeginsAnew choices block (Accepted (EventRecord line) ∷ []) = ⊥
BeginsAnew choices block (Accepted (Observation epoch) ∷ []) = is_in_full choices.every block ≡ true
BeginsAnew choices block (newest ∷ item ∷ items) = BeginsAnew choices block (item ∷ items)

-- the compact text of a standard file with one damaged block: the units before the block, its first epoch, which is
-- full, the others, none of which is, the units after it, and the bytes that replace the block's lines except the
-- first. These may be lines that end with CR and LF, and if nothing follows the block the last one need not end with
-- LF
pub record IsOwnDamaged (input : List ℕ) (choices : Choices) (damaged : List ℕ) : Type 0 where
  pub standard : IsStandard input
  pub before : List (Item Epoch)
  pub first : Epoch
  pub others : List Epoch
  pub after : List (Item Epoch)
  pub instead : List ℕ
  pub parts : (whole_of input).items ≡ after ++ with_epochs before (first ∷ others)
  pub starts : is_in_full choices.every before ≡ true
  pub continued : AreContinued choices (Accepted (Observation first) ∷ before) others
  pub anew : BeginsAnew choices (with_epochs before (first ∷ others)) after
  pub allowed : list_all may_replace (lines_of instead) ≡ true
  pub ended : (after ≡ []) ⊎ (list_all (λ (piece : Piece). piece.is_ended) (pieces_of instead) ≡ true)
  pub text : damaged ≡
      lines_text (compact_lines choices before ++ take 1 (compact_unit choices before (Observation first)))
      ++ instead
      ++ lines_text (lines_after choices (with_epochs before (first ∷ others)) (whole_of input).items)

-- ---- the saved units

-- the output and messages of an expansion of damaged text that skips faults, as `IsSalvaged` says. The first of the
-- epochs are the block's own, as far as the replacing lines begin with theirs
pub record IsOwnSalvaged (input : List ℕ) (choices : Choices)
    (damaged : List ℕ) (damage : IsOwnDamaged input choices damaged) (result : FilterResult) : Type 0 where
  pub epochs : List Epoch
  pub whole : AllByRecursion (IsWholeEpoch (types_in_force damage.before)) epochs
  pub warnings : List At
  pub few : length warnings ≤ 1
  pub output : result.output ≡ lines_text (
      printed_items damage.before
      ++ flat_map printed_epoch epochs
      ++ drop (length (printed_items (with_epochs damage.before (damage.first ∷ damage.others))))
      (printed_items (whole_of input).items))
  pub messages : result.messages ≡ notices_text warnings
  pub status : result.status ≡ status_after warnings None
  pub fault : result.fault ≡ None
  pub own : (count : ℕ) (rest : List (List ℕ))
      → map (λ (line : InputLine). line.content) (lines_of damage.instead)
      ≡ drop 1 (lines_of_epochs choices damage.before (take (suc count) (damage.first ∷ damage.others))) ++ rest
      → (more : List Epoch) × (epochs ≡ take (suc count) (damage.first ∷ damage.others) ++ more)

-- ---- the laws

-- the damaged text is the output of the compaction, except for the lines of the block after its first
abbrev pub IsOfCompaction : (input : List ℕ) (choices : Choices) (damaged : List ℕ)
    → IsOwnDamaged input choices damaged → Type 0
IsOfCompaction input choices damaged damage =
    let block : List Epoch = damage.first ∷ damage.others in
    (compacted input choices).output ≡
    lines_text (compact_lines choices damage.before ++ lines_of_epochs choices damage.before block)
    ++ lines_text (lines_after choices (with_epochs damage.before block) (whole_of input).items)

-- damage stays in its block: an expansion that skips faults saves everything else, with any options of the compaction
abbrev pub StaysInItsBlock : List ℕ → Choices → Choices → List ℕ → Type 0
StaysInItsBlock input compacting expanding damaged =
    is_date compacting.date ≡ true → expanding.skip ≡ true → (damage : IsOwnDamaged input compacting damaged)
    → IsOwnSalvaged input compacting damaged damage (expanded damaged expanding)
