-- Long statements in this crate's laws on arcs, texts and the epochs that are written.
use Rattle.std.specs.Prelude.{◌≡◌, ◌≢◌, ℕ, ◌*◌, ◌≤◌, Bool, true, List, [], ◌∷◌, length, All, if◌then◌else◌, false, ◌||◌}
use Rattle.std.specs.Prelude.{drop}
use Rattle.std.specs.List.{list_all, AllByRecursion}
use Rattle.crx_text.specs.meaning.Columns.{without_end_blanks}
use Rattle.crx_text.specs.meaning.Texts.{text_difference}
use Rattle.crx_base.specs.meaning.Lines.{is_printable}
use Rattle.crx_text.specs.Texts.{patched}
use Rattle.crx_text.specs.Codes.{IsPrintable}
use Rattle.crx_rinex.specs.meaning.Observations.{Epoch}
use Rattle.crx_header.specs.meaning.ObservationTypes.{Count}
use Rattle.crx_base.specs.declared.limits.TheConstants.{WRITTEN_ORDER, TYPES_LIMIT}
use Rattle.crx_rinex.specs.meaning.Epochs.{IsWholeEpoch}
use Rattle.crx_compact.specs.meaning.Differences.{code_at}
use Rattle.crx_compact.specs.meaning.Compaction.{Marked, since_full, run_of, arc_of, clock_arc, compact_epoch}
use Rattle.crx_compact.specs.meaning.Compaction.{epoch_line}
use Rattle.crx_compact.specs.Tails.{Tail, tail_of, IsBoundedTail}
use Rattle.crx_compact.specs.Steps.{no_tail, lines_after_tail, tail_after}
use Rattle.crx_header.specs.meaning.EpochColumns.{begins_epoch, is_event_line}

-- marks applied to a text line after line, the newest last
abbrev pub patched_in_turn : List (List ℕ) → List ℕ
patched_in_turn [] = []
patched_in_turn (marks ∷ older) = patched (patched_in_turn older) marks

-- a patch by a difference returns the new text, except the blanks at its end, if the new text has no &
abbrev pub PatchesBack : Type 0
PatchesBack = (old new : List ℕ)
    → All (λ c. c ≢ 38) new → patched old (text_difference old new) ≡ without_end_blanks new

-- ---- epochs that can be written

-- each epoch has all its rows, and each row its system's number of types
abbrev pub AreWhole : List Count → List Epoch → Type 0
AreWhole types epochs = AllByRecursion (IsWholeEpoch types) epochs

-- each compact line of an epoch has at most the bytes of TYPES_LIMIT coded values of 15 characters, each with a blank and two indicators,
-- if the epochs since the latest full one are whole
abbrev pub AreShort : Type 0
AreShort =
    (types : List Count) (m : Marked) (older : List Marked) → AreWhole types (since_full (m ∷ older))
    → AllByRecursion (λ (line : List ℕ). length line ≤ 18 * TYPES_LIMIT) (compact_epoch (m ∷ older))

-- the tail that the next epoch is written after: the empty one if it is full, otherwise the tail of the epochs before
abbrev pub tail_before : Marked → List Marked → Tail
tail_before m older = if m.in_full then no_tail else tail_of older

-- the tail determines the next epoch's compact lines, and the next tail
pub record EpochByTail (m : Marked) (older : List Marked) : Type 0 where
  pub lines : compact_epoch (m ∷ older) ≡ lines_after_tail (tail_before m older) m.epoch
  pub tail : tail_of (m ∷ older) ≡ tail_after (tail_before m older) m.epoch

-- the coded values of the newest epoch can be written: their orders and digits are within the limits
pub record CodesFit (m : Marked) (older : List Marked) : Type 0 where
  pub clock : IsPrintable (code_at WRITTEN_ORDER (clock_arc (m ∷ older)))
  pub cells : (name : List ℕ) (place : ℕ) → IsPrintable (code_at WRITTEN_ORDER (arc_of place (run_of name (m ∷ older))))

abbrev pub ArePrintable : Type 0
ArePrintable =
    (types : List Count) (m : Marked) (older : List Marked) → AreWhole types (since_full (m ∷ older)) → CodesFit m older

-- the tail of whole epochs is within the limits
abbrev pub WrittenAreBounded : Type 0
WrittenAreBounded = (types : List Count) (m : Marked) (older : List Marked)
    → AreWhole types (since_full (m ∷ older)) → IsBoundedTail WRITTEN_ORDER (tail_of (m ∷ older))

-- ---- the lines of a file

abbrev pub has_no_epochs : List Marked → Bool
has_no_epochs [] = true
has_no_epochs (m ∷ older) = false

-- the compact lines of an epoch can be in a file: their characters are 32 to 126; none is an event's first line; the first one begins with
-- > if the epoch is full, or first, and no other line does
pub record LinesCanStand (m : Marked) (older : List Marked) : Type 0 where
  pub printable : AllByRecursion (λ (line : List ℕ). list_all is_printable line ≡ true) (compact_epoch (m ∷ older))
  pub no_event : AllByRecursion (λ (line : List ℕ). is_event_line line ≡ false) (compact_epoch (m ∷ older))
  pub first : begins_epoch (epoch_line m older) ≡ (m.in_full || has_no_epochs older)
  pub others : AllByRecursion (λ (line : List ℕ). begins_epoch line ≡ false) (drop 1 (compact_epoch (m ∷ older)))

abbrev pub AllLinesCanStand : Type 0
AllLinesCanStand =
    (types : List Count) (m : Marked) (older : List Marked)
    → AreWhole types (since_full (m ∷ older)) → LinesCanStand m older
