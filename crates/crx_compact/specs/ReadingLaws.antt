-- Long statements in this crate's laws on reading compact text.
use Rattle.std.specs.Prelude.{◌≡◌, ℕ, ◌+◌, Bool, true, false, ◌||◌, List, [], ◌∷◌, ◌++◌, map, length, Option, Some}
use Rattle.std.specs.Prelude.{IfSome, Ok, ⊤}
use Rattle.std.specs.List.{list_all, AllByRecursion}
use Rattle.std.specs.Option.{is_some}
use Rattle.crx_base.specs.meaning.Lines.{is_printable}
use Rattle.crx_base.specs.meaning.AsRead.{ReadLine, Content}
use Rattle.crx_header.specs.meaning.ObservationTypes.{Count}
use Rattle.crx_header.specs.ObservationTypes.{AreCounts}
use Rattle.crx_rinex.specs.meaning.Places.{Place, Done, Fails, NeedsMore, then_place}
use Rattle.crx_base.specs.declared.limits.TheConstants.{ORDER_LIMIT}
use Rattle.crx_rinex.specs.meaning.Epochs.{IsWholeEpoch}
use Rattle.crx_compact.specs.meaning.Compaction.{Marked, since_full}
use Rattle.crx_compact.specs.meaning.Compaction.{compact_epoch}
use Rattle.crx_compact.specs.meaning.Expansion.{RawRow, RawEpoch, block_of, raw_row_named}
use Rattle.crx_compact.specs.Expansion.{epoch_from}
use Rattle.crx_compact.specs.meaning.CompactPlaces.{ReadEpoch, epoch_at}
use Rattle.crx_compact.specs.Tails.{Tail, IsBoundedTail, tail_of, tail_of_block, tail_left, tail_or_nothing}
use Rattle.crx_compact.specs.Steps.{raw_tail_after}
use Rattle.crx_compact.specs.OpenEpochs.{epoch_after, OpenRawEpoch, IsBoundedOpen, IsBoundedStep, first_step, next_step}
use Rattle.crx_compact.specs.OpenEpochs.{placed_as, held_after, place_of_step, place_by_steps, open_raw_after}
use Rattle.crx_compact.specs.OpenEpochs.{open_raw_with}
use Rattle.crx_compact.specs.Laws.{AreWhole}

-- ---- reading the written text

-- the compact lines of an epoch, as a reader of lines returns them
abbrev pub lines_of_epoch : List Marked → List ReadLine
lines_of_epoch epochs = map Content (compact_epoch epochs)

-- the compact lines of an epoch are read as that epoch, whatever lines follow, and leave the writer's tail, if the epochs since the latest
-- full one are whole by the counts of types in force, and the earlier raw epochs leave the tail of the earlier epochs. Before a full epoch
-- the raw epochs may be any
pub record EpochReadsBack (types : List Count) (m : Marked) (older : List Marked) (raws : List RawEpoch) : Type 0 where
  pub raw : RawEpoch
  pub reads : (rest : List ReadLine) → epoch_at types raws (lines_of_epoch (m ∷ older) ++ rest)
      ≡ Done (record { raw = raw; epoch = m.epoch }) (2 + length m.epoch.rows)
  pub tail : tail_left (raw ∷ raws) ≡ Some (tail_of (m ∷ older))

abbrev pub EachReadsBack : Type 0
EachReadsBack =
    (types : List Count) (m : Marked) (older : List Marked) (raws : List RawEpoch)
    → AreWhole types (since_full (m ∷ older))
    → (m.in_full ≡ false → tail_left raws ≡ tail_or_nothing older) → EpochReadsBack types m older raws

-- the compact text of some epochs, the oldest one's lines first
abbrev pub text_lines : List Marked → List (List ℕ)
text_lines [] = []
text_lines (m ∷ older) = text_lines older ++ compact_epoch (m ∷ older)

-- an epoch for each list of counts of types, newest first: the older epochs are read first
abbrev pub epochs_at : List (List Count) → List ReadLine → Place (List ReadEpoch)
epochs_at [] lines = Done [] 0
epochs_at (types ∷ older) lines =
    then_place (epochs_at older lines) lines (λ epochs others.
    then_place (epoch_at types (map (λ (r : ReadEpoch). r.raw) epochs) others) others (λ epoch rest.
    Done (epoch ∷ epochs) 0))

-- an epoch and the counts of types in force at it
pub record TypedEpoch : Type 0 where
  pub types : List Count
  pub marked : Marked

abbrev pub marked_of : List TypedEpoch → List Marked
marked_of epochs = map (λ (t : TypedEpoch). t.marked) epochs

abbrev pub counts_of : List TypedEpoch → List (List Count)
counts_of epochs = map (λ (t : TypedEpoch). t.types) epochs

-- each epoch, with the epochs before it back to the latest full one, is whole by the counts of types in force at it; so a count changes
-- only at a full epoch
abbrev pub AreWholeByTypes : List TypedEpoch → Type 0
AreWholeByTypes [] = ⊤
AreWholeByTypes (t ∷ older) = AreWhole t.types (since_full (marked_of (t ∷ older))) × AreWholeByTypes older

-- the compact text of a list of epochs is read as these epochs, and leaves the writer's tail
pub record EpochsReadBack (epochs : List TypedEpoch) : Type 0 where
  pub reads : List ReadEpoch
  pub all : (rest : List ReadLine) → epochs_at (counts_of epochs) (map Content (text_lines (marked_of epochs)) ++ rest)
      ≡ Done reads (length (text_lines (marked_of epochs)))
  pub epochs_are : map (λ (r : ReadEpoch). r.epoch) reads ≡ map (λ (m : Marked). m.epoch) (marked_of epochs)
  pub tail : tail_left (map (λ (r : ReadEpoch). r.raw) reads) ≡ tail_or_nothing (marked_of epochs)

abbrev pub ReadsBack : Type 0
ReadsBack = (epochs : List TypedEpoch) → AreWholeByTypes epochs → EpochsReadBack epochs

-- ---- the epochs that are read

-- no satellite has two lines: each line of a raw epoch is the first with its identifier
abbrev pub HasSingleLines : RawEpoch → Type 0
HasSingleLines raw = AllByRecursion (λ (r : RawRow). raw_row_named r.name raw.rows ≡ Some r) raw.rows

-- an epoch that was read: no satellite has two lines, its raw epoch stands for it after the older ones, and it took its epoch line, its
-- clock line and one line for each satellite
pub record IsSound (older : List RawEpoch) (read : ReadEpoch) (count : ℕ) : Type 0 where
  pub single : HasSingleLines read.raw
  pub meant : epoch_from read.raw older ≡ Ok read.epoch
  pub counted : count ≡ 2 + length read.epoch.rows

abbrev pub ReadsSoundly : Type 0
ReadsSoundly =
    (types : List Count) (older : List RawEpoch) (lines : List ReadLine) (read : ReadEpoch) (count : ℕ)
    → epoch_at types older lines ≡ Done read count → IsSound older read count

-- the marks of a raw epoch's lines are characters 32 to 126
abbrev pub HasPrintableMarks : RawEpoch → Type 0
HasPrintableMarks raw = AllByRecursion (λ (r : RawRow). list_all is_printable r.marks ≡ true) raw.rows

-- an epoch that was read is whole, by the counts of types that it was read with, and its lines can precede others
pub record IsGood (types : List Count) (read : ReadEpoch) : Type 0 where
  pub whole : IsWholeEpoch types read.epoch
  pub marks : HasPrintableMarks read.raw

abbrev pub ReadsWholeEpochs : Type 0
ReadsWholeEpochs =
    (types : List Count) (older : List RawEpoch) (lines : List ReadLine) (read : ReadEpoch) (count : ℕ)
    → AreCounts types → AllByRecursion HasPrintableMarks older
    → epoch_at types older lines ≡ Done read count → IsGood types read

-- each of some epochs is whole, by the counts of types that it was read with
abbrev pub AreGood : List (List Count) → List ReadEpoch → Type 0
AreGood [] [] = ⊤
AreGood [] (read ∷ older) = ⊥
AreGood (types ∷ counts) [] = ⊥
AreGood (types ∷ counts) (read ∷ older) = IsGood types read × AreGood counts older

-- epochs that are read one after another, without earlier ones, are all whole
abbrev pub ReadsWholeLists : Type 0
ReadsWholeLists =
    (counts : List (List Count)) (lines : List ReadLine) (epochs : List ReadEpoch) (count : ℕ)
    → AllByRecursion AreCounts counts → epochs_at counts lines ≡ Done epochs count → AreGood counts epochs

-- ---- the tail decides

-- the tail of a block determines the tail after its next raw epoch
abbrev pub RawByTail : RawEpoch → List RawEpoch → Type 0
RawByTail raw block = tail_of_block (raw ∷ block) ≡ raw_tail_after (tail_of_block block) raw

-- the tail of the earlier raw epochs determines the epoch or the fault at the next lines, and the tail after an epoch that was read there
pub record TailDecides (types : List Count) (older : List RawEpoch) (lines : List ReadLine) : Type 0 where
  pub place : epoch_at types older lines ≡ epoch_after types (tail_left older) lines
  pub next : (read : ReadEpoch) (count : ℕ) → epoch_at types older lines ≡ Done read count
      → tail_left (read.raw ∷ older) ≡ Some (held_after (tail_left older) read).tail

-- a line that begins with > forgets: the epoch or the fault there doesn't depend on older raw epochs, and the epoch is the first of its
-- block
pub record Forgets (types : List Count) (older : List RawEpoch) (line : List ℕ) (lines : List ReadLine) : Type 0 where
  pub place : epoch_at types older (Content line ∷ lines) ≡ epoch_at types [] (Content line ∷ lines)
  pub block : (read : ReadEpoch) (count : ℕ) → epoch_at types older (Content line ∷ lines) ≡ Done read count
      → block_of (read.raw ∷ older) ≡ read.raw ∷ []

-- the lines of an epoch leave the writer's tail, wherever they are read
abbrev pub OneTail : Type 0
OneTail =
    (types : List Count) (m : Marked) (older : List Marked) (raws : List RawEpoch) (rest : List ReadLine)
    (read : ReadEpoch) (count : ℕ) → AreWhole types (since_full (m ∷ older))
    → (m.in_full ≡ false → tail_left raws ≡ tail_or_nothing older)
    → epoch_at types raws (lines_of_epoch (m ∷ older) ++ rest) ≡ Done read count
    → tail_left (read.raw ∷ raws) ≡ Some (tail_of (m ∷ older))

-- ---- line by line

-- whether more lines are needed at a place
abbrev pub is_wanted : {X : Type 0} → Place X → Bool
is_wanted (Done x count) = false
is_wanted (Fails offset fault) = false
is_wanted NeedsMore = true

abbrev pub has_no_lines : List ReadLine → Bool
has_no_lines [] = true
has_no_lines (line ∷ lines) = false

-- some lines, read at once or line by line, have the same place and leave the same tail
abbrev pub StepsAgree : List Count → Option Tail → List ReadLine → Type 0
StepsAgree types tail lines = placed_as (held_after tail) (epoch_after types tail lines)
    ≡ place_by_steps types tail lines

-- more lines are needed if and only if there is no line yet, or the lines so far make an open epoch
abbrev pub WantedWhereOpen : List Count → Option Tail → List ReadLine → Type 0
WantedWhereOpen types tail lines =
    is_wanted (epoch_after types tail lines) ≡ (has_no_lines lines || is_some (open_raw_with types tail lines))

-- the step that one more line makes from an open epoch is the place of all its lines
pub record StepFromOpen (types : List Count)
    (tail : Option Tail) (lines : List ReadLine) (line : ReadLine) (begun : OpenRawEpoch) : Type 0 where
  pub place : placed_as (held_after tail) (epoch_after types tail (lines ++ line ∷ []))
      ≡ place_of_step (length lines) (next_step begun line)
  pub open_epoch : open_raw_with types tail (lines ++ line ∷ []) ≡ open_raw_after (next_step begun line) []

abbrev pub StepsFromOpen : Type 0
StepsFromOpen =
    (types : List Count) (tail : Option Tail) (lines : List ReadLine) (line : ReadLine) (begun : OpenRawEpoch)
    → open_raw_with types tail lines ≡ Some begun → StepFromOpen types tail lines line begun

-- the lines of an epoch, read one by one after the tail before it, make the epoch with the last of them, and leave the writer's tail; if
-- the epoch is full, after any tail
abbrev pub StepsReadBack : Type 0
StepsReadBack =
    (types : List Count) (m : Marked) (older : List Marked) (tail : Option Tail)
    → AreWhole types (since_full (m ∷ older))
    → (m.in_full ≡ false → tail ≡ tail_or_nothing older)
    → place_by_steps types tail (lines_of_epoch (m ∷ older))
    ≡ Done (record { epoch = m.epoch; tail = tail_of (m ∷ older) }) (2 + length m.epoch.rows)

-- ---- bounds

-- whatever was read before, the state of an open epoch, and the tail after a whole one, are within the limits, because each line leaves
-- them so
pub record ReadAreBounded : Type 0 where
  pub first : (types : List Count) (tail : Option Tail) (line : ReadLine)
      → AreCounts types → IfSome tail (IsBoundedTail ORDER_LIMIT) → IsBoundedStep (first_step types tail line)
  pub next : (begun : OpenRawEpoch) (line : ReadLine) → IsBoundedOpen begun → IsBoundedStep (next_step begun line)
