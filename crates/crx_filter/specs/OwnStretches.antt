-- Additions to meaning/Stretches: the compact text of a file that is compacted here, damaged in stretches or cut off.
-- Lists of items have the newest first.
use Rattle.std.specs.Prelude.{ℕ, ◌≡◌, ◌⊎◌, Bool, true, not, ◌||◌, ⊤, List, [], ◌∷◌, ◌++◌, None, map}
use Rattle.std.specs.List.{AllByRecursion, list_all, flat_map}
use Rattle.crx_base.specs.meaning.Lines.{Piece, InputLine, pieces_of, lines_of, is_long, lines_text}
use Rattle.crx_base.specs.meaning.AsRead.{as_read}
use Rattle.crx_base.specs.declared.fault.At.{At}
use Rattle.crx_rinex.specs.meaning.Observations.{Epoch}
use Rattle.crx_rinex.specs.meaning.Epochs.{IsWholeEpoch}
use Rattle.crx_rinex.specs.meaning.Printing.{printed_epoch}
use Rattle.crx_base.specs.meaning.Choices.{Choices}
use Rattle.crx_filter.specs.meaning.Items.{Item, header_has_ended, records_left, types_in_force}
use Rattle.crx_filter.specs.meaning.Reading.{WholeReading}
use Rattle.crx_filter.specs.meaning.Compacted.{compact_lines, whole_rinex}
use Rattle.crx_filter.specs.Damage.{BeginsAnew, lines_after}
use Rattle.crx_filter.specs.meaning.Standard.{printed_items}
use Rattle.crx_filter.specs.meaning.Stretches.{announces_records}
use Rattle.crx_filter.specs.meaning.WayBack.{HaveNoReturns}
use Rattle.crx_runs.specs.meaning.Messages.{notices_text}
use Rattle.crx_runs.specs.meaning.Results.{FilterResult, status_after}

-- the reading of a file that is compacted
abbrev pub read_of_file : List ℕ → Choices → WholeReading Epoch
read_of_file file choices = whole_rinex choices.skip (map as_read (lines_of file))

-- a file that is restored from its compaction: no fault ended its reading, and no line that is copied ends in CR
pub record IsReadWhole (file : List ℕ) (choices : Choices) : Type 0 where
  pub good : (read_of_file file choices).fault ≡ None
  pub no_returns : HaveNoReturns (read_of_file file choices).items

-- ---- stretches

-- a damaged stretch, as `Stretch`, with bytes instead of lines
pub record OwnStretch : Type 0 where
  pub lost : List (Item Epoch)
  pub instead : List ℕ
  pub kept : List (Item Epoch)

-- the units up to a stretch's end, after which the kept ones begin
abbrev pub up_to_own_end : List (Item Epoch) → OwnStretch → List (Item Epoch)
up_to_own_end before s = s.lost ++ before

-- the units up to the next stretch
abbrev pub up_to_own_next : List (Item Epoch) → OwnStretch → List (Item Epoch)
up_to_own_next before s = s.kept ++ up_to_own_end before s

-- all units: those before some stretches, and those of the stretches
abbrev pub with_own : List (Item Epoch) → List OwnStretch → List (Item Epoch)
with_own before [] = before
with_own before (s ∷ later) = with_own (up_to_own_next before s) later

-- the damaged text after these units
abbrev pub own_text : Choices → List (Item Epoch) → List OwnStretch → List ℕ
own_text choices before [] = []
own_text choices before (s ∷ later) = s.instead
    ++ (lines_text (lines_after choices (up_to_own_end before s) (up_to_own_next before s))
    ++ own_text choices (up_to_own_next before s) later)

-- a line that may be in a stretch: any except an event's first line, because the lines after it would be read as its
-- records
abbrev pub may_come_instead : InputLine → Bool
may_come_instead line = is_long line || not (announces_records line.content)

-- the conditions of a stretch after some units: it begins between two units; the lost units leave the types in force
-- as they were; no line that replaces theirs begins an event; the kept units begin with an event or a full epoch; and
-- the text after the stretch, if any, begins on a line of its own
pub record IsOwnStretch (choices : Choices) (before : List (Item Epoch)) (s : OwnStretch)
    (later : List OwnStretch) : Type 0 where
  pub between : records_left before ≡ 0
  pub types : types_in_force (up_to_own_end before s) ≡ types_in_force before
  pub allowed : list_all may_come_instead (lines_of s.instead) ≡ true
  pub anew : BeginsAnew choices (up_to_own_end before s) s.kept
  pub ended : ((s.kept ≡ []) × (later ≡ []))
      ⊎ (list_all (λ (piece : Piece). piece.is_ended) (pieces_of s.instead) ≡ true)

-- each of some stretches meets these conditions, after the units up to it
abbrev pub AreOwnStretches : Choices → List (Item Epoch) → List OwnStretch → Type 0
AreOwnStretches choices before [] = ⊤
AreOwnStretches choices before (s ∷ later) =
    IsOwnStretch choices before s later × AreOwnStretches choices (up_to_own_next before s) later

-- the compact text of a file, damaged in some stretches after the header
pub record HasOwnStretches (file : List ℕ) (choices : Choices) (damaged : List ℕ) : Type 0 where
  pub file_good : IsReadWhole file choices
  pub before : List (Item Epoch)
  pub stretches : List OwnStretch
  pub parts : (read_of_file file choices).items ≡ with_own before stretches
  pub header : header_has_ended before ≡ true
  pub each : AreOwnStretches choices before stretches
  pub text : damaged ≡ lines_text (compact_lines choices before) ++ own_text choices before stretches

-- ---- the saved units

-- the lines written after these units, as `Saves` says
abbrev pub SavesOwn : List (Item Epoch) → List OwnStretch → List (List ℕ) → Type 0
SavesOwn before [] lines = lines ≡ []
SavesOwn before (s ∷ later) lines = (found : List Epoch) × (rest : List (List ℕ))
    × AllByRecursion (IsWholeEpoch (types_in_force before)) found
    × (lines ≡ flat_map printed_epoch found ++ (printed_items s.kept ++ rest))
    × SavesOwn (up_to_own_next before s) later rest

-- the output and messages of an expansion of such a text that skips faults, as `KeepsTheRest` says
pub record KeepsOwnRest (file : List ℕ) (choices : Choices)
    (damaged : List ℕ) (damage : HasOwnStretches file choices damaged) (result : FilterResult) : Type 0 where
  pub lines : List (List ℕ)
  pub saves : SavesOwn damage.before damage.stretches lines
  pub warnings : List At
  pub output : result.output ≡ lines_text (printed_items damage.before ++ lines)
  pub messages : result.messages ≡ notices_text warnings
  pub status : result.status ≡ status_after warnings None
  pub fault : result.fault ≡ None

-- ---- text that is cut off, or damaged from some place on

-- a text that begins with the lines of a file's first units, whole, whatever follows them
pub record BeginsWithOwn (file : List ℕ) (choices : Choices) (text : List ℕ) : Type 0 where
  pub file_good : IsReadWhole file choices
  pub before : List (Item Epoch)
  pub after : List (Item Epoch)
  pub more : List ℕ
  pub parts : (read_of_file file choices).items ≡ after ++ before
  pub text_is : text ≡ lines_text (compact_lines choices before) ++ more
