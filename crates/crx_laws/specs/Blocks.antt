-- Blocks can be expanded separately: the same text is expanded alike after two texts that leave the same types in
-- force.
use Rattle.std.specs.Prelude.{ℕ, ◌≡◌, Bool, true, List, ◌++◌, Option, None, map}
use Rattle.std.specs.List.{list_all}
use Rattle.std.specs.Option.{option_map}
use Rattle.crx_base.specs.meaning.Lines.{Piece, pieces_of, lines_of, lines_text}
use Rattle.crx_base.specs.meaning.AsRead.{Content, as_read}
use Rattle.crx_base.specs.declared.fault.At.{At}
use Rattle.crx_base.specs.declared.fault.Fault.{Fault}
use Rattle.crx_filter.specs.Anew.{starts_anew}
use Rattle.crx_filter.specs.OwnStretches.{read_of_file, IsReadWhole}
use Rattle.crx_compact.specs.meaning.CompactPlaces.{ReadEpoch}
use Rattle.crx_base.specs.meaning.Choices.{Choices}
use Rattle.crx_rinex.specs.meaning.Observations.{Epoch}
use Rattle.crx_rinex.specs.meaning.Units.{Unit as FileUnit}
use Rattle.crx_compact.specs.meaning.AnyWriter.{WrittenEpoch}
use Rattle.crx_filter.specs.meaning.CompactText.{AreUnitsInPlace, AreWholeFile}
use Rattle.crx_filter.specs.meaning.Stretches.{AreLinesOn, BeginsWithUnits}
use Rattle.crx_filter.specs.meaning.UnitsAndText.{as_items}
use Rattle.crx_filter.specs.meaning.Compacted.{compacted}
use Rattle.crx_filter.specs.Damage.{BeginsAnew, lines_after}
use Rattle.crx_filter.specs.meaning.Expanded.{whole_compact, expanded}
use Rattle.crx_filter.specs.meaning.Items.{Item, header_has_ended, records_left, types_in_force}
use Rattle.crx_filter.specs.meaning.Reading.{WholeReading}

-- whether each line of a text ends with LF
abbrev pub has_whole_lines : List ℕ → Bool
has_whole_lines text = list_all (λ (piece : Piece). piece.is_ended) (pieces_of text)

-- the reading of compact text
abbrev pub read_of_text : List ℕ → Choices → WholeReading ReadEpoch
read_of_text text choices = whole_compact choices.skip (map as_read (lines_of text))

-- a text that can be continued: its lines end with LF, and no fault ends its expansion
pub record CanGoOn (text : List ℕ) (choices : Choices) : Type 0 where
  pub lines : has_whole_lines text ≡ true
  pub good : (read_of_text text choices).fault ≡ None

-- two texts that leave the same observation types in force
abbrev pub HaveSameTypes : List ℕ → List ℕ → Choices → Type 0
HaveSameTypes one other choices =
    types_in_force (read_of_text one choices).items ≡ types_in_force (read_of_text other choices).items

-- a fault without the number of its line
abbrev pub kind_of : Option At → Option Fault
kind_of fault = option_map (λ (at : At). at.fault) fault

-- a text is expanded alike after two others: to the same lines, with the same fault or none
pub record GoOnWith (more : List ℕ) (one other : List ℕ) (choices : Choices) : Type 0 where
  pub lines : List (List ℕ)
  pub first : (expanded (one ++ more) choices).output ≡ (expanded one choices).output ++ lines_text lines
  pub second : (expanded (other ++ more) choices).output ≡ (expanded other choices).output ++ lines_text lines
  pub ended : kind_of (expanded (one ++ more) choices).fault
      ≡ kind_of (expanded (other ++ more) choices).fault

-- this is true for texts of any writer, if the first line that follows starts again
abbrev pub StandAlone : List ℕ → List ℕ → List ℕ → Choices → Type 0
StandAlone more one other choices =
    CanGoOn one choices → CanGoOn other choices → HaveSameTypes one other choices
    → starts_anew 0 (map as_read (lines_of more)) ≡ true → GoOnWith more one other choices

-- ---- a piece of a file, of any writer

-- the compact text of a file, for example only its header, followed by the lines of units after other units. These
-- lines use no earlier epoch, so the first epoch among them is full. The file leaves the observation types in force
-- that are in force before these units
pub record IsPieceAfter (front before piece : List (FileUnit Epoch)) (text : List ℕ) : Type 0 where
  pub file : AreWholeFile front
  pub in_place : AreUnitsInPlace (piece ++ before)
  pub header : header_has_ended (as_items before) ≡ true
  pub begins : records_left (as_items before) ≡ 0
  pub ends : records_left (as_items (piece ++ before)) ≡ 0
  pub types : types_in_force (as_items front) ≡ types_in_force (as_items before)
  pub begun : BeginsWithUnits front text
  pub lines : List (List ℕ)
  pub last : Option WrittenEpoch
  pub written : AreLinesOn before None piece lines last
  pub rest : begun.more ≡ map Content lines

-- ---- blocks that a compaction wrote

-- the compact text of some units of a file, from an event or a full epoch on, follows the compact text of another file,
-- for example only the header, which leaves the types in force that are in force before these units
pub record IsOwnPieceAfter (file front : List ℕ) (choices : Choices) (text : List ℕ) : Type 0 where
  pub file_good : IsReadWhole file choices
  pub front_good : IsReadWhole front choices
  pub before : List (Item Epoch)
  pub piece : List (Item Epoch)
  pub later : List (Item Epoch)
  pub parts : (read_of_file file choices).items ≡ later ++ (piece ++ before)
  pub header : header_has_ended before ≡ true
  pub whole : (records_left before ≡ 0) × (records_left (piece ++ before) ≡ 0)
  pub types : types_in_force (read_of_file front choices).items ≡ types_in_force before
  pub anew : BeginsAnew choices before piece
  pub text_is : text
      ≡ (compacted front choices).output ++ lines_text (lines_after choices before (piece ++ before))
