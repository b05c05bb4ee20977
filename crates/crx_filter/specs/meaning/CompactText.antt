-- Compact text of a file's units, whoever wrote it: Hatanaka's Compact RINEX 3.0. Its first two lines are followed by
-- the lines of each unit in order (RINEX 3.05, sections 5 and 6); the lines of an epoch are any that a writer may
-- choose. Lists of units have the newest first.
use Rattle.std.specs.Prelude.{◌≡◌, ℕ, true, List, [], ◌∷◌, ◌++◌, map, Option, None, Some, Ok, ⊤, if◌then◌else◌}
use Rattle.crx_base.specs.meaning.AsRead.{Content, as_read}
use Rattle.crx_base.specs.meaning.Lines.{lines_of}
use Rattle.crx_rinex.specs.meaning.Observations.{Epoch}
use Rattle.crx_rinex.specs.meaning.Units.{Unit as FileUnit, HeaderLine, EventLine, EventRecord, Observation}
use Rattle.crx_compact.specs.meaning.AnyWriter.{WrittenEpoch, epoch_now, AreEpochLines}
use Rattle.crx_filter.specs.meaning.Expanded.{crinex_version, crinex_program, empties_state}
use Rattle.crx_filter.specs.meaning.Items.{Item, header_has_ended, records_count_types, records_left}
use Rattle.crx_filter.specs.meaning.UnitsAndText.{IsInPlace, as_items, rinex_text}
use Rattle.crx_filter.specs.meaning.WayBack.{written_well}
use Rattle.crx_runs.specs.meaning.Results.{FilterResult}

-- ---- lines

--- the lines of a unit after some items. `before`: the epoch that these lines may continue from; `now`: the epoch
--- that later lines may continue from. A unit of one line is copied. An event leaves the previous epoch, unless types
--- change in the event. An epoch's lines are any that encode it
abbrev pub AreLinesOfUnit : List (Item Epoch) → Option WrittenEpoch → FileUnit Epoch → List (List ℕ) → Option WrittenEpoch → Type 0
AreLinesOfUnit items before (HeaderLine line) lines now = (lines ≡ line ∷ []) × (now ≡ None)
AreLinesOfUnit items before (EventLine line) lines now = (lines ≡ line ∷ []) × (now ≡ before)
AreLinesOfUnit items before (EventRecord line) lines now = (lines ≡ line ∷ [])
    × (now ≡ (if empties_state (records_count_types items) line then None else before))
AreLinesOfUnit items before (Observation epoch) lines now = (written : WrittenEpoch)
    × (epoch_now written ≡ epoch) × (now ≡ Some written) × AreEpochLines before written lines

--- the lines of all units, in order
abbrev pub AreLinesOf : List (FileUnit Epoch) → List (List ℕ) → Option WrittenEpoch → Type 0
AreLinesOf [] lines now = (lines ≡ []) × (now ≡ None)
AreLinesOf (unit ∷ units) lines now = (before : Option WrittenEpoch) × (first : List (List ℕ)) × (more : List (List ℕ))
    × AreLinesOf units first before × (lines ≡ first ++ more) × AreLinesOfUnit (as_items units) before unit more now

--- a text whose lines, none too long, are two lines that compact text may begin with, and lines of these units. Each
--- line may end with LF or with CR and LF, and the last one with neither
pub record IsCompactTextOf (units : List (FileUnit Epoch)) (text : List ℕ) : Type 0 where
  pub version : List ℕ
  pub program : List ℕ
  pub lines : List (List ℕ)
  pub last : Option WrittenEpoch
  pub cut : map as_read (lines_of text) ≡ map Content (version ∷ program ∷ lines)
  pub first : crinex_version version ≡ Ok version
  pub second : crinex_program program ≡ Ok program
  pub written : AreLinesOf units lines last

-- ---- whole files

--- each unit is in its place after the units before it
abbrev pub AreUnitsInPlace : List (FileUnit Epoch) → Type 0
AreUnitsInPlace [] = ⊤
AreUnitsInPlace (unit ∷ before) = IsInPlace (as_items before) unit × AreUnitsInPlace before

--- the units of a whole file: each is in its place, the header has ended, and no record of an event is missing
pub record AreWholeFile (units : List (FileUnit Epoch)) : Type 0 where
  pub in_place : AreUnitsInPlace units
  pub header : header_has_ended (as_items units) ≡ true
  pub complete : records_left (as_items units) ≡ 0

--- a text is compact text of a whole file
abbrev pub IsCompactText : List ℕ → Type 0
IsCompactText text = (units : List (FileUnit Epoch)) × AreWholeFile units × IsCompactTextOf units text

--- compact text of a whole file is expanded to that file, whoever wrote it: the result is the RINEX text of the
--- units, with no message and status 0
abbrev pub ReadsAnyText : (FilterResult → Type 0) → List ℕ → Type 0
ReadsAnyText is_result text = (units : List (FileUnit Epoch)) → AreWholeFile units → IsCompactTextOf units text
    → is_result (written_well (rinex_text units))
