-- Damaged compact text, whoever wrote it: in any number of stretches after the header, other lines replace the lines
-- of some units. Lists of units have the newest first.
use Rattle.std.specs.Prelude.{ℕ, ◌≡◌, Bool, true, not, ◌&&◌, ⊤, List, [], ◌∷◌, ◌++◌, Option, None, Ok, map, is_some}
use Rattle.std.specs.List.{AllByRecursion, list_all, flat_map}
use Rattle.crx_base.specs.declared.fault.At.{At}
use Rattle.crx_base.specs.meaning.AsRead.{ReadLine, Content, Overlong, as_read}
use Rattle.crx_base.specs.meaning.Choices.{Choices}
use Rattle.crx_base.specs.meaning.Lines.{lines_of, lines_text}
use Rattle.crx_header.specs.meaning.EpochColumns.{is_event_line, records_in}
use Rattle.crx_rinex.specs.meaning.Epochs.{IsWholeEpoch}
use Rattle.crx_rinex.specs.meaning.Observations.{Epoch}
use Rattle.crx_rinex.specs.meaning.Printing.{printed_epoch}
use Rattle.crx_rinex.specs.meaning.Units.{Unit as FileUnit}
use Rattle.crx_compact.specs.meaning.AnyWriter.{WrittenEpoch}
use Rattle.crx_filter.specs.meaning.CompactText.{AreLinesOfUnit, AreLinesOf, AreUnitsInPlace, AreWholeFile}
use Rattle.crx_filter.specs.meaning.Expanded.{crinex_version, crinex_program}
use Rattle.crx_filter.specs.meaning.Items.{header_has_ended, records_left, types_in_force}
use Rattle.crx_filter.specs.meaning.Standard.{printed_items}
use Rattle.crx_filter.specs.meaning.UnitsAndText.{as_items, rinex_text}
use Rattle.crx_runs.specs.meaning.Messages.{notices_text}
use Rattle.crx_runs.specs.meaning.Results.{FilterResult, status_after}
use Rattle.crx_runs.specs.meaning.Runs.{IsResult}
use Rattle.crx_runs.specs.meaning.Spans.{Device}

-- ---- text that is cut off, or damaged from some place on

-- a text that begins with the lines of some units, whole, whoever wrote them and whatever follows them
pub record BeginsWithUnits (units : List (FileUnit Epoch)) (text : List ℕ) : Type 0 where
  pub version : List ℕ
  pub program : List ℕ
  pub lines : List (List ℕ)
  pub more : List ReadLine
  pub last : Option WrittenEpoch
  pub cut : map as_read (lines_of text) ≡ map Content (version ∷ program ∷ lines) ++ more
  pub first : crinex_version version ≡ Ok version
  pub second : crinex_program program ≡ Ok program
  pub written : AreLinesOf units lines last

-- ---- stretches

-- the lines of units that follow the units of `block`. `start`: the epoch that the first of them may continue from;
-- `now`: the epoch that later lines may continue from
abbrev pub AreLinesOn : List (FileUnit Epoch) → Option WrittenEpoch → List (FileUnit Epoch) → List (List ℕ)
    → Option WrittenEpoch → Type 0
AreLinesOn block start [] lines now = (lines ≡ []) × (now ≡ start)
AreLinesOn block start (unit ∷ units) lines now =
    (before : Option WrittenEpoch) × (first : List (List ℕ)) × (more : List (List ℕ))
    × AreLinesOn block start units first before × (lines ≡ first ++ more)
    × AreLinesOfUnit (as_items (units ++ block)) before unit more now

-- a damaged stretch: the lost units, the lines that replace theirs, the units that are kept after it, up to the next
-- stretch or the end, and their lines
pub record Stretch : Type 0 where
  pub lost : List (FileUnit Epoch)
  pub instead : List ReadLine
  pub kept : List (FileUnit Epoch)
  pub lines : List (List ℕ)

-- the units up to a stretch's end, after which the kept ones begin
abbrev pub up_to_end : List (FileUnit Epoch) → Stretch → List (FileUnit Epoch)
up_to_end before s = s.lost ++ before

-- the units up to the next stretch
abbrev pub up_to_next : List (FileUnit Epoch) → Stretch → List (FileUnit Epoch)
up_to_next before s = s.kept ++ up_to_end before s

-- all units: those before some stretches, and those of the stretches
abbrev pub with_stretches : List (FileUnit Epoch) → List Stretch → List (FileUnit Epoch)
with_stretches before [] = before
with_stretches before (s ∷ later) = with_stretches (up_to_next before s) later

-- the lines of the damaged text in its stretches, and between them
abbrev pub stretches_lines : List Stretch → List ReadLine
stretches_lines [] = []
stretches_lines (s ∷ later) = (s.instead ++ map Content s.lines) ++ stretches_lines later

-- whether a line is an event's first line that says how many records follow; without a valid count it is a bad line,
-- and skipped
abbrev pub announces_records : List ℕ → Bool
announces_records line = is_event_line line && is_some (records_in line)

-- a line that may be in a stretch: any except an event's first line, because the lines after it would be read as its
-- records
abbrev pub begins_no_event : ReadLine → Bool
begins_no_event Overlong = true
begins_no_event (Content line) = not (announces_records line)

-- the conditions of a stretch after some units: it neither begins nor ends inside an event; the lost units leave the
-- types in force as they were; no line that replaces theirs begins an event; and the kept lines continue from no
-- epoch, so that the first epoch among them is full
pub record IsStretch (before : List (FileUnit Epoch)) (s : Stretch) : Type 0 where
  pub begins : records_left (as_items before) ≡ 0
  pub ends : records_left (as_items (up_to_end before s)) ≡ 0
  pub types : types_in_force (as_items (up_to_end before s)) ≡ types_in_force (as_items before)
  pub allowed : list_all begins_no_event s.instead ≡ true
  pub last : Option WrittenEpoch
  pub written : AreLinesOn (up_to_end before s) None s.kept s.lines last

-- each of some stretches meets these conditions, after the units up to it
abbrev pub AreStretches : List (FileUnit Epoch) → List Stretch → Type 0
AreStretches before [] = ⊤
AreStretches before (s ∷ later) = IsStretch before s × AreStretches (up_to_next before s) later

-- the compact text of a file, whoever wrote it, damaged in these stretches after the lines of the units `before`
pub record HasStretches (before : List (FileUnit Epoch)) (stretches : List Stretch) (damaged : List ℕ) : Type 0 where
  pub file : AreWholeFile (with_stretches before stretches)
  pub header : header_has_ended (as_items before) ≡ true
  pub text : BeginsWithUnits before damaged
  pub each : AreStretches before stretches
  pub rest : text.more ≡ stretches_lines stretches

-- ---- the saved units

-- the lines written after the units `before`: for each stretch some whole epochs, by the types in force there, and
-- then exactly the kept units
abbrev pub Saves : List (FileUnit Epoch) → List Stretch → List (List ℕ) → Type 0
Saves before [] lines = lines ≡ []
Saves before (s ∷ later) lines = (found : List Epoch) × (rest : List (List ℕ))
    × AllByRecursion (IsWholeEpoch (types_in_force (as_items before))) found
    × (lines ≡ flat_map printed_epoch found ++ (printed_items (as_items s.kept) ++ rest))
    × Saves (up_to_next before s) later rest

-- the output and messages of an expansion of such a text that skips faults: exactly the units before the first
-- stretch, and the saved lines after them. No fault ends it, and all its messages are warnings
pub record KeepsTheRest (before : List (FileUnit Epoch)) (stretches : List Stretch) (result : FilterResult)
    : Type 0 where
  pub lines : List (List ℕ)
  pub saves : Saves before stretches lines
  pub warnings : List At
  pub output : result.output ≡ lines_text (printed_items (as_items before) ++ lines)
  pub messages : result.messages ≡ notices_text warnings
  pub status : result.status ≡ status_after warnings None
  pub fault : result.fault ≡ None

-- ---- promises about runs

-- an expansion that skips faults keeps all units outside the damaged stretches: it wrote, reported and returned a
-- result that `KeepsTheRest` describes
abbrev pub KeepsUndamaged : Choices → Device → Device → ℕ → Option At → List ℕ → Type 0
KeepsUndamaged expanding writer messages status fault damaged =
    (before : List (FileUnit Epoch)) (stretches : List Stretch)
    → expanding.skip ≡ true → HasStretches before stretches damaged
    → (saved : FilterResult) × KeepsTheRest before stretches saved × IsResult saved writer messages status fault

-- an expansion writes all units that are whole at the beginning of its text, whatever follows them
abbrev pub WritesWholeUnits : Device → List ℕ → Type 0
WritesWholeUnits writer text =
    (units : List (FileUnit Epoch)) → AreUnitsInPlace units → BeginsWithUnits units text
    → (rest : List ℕ) × writer.took (rinex_text units ++ rest)
