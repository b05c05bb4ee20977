-- The compact text of a file in order: its units, their RINEX text and their compact text, without any reader. Lists
-- of units have the newest first.
use Rattle.std.specs.Prelude.{◌≡◌, ◌≢◌, ◌<◌, ◌≤◌, ◌↔◌, if◌then◌else◌, ℕ, true, false, List, [], ◌∷◌, length, map, None}
use Rattle.std.specs.Prelude.{All, ⊤, Option}
use Rattle.std.specs.Option.{is_some}
use Rattle.crx_base.specs.meaning.Lines.{ends_with_return, lines_text}
use Rattle.crx_base.specs.declared.fault.At.{At}
use Rattle.crx_base.specs.declared.limits.TheConstants.{LINE_LIMIT}
use Rattle.crx_header.specs.meaning.EpochColumns.{is_event_line, records_in}
use Rattle.crx_rinex.specs.meaning.Epochs.{IsWholeEpoch}
use Rattle.crx_rinex.specs.meaning.Observations.{Epoch}
use Rattle.crx_rinex.specs.meaning.Units.{Unit as FileUnit, HeaderLine, EventLine, EventRecord, Observation}
use Rattle.crx_base.specs.meaning.Choices.{Choices, is_date}
use Rattle.crx_filter.specs.meaning.Compacted.{compact_lines, compacted}
use Rattle.crx_filter.specs.meaning.Expanded.{expanded}
use Rattle.crx_filter.specs.meaning.Items.{Item, Accepted, is_at_start, header_has_ended, records_left}
use Rattle.crx_filter.specs.meaning.Items.{records_count_types, types_in_force}
use Rattle.crx_filter.specs.meaning.Standard.{printed_items, IsStandard}
use Rattle.crx_filter.specs.meaning.UnitPlaces.{types_fault, header_line_fault}
use Rattle.crx_filter.specs.meaning.WayBack.{OfCopiedLine, written_well}
use Rattle.crx_runs.specs.meaning.Runs.{IsResult}
use Rattle.crx_runs.specs.meaning.Spans.{Device}

-- ---- a file in order

-- the conditions of a unit after some items: a header line is in the header and has no fault; an event's first line
-- is between units and has a valid count; a record is one that its event announces, and no bad types line if these
-- count; and an epoch is whole, with the types in force
abbrev pub IsInPlace : List (Item Epoch) → FileUnit Epoch → Type 0
IsInPlace before (HeaderLine line) = (header_has_ended before ≡ false)
    × (header_line_fault (is_at_start before) line ≡ None)
IsInPlace before (EventLine line) = (header_has_ended before ≡ true)
    × (records_left before ≡ 0) × (is_event_line line ≡ true) × (is_some (records_in line) ≡ true)
IsInPlace before (EventRecord line) = (header_has_ended before ≡ true)
    × (0 < records_left before) × ((if records_count_types before then types_fault line else None) ≡ None)
IsInPlace before (Observation epoch) = (header_has_ended before ≡ true)
    × (records_left before ≡ 0) × IsWholeEpoch (types_in_force before) epoch

-- a copied line has no LF, isn't too long, and has no CR at its end
pub record CanBeCopied (line : List ℕ) : Type 0 where
  pub one_line : All (λ b. b ≢ 10) line
  pub short : length line ≤ LINE_LIMIT
  pub no_return : ends_with_return line ≡ false

-- some units as items, with no warning between them
abbrev pub as_items : List (FileUnit Epoch) → List (Item Epoch)
as_items units = map Accepted units

-- each unit is in its place, and each copied line can be copied
abbrev pub AreInOrder : List (FileUnit Epoch) → Type 0
AreInOrder [] = ⊤
AreInOrder (unit ∷ before) =
    IsInPlace (as_items before) unit × OfCopiedLine CanBeCopied unit × AreInOrder before

-- some units make a file: they are in order, the header has ended, and no record of an event is missing
pub record MakeAFile (units : List (FileUnit Epoch)) : Type 0 where
  pub in_order : AreInOrder units
  pub header : header_has_ended (as_items units) ≡ true
  pub complete : records_left (as_items units) ≡ 0

-- ---- its two texts

-- the RINEX lines of some units, each followed by LF
abbrev pub rinex_text : List (FileUnit Epoch) → List ℕ
rinex_text units = lines_text (printed_items (as_items units))

-- the compact lines of some units, by the options of a compaction
abbrev pub compact_text : Choices → List (FileUnit Epoch) → List ℕ
compact_text choices units = lines_text (compact_lines choices (as_items units))

-- a compaction turns the RINEX text into the compact text, and an expansion turns it back, with any options
pub record StandForEachOther (units : List (FileUnit Epoch)) (compacting expanding : Choices) : Type 0 where
  pub compaction : compacted (rinex_text units) compacting ≡ written_well (compact_text compacting units)
  pub expansion : is_date compacting.date ≡ true
      → expanded (compact_text compacting units) expanding ≡ written_well (rinex_text units)

-- if units make a file, each of their two texts becomes the other
abbrev pub TextsOfUnits : List (FileUnit Epoch) → Choices → Choices → Type 0
TextsOfUnits units compacting expanding = MakeAFile units → StandForEachOther units compacting expanding

-- ---- in runs

-- a compaction of the RINEX text of units that make a file wrote their compact text, with no message and status 0
abbrev pub WritesUnits : Choices → Device → Device → ℕ → Option At → List ℕ → Type 0
WritesUnits choices writer messages status fault file =
    (units : List (FileUnit Epoch)) → MakeAFile units → file ≡ rinex_text units
    → IsResult (written_well (compact_text choices units)) writer messages status fault

-- an expansion of their compact text wrote their RINEX text, with no message and status 0
abbrev pub ReadsUnits : Device → Device → ℕ → Option At → List ℕ → Type 0
ReadsUnits writer messages status fault text =
    (units : List (FileUnit Epoch)) (compacting : Choices)
    → is_date compacting.date ≡ true → MakeAFile units → text ≡ compact_text compacting units
    → IsResult (written_well (rinex_text units)) writer messages status fault

-- ---- standard files

-- a file is standard if and only if it is the RINEX text of units that make a file
abbrev pub IsStandardByUnits : List ℕ → Type 0
IsStandardByUnits file =
    IsStandard file ↔ ((units : List (FileUnit Epoch)) × MakeAFile units × (file ≡ rinex_text units))
