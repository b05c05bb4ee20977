-- The promises of the expansion and the check for files, in the caller's memory. `holds result` says that a call
-- returned this result, and copied its texts into the caller's buffers.
use Rattle.std.specs.Prelude.{◌≡◌, ◌↔◌, ℕ, List, map, None, true}
use Rattle.crx_base.specs.meaning.Lines.{lines_of}
use Rattle.crx_base.specs.meaning.AsRead.{as_read}
use Rattle.crx_rinex.specs.meaning.Observations.{Epoch}
use Rattle.crx_base.specs.meaning.Choices.{Choices, is_date}
use Rattle.crx_filter.specs.meaning.Compacted.{whole_rinex, compacted}
use Rattle.crx_rinex.specs.meaning.Units.{Unit as FileUnit}
use Rattle.crx_filter.specs.meaning.Damage.{IsDamaged, IsSalvaged}
use Rattle.crx_filter.specs.meaning.Stretches.{Stretch}
use Rattle.crx_filter.specs.meaning.WayBack.{HasNormalForm, HaveNoReturns, written_well}
use Rattle.crx_filter.specs.meaning.Reading.{WholeReading}
use Rattle.crx_runs.specs.meaning.Results.{FilterResult}
use Rattle.crx_base.specs.meaning.Lines.{lines_text}
use Rattle.crx_filter.specs.meaning.Standard.{IsStandard, normal_form, printed_items, whole_of}

-- ---- the way back

-- the expansion of a file's compact text, compacted with any options, restores the file
pub record CallBringsBack (holds : FilterResult → Type 0) (file : List ℕ) (compacting : Choices) : Type 0 where
  -- a standard file byte for byte, with no message and status 0
  pub standard : IsStandard file → holds (written_well file)
  -- any other file that is read to its good end in its normal form, unless a copied line ends in CR
  pub normal : HasNormalForm file → holds (written_well (normal_form file))
  -- if faults were skipped, all units that were accepted, as RINEX prints them
  pub accepted :
      let whole : WholeReading Epoch = whole_rinex compacting.skip (map as_read (lines_of file)) in
      whole.fault ≡ None → HaveNoReturns whole.items → holds (written_well (lines_text (printed_items whole.items)))

abbrev pub CallBringsBackWhatWasCompacted : (FilterResult → Type 0) → List ℕ → Type 0
CallBringsBackWhatWasCompacted holds text =
    (file : List ℕ) (compacting : Choices) → is_date compacting.date ≡ true → text ≡ (compacted file compacting).output
    → CallBringsBack holds file compacting

-- ---- damage

-- an expansion that skips faults saves everything except the damaged block, whoever wrote the text
abbrev pub CallSavesAllElse : (FilterResult → Type 0) → List ℕ → Type 0
CallSavesAllElse holds damaged =
    (before : List (FileUnit Epoch)) (s : Stretch) (damage : IsDamaged before s damaged)
    → (saved : FilterResult) × IsSalvaged before s damaged damage saved × holds saved

-- ---- standard files

-- if a file is read to its good end, the status of its check is 0 if and only if it is standard
abbrev pub CallJudgesStandard : ℕ → List ℕ → Type 0
CallJudgesStandard status file = (whole_of file).fault ≡ None → (status ≡ 0) ↔ IsStandard file
