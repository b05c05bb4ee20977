-- The promises of whole runs, and of calls over whole inputs, stated by their results. `holds result`: the run wrote,
-- reported and returned this result.
use Rattle.std.specs.Prelude.{◌≡◌, ◌↔◌, ℕ, Bool, List, Option, None, true}
use Rattle.crx_base.specs.declared.fault.At.{At}
use Rattle.crx_base.specs.meaning.Choices.{Choices, is_date}
use Rattle.crx_rinex.specs.meaning.Observations.{Epoch}
use Rattle.crx_rinex.specs.meaning.Units.{Unit as FileUnit}
use Rattle.crx_filter.specs.meaning.Accounts.{AccountsForFile, AccountsForText, HasShortBlocks}
use Rattle.crx_filter.specs.meaning.CompactText.{IsCompactText, ReadsAnyText}
use Rattle.crx_filter.specs.meaning.Fate.{LeavesLinesOut}
use Rattle.crx_filter.specs.meaning.Compacted.{compacted}
use Rattle.crx_filter.specs.meaning.Lossless.{SaysThatItComesBack}
use Rattle.crx_filter.specs.meaning.Standard.{IsStandard, checked, normal_form, whole_of}
use Rattle.crx_filter.specs.meaning.UnitsAndText.{MakeAFile, compact_text, rinex_text}
use Rattle.crx_filter.specs.meaning.WayBack.{HasNormalForm, written_well}
use Rattle.crx_filter.specs.meaning.WrittenStandard.{has_plain_lines}
use Rattle.crx_runs.specs.meaning.Results.{FilterResult}
use Rattle.crx_runs.specs.meaning.Runs.{IsResult}
use Rattle.crx_runs.specs.meaning.Spans.{Device}

-- a run has a result for which `is_so` holds
abbrev pub HasResult : (FilterResult → Type 0) → (FilterResult → Type 0) → Type 0
HasResult is_so holds = (result : FilterResult) × holds result × is_so result

-- a run with these devices has a result for which, with its input, `is_so` holds
abbrev pub RanWith : (List ℕ → FilterResult → Type 0) → Device → Device → ℕ → Option At → List ℕ → Type 0
RanWith is_so writer messages status fault input =
    HasResult (is_so input) (λ result. IsResult result writer messages status fault)

-- the promises of a compaction of `file`
pub record CompactionKeeps (holds : FilterResult → Type 0) (choices : Choices) (file : List ℕ) : Type 0 where
  -- for the RINEX text of units that make a file its output is their compact text, with no message and status 0
  pub units : (units : List (FileUnit Epoch)) → MakeAFile units → file ≡ rinex_text units
      → holds (written_well (compact_text choices units))
  -- its result is the result for every other file of the same normal form
  pub canonical : (other : List ℕ) → HasNormalForm file → HasNormalForm other
      → normal_form other ≡ normal_form file → holds (compacted other choices)
  -- no line was lost in silence
  pub accounted : HasResult (AccountsForFile choices file) holds
  -- skipping faults is the same as leaving lines out
  pub left_out : HasResult (LeavesLinesOut choices file) holds
  -- blocks are short
  pub blocks : HasResult (HasShortBlocks choices file) holds

-- for the compact text of a file that passes a check, an expansion has the file as its output, with no message and
-- status 0
abbrev pub GivesBackWhatPasses : (FilterResult → Type 0) → List ℕ → Type 0
GivesBackWhatPasses holds text = (file : List ℕ) (compacting : Choices) → is_date compacting.date ≡ true
    → (checked file).status ≡ 0 → text ≡ (compacted file compacting).output → holds (written_well file)

-- the other promises of an expansion of `text`. `skip`: whether it skips faults
pub record ExpansionKeeps (holds : FilterResult → Type 0) (skip : Bool) (text : List ℕ) : Type 0 where
  -- for the compact text of units that make a file its output is their RINEX text
  pub units : (units : List (FileUnit Epoch)) (compacting : Choices) → is_date compacting.date ≡ true
      → MakeAFile units → text ≡ compact_text compacting units → holds (written_well (rinex_text units))
  -- compact text of a file is expanded to that file, whoever wrote it, and no other text has status 0
  pub any_writer : ReadsAnyText holds text
  pub no_other : HasResult (λ result. result.status ≡ 0 → IsCompactText text) holds
  -- if no fault ended it, its output is a standard file, unless a line of it ends in CR
  pub standard : HasResult
      (λ result. result.fault ≡ None → has_plain_lines result.output ≡ true → IsStandard result.output) holds
  -- no line was lost in silence
  pub accounted : HasResult (AccountsForText skip text) holds

-- the promises of a check of `file`, by its status
pub record CheckKeeps (status : ℕ) (file : List ℕ) : Type 0 where
  pub lossless : SaysThatItComesBack status file
  pub standard : (whole_of file).fault ≡ None → (status ≡ 0) ↔ IsStandard file
