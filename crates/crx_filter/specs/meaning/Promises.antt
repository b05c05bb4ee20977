-- Promises about runs: an expansion restores files and saves undamaged units, and a check recognizes standard files.
use Rattle.std.specs.Prelude.{◌≡◌, ◌≤◌, ◌↔◌, ℕ, List, [], ◌++◌, length, map, Option, None, true}
use Rattle.crx_base.specs.meaning.Lines.{lines_of}
use Rattle.crx_base.specs.meaning.AsRead.{as_read}
use Rattle.crx_base.specs.declared.fault.At.{At}
use Rattle.crx_base.specs.declared.fault.Fault.TheVariants.{OutOfMemory}
use Rattle.crx_base.specs.declared.limits.TheConstants.{INPUT_LIMIT}
use Rattle.crx_rinex.specs.meaning.Observations.{Epoch}
use Rattle.crx_base.specs.meaning.Choices.{Choices, is_date}
use Rattle.crx_filter.specs.meaning.Compacted.{whole_rinex, compacted}
use Rattle.crx_rinex.specs.meaning.Units.{Unit as FileUnit}
use Rattle.crx_filter.specs.meaning.Damage.{IsDamaged, IsSalvaged}
use Rattle.crx_filter.specs.meaning.Stretches.{Stretch}
use Rattle.crx_filter.specs.meaning.Expanded.{expanded}
use Rattle.crx_filter.specs.meaning.WayBack.{HasNormalForm, HaveNoReturns, written_well}
use Rattle.crx_filter.specs.meaning.Reading.{WholeReading}
use Rattle.crx_runs.specs.meaning.Results.{FilterResult}
use Rattle.crx_base.specs.meaning.Lines.{lines_text}
use Rattle.crx_filter.specs.meaning.Standard.{Findings, IsStandard, normal_form, printed_items, report_lines, whole_of}
use Rattle.crx_runs.specs.meaning.Spans.{Input, Device}
use Rattle.crx_runs.specs.meaning.Runs.{FaultIs, IsResult, NoneFailed, Ran}

-- a promise about whole inputs holds of a run whose reader returned the bytes `given`
pub record IsPromiseKept (promise : List ℕ
    → Type 0) (input : Input) (given : List ℕ) (writer messages : Device) (fault : Option At) : Type 0 where
  -- if no device failed and memory didn't run out: for every input within the limit that begins with these bytes, and
  -- only for these bytes if the reader has reported their end
  pub whole : NoneFailed input.start.failures input.counted.failures
      → NoneFailed writer.before.failures writer.after.failures
      → NoneFailed messages.before.failures messages.after.failures → (FaultIs OutOfMemory fault → ⊥)
      → (rest : List ℕ) → (input.at_end → rest ≡ []) → length (given ++ rest) ≤ INPUT_LIMIT → promise (given ++ rest)
  -- if there is no fault: for these bytes
  pub good : fault ≡ None → promise given

-- the reader returned some bytes, and with these the run keeps a promise about whole inputs
abbrev pub Keeps : (List ℕ → Type 0) → Input → Device → Device → Option At → Type 0
Keeps promise input writer messages fault = (given : List ℕ)
    × input.gave given × IsPromiseKept promise input given writer messages fault

-- the same of a run that has ended, for a promise about its output, messages, status and fault
abbrev pub KeepsPromise : (Device → Device → ℕ → Option At → List ℕ → Type 0) → Ran → Type 0
KeepsPromise promise run = Keeps (promise run.writer run.messages run.status run.fault) run.input run.writer
    run.messages run.fault

-- ---- the way back

-- an expansion restores a file from the output of its compaction, with any options
pub record BringsBack (writer messages : Device)
    (status : ℕ) (fault : Option At) (text : List ℕ) (file : List ℕ) (compacting : Choices) : Type 0 where
  -- a standard file is restored byte for byte, with no message and status 0
  pub standard : IsStandard file → IsResult (written_well file) writer messages status fault
  -- any other file that is read to its end without a fault is restored in its normal form, unless a copied line ends
  -- in CR
  pub normal : HasNormalForm file → IsResult (written_well (normal_form file)) writer messages status fault
  -- with skipped faults, too, all accepted units are restored as RINEX prints them, unless a copied line ends in CR
  pub accepted :
      let whole : WholeReading Epoch = whole_rinex compacting.skip (map as_read (lines_of file)) in
      whole.fault ≡ None → HaveNoReturns whole.items
      → IsResult (written_well (lines_text (printed_items whole.items))) writer messages status fault

abbrev pub BringsBackWhatWasCompacted : Device → Device → ℕ → Option At → List ℕ → Type 0
BringsBackWhatWasCompacted writer messages status fault text =
    (file : List ℕ) (compacting : Choices) → is_date compacting.date ≡ true → text ≡ (compacted file compacting).output
    → BringsBack writer messages status fault text file compacting

-- ---- damage

-- an expansion that skips faults saves everything except the damaged block, whoever wrote the text: it wrote,
-- reported and returned a result that `IsSalvaged` describes
abbrev pub SavesAllElse : Choices → Device → Device → ℕ → Option At → List ℕ → Type 0
SavesAllElse expanding writer messages status fault damaged =
    (before : List (FileUnit Epoch)) (s : Stretch) → expanding.skip ≡ true → (damage : IsDamaged before s damaged)
    → (saved : FilterResult) × IsSalvaged before s damaged damage saved
    × IsResult saved writer messages status fault

-- ---- standard files

-- a check said whether a file is standard
pub record IsJudged (writer : Device) (status : ℕ) (file : List ℕ) : Type 0 where
  -- its report was written, and the last line says yes if and only if the status is 0
  pub found : Findings
  pub report : writer.took (lines_text (report_lines found))
  pub says_yes : (status ≡ 0) ↔ (found.not_standard ≡ None)
  -- the status is 0 if and only if the file is standard
  pub standard : (status ≡ 0) ↔ IsStandard file
  -- the status is 0 if and only if expanding the file's compact text restores the file byte for byte, with any
  -- options
  pub comes_back : (compacting expanding : Choices) → is_date compacting.date ≡ true
      → (status ≡ 0) ↔ ((expanded (compacted file compacting).output expanding).output ≡ file)

-- a check judges every file that is read to its end without a fault
abbrev pub JudgesStandard : Device → ℕ → List ℕ → Type 0
JudgesStandard writer status file = (whole_of file).fault ≡ None → IsJudged writer status file
