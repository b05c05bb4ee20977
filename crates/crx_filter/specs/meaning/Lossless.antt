-- Losslessness, stated only by the results of the three calls: a file that passes a check is restored from its
-- compact text. Nothing about RINEX or compact text has to be known for it.
use Rattle.std.specs.Prelude.{◌≡◌, ℕ, List, Option, true}
use Rattle.crx_base.specs.declared.fault.At.{At}
use Rattle.crx_base.specs.meaning.Choices.{Choices, is_date}
use Rattle.crx_filter.specs.meaning.Compacted.{compacted}
use Rattle.crx_filter.specs.meaning.Expanded.{expanded}
use Rattle.crx_filter.specs.meaning.Standard.{checked}
use Rattle.crx_filter.specs.meaning.WayBack.{written_well}
use Rattle.crx_runs.specs.meaning.Results.{FilterResult}
use Rattle.crx_runs.specs.meaning.Runs.{IsResult}
use Rattle.crx_runs.specs.meaning.Spans.{Device}

-- the expansion of a file's compact text is `written_well file`: its output is the file byte for byte, with no
-- message, status 0 and no fault. The compaction and the expansion may have any options, with a valid date
abbrev pub ComesBackWhole : List ℕ → Type 0
ComesBackWhole file = (compacting expanding : Choices) → is_date compacting.date ≡ true
    → expanded (compacted file compacting).output expanding ≡ written_well file

-- every file that passes a check, with status 0, is restored
abbrev pub WhatPassesComesBack : Type 0
WhatPassesComesBack = (file : List ℕ) → (checked file).status ≡ 0 → ComesBackWhole file

-- status 0 of a check says that its file is restored
abbrev pub SaysThatItComesBack : ℕ → List ℕ → Type 0
SaysThatItComesBack status file = status ≡ 0 → ComesBackWhole file

-- an expansion of the compact text of a file that passes a check wrote the file, with no message and status 0
abbrev pub BringsBackWhatPasses : Device → Device → ℕ → Option At → List ℕ → Type 0
BringsBackWhatPasses writer messages status fault text =
    (file : List ℕ) (compacting : Choices)
    → is_date compacting.date ≡ true → (checked file).status ≡ 0 → text ≡ (compacted file compacting).output
    → IsResult (written_well file) writer messages status fault

-- a run wrote the output that is defined for its input
abbrev pub WritesOutputOf : (List ℕ → FilterResult) → Device → List ℕ → Type 0
WritesOutputOf result_of writer input = writer.took (result_of input).output
