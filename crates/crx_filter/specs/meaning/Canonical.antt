-- Compact text is canonical: two files have the same compact text if and only if they say the same.
use Rattle.std.specs.Prelude.{◌≡◌, ◌↔◌, ℕ, List, Option, true}
use Rattle.crx_base.specs.declared.fault.At.{At}
use Rattle.crx_base.specs.meaning.Choices.{Choices, is_date}
use Rattle.crx_filter.specs.meaning.Compacted.{compacted}
use Rattle.crx_filter.specs.meaning.Standard.{normal_form}
use Rattle.crx_filter.specs.meaning.WayBack.{HasNormalForm}
use Rattle.crx_runs.specs.meaning.Runs.{IsResult}
use Rattle.crx_runs.specs.meaning.Spans.{Device}

-- a file's normal form has the same compaction as the file, with any options
abbrev pub CompactsAsNormal : List ℕ → Choices → Type 0
CompactsAsNormal file choices =
    HasNormalForm file → compacted (normal_form file) choices ≡ compacted file choices

-- two files have the same compact text if and only if they have the same normal form
abbrev pub IsCanonical : List ℕ → List ℕ → Choices → Type 0
IsCanonical one other choices =
    is_date choices.date ≡ true → HasNormalForm one → HasNormalForm other
    → ((compacted one choices).output ≡ (compacted other choices).output)
    ↔ (normal_form one ≡ normal_form other)

-- for a file, a compaction wrote, reported and returned the result for every other file of the same normal form
abbrev pub DependsOnNormalForm : Choices → Device → Device → ℕ → Option At → List ℕ → Type 0
DependsOnNormalForm choices writer messages status fault file =
    (other : List ℕ) → HasNormalForm file → HasNormalForm other → normal_form other ≡ normal_form file
    → IsResult (compacted other choices) writer messages status fault
