-- Additions to meaning/CompactText: the laws of compact text, whoever wrote it.
use Rattle.std.specs.Prelude.{◌≡◌, ◌↔◌, ℕ, true, List}
use Rattle.crx_base.specs.meaning.Choices.{Choices, is_date}
use Rattle.crx_rinex.specs.meaning.Observations.{Epoch}
use Rattle.crx_rinex.specs.meaning.Units.{Unit as FileUnit}
use Rattle.crx_filter.specs.meaning.CompactText.{IsCompactTextOf, AreUnitsInPlace, AreWholeFile, IsCompactText, ReadsAnyText}
use Rattle.crx_filter.specs.meaning.Expanded.{expanded}
use Rattle.crx_filter.specs.meaning.Stretches.{BeginsWithUnits}
use Rattle.crx_filter.specs.meaning.UnitsAndText.{MakeAFile, compact_text, rinex_text}
use Rattle.crx_runs.specs.meaning.Results.{Begins}

-- compact text of some units expands to their RINEX text, whoever wrote it, with any options
abbrev pub ExpandsAnyText : Type 0
ExpandsAnyText = (text : List ℕ) (choices : Choices) → ReadsAnyText (λ result. expanded text choices ≡ result) text

-- the status is 0 for compact text of whole files, and for no other text
abbrev pub AcceptsExactly : Type 0
AcceptsExactly = (text : List ℕ) (choices : Choices) → ((expanded text choices).status ≡ 0) ↔ IsCompactText text

-- no text is compact text of two files
abbrev pub IsOfOneFile : Type 0
IsOfOneFile = (text : List ℕ) (one two : List (FileUnit Epoch)) → AreWholeFile one → AreWholeFile two
    → IsCompactTextOf one text → IsCompactTextOf two text → one ≡ two

-- the compact text that is written here, with any options and a valid date, is one that any writer may write
abbrev pub OwnTextIsOne : Type 0
OwnTextIsOne = (units : List (FileUnit Epoch)) (choices : Choices) → is_date choices.date ≡ true → MakeAFile units
    → AreWholeFile units × IsCompactTextOf units (compact_text choices units)

-- ---- text that is cut off, or damaged from some place on

-- the RINEX text of the whole units that a text begins with is written first, with -s or without
abbrev pub WritesFirstUnits : Type 0
WritesFirstUnits = (units : List (FileUnit Epoch)) (text : List ℕ) (choices : Choices) → AreUnitsInPlace units
    → BeginsWithUnits units text → Begins (expanded text choices).output (rinex_text units)
