-- The promises of the expansion for text that is damaged or cut off, in the caller's memory. `holds result` says that a
-- call returned this result, and copied its texts into the caller's buffers.
use Rattle.std.specs.Prelude.{ℕ, List}
use Rattle.crx_rinex.specs.meaning.Observations.{Epoch}
use Rattle.crx_rinex.specs.meaning.Units.{Unit as FileUnit}
use Rattle.crx_filter.specs.meaning.CompactText.{AreUnitsInPlace}
use Rattle.crx_filter.specs.meaning.Stretches.{BeginsWithUnits, HasStretches, KeepsTheRest, Stretch}
use Rattle.crx_filter.specs.meaning.UnitsAndText.{rinex_text}
use Rattle.crx_runs.specs.meaning.Results.{FilterResult, Begins}

-- an expansion that skips faults keeps all units outside the damaged stretches, whoever wrote the text
abbrev pub CallKeepsUndamaged : (FilterResult → Type 0) → List ℕ → Type 0
CallKeepsUndamaged holds damaged =
    (before : List (FileUnit Epoch)) (stretches : List Stretch) → HasStretches before stretches damaged
    → (saved : FilterResult) × KeepsTheRest before stretches saved × holds saved

-- an expansion writes all units that are whole at the beginning of its text, whatever follows them
abbrev pub CallWritesWholeUnits : (FilterResult → Type 0) → List ℕ → Type 0
CallWritesWholeUnits holds text =
    (units : List (FileUnit Epoch)) → AreUnitsInPlace units → BeginsWithUnits units text
    → (result : FilterResult) × Begins result.output (rinex_text units) × holds result
