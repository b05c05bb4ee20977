-- In addition to meaning/Numbers: how code and proofs see it.
use Rattle.std.specs.Prelude.{ℤ}
use Rattle.crx_base.specs.declared.limits.TheConstants.{OBSERVATION_WIDTH, CLOCK_WIDTH}
use Rattle.crx_text.specs.meaning.Numbers.{IsWithin}

-- ---- range

abbrev pub IsObservation : ℤ → Type 0
IsObservation number = IsWithin OBSERVATION_WIDTH number

abbrev pub IsClock : ℤ → Type 0
IsClock number = IsWithin CLOCK_WIDTH number
