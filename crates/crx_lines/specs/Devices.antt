-- In addition to meaning/Devices: how code and proofs see it.
use Rattle.std.specs.Prelude.{◌≡◌, ℕ, Bool, List, [], ◌∷◌, if◌then◌else◌}
use Rattle.crx_lines.specs.meaning.Devices.{one_more, Tally, SinkTally, with_failure}
use Rattle.crx_base.specs.declared.fault.Fault.{Fault}
use Rattle.crx_base.specs.declared.fault.Fault.TheVariants.{InputTooLong, ReadFailed}

-- a tally after one more report of the end
abbrev pub with_end : Tally → Tally
with_end t = record { failures = t.failures; ends = one_more t.ends }

abbrev pub sink_tally_of : ℕ → ℕ → SinkTally
sink_tally_of failures flushes = record { failures = failures; flushes = flushes }

-- a tally after a line: without an LF, a report of the end ended it
abbrev pub tally_after_line : Bool → Tally → Tally
tally_after_line is_ended t = if is_ended then t else with_end t

-- a read that is a fault: it returned a byte when none was allowed, or it failed; and the source's tally
-- after it
abbrev pub EndsFill : Fault → (List ℕ → Type 0) → ℕ → Tally → Tally → Type 0
EndsFill InputTooLong gave most tally counted = (b : ℕ) × gave (b ∷ []) × (most ≡ 0) × (counted ≡ tally)
EndsFill ReadFailed gave most tally counted = gave [] × (counted ≡ with_failure tally)
EndsFill _ gave most tally counted = ⊥
