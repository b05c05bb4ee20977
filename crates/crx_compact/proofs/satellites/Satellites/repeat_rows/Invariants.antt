use Rattle.crx_compact.proofs.Vocabulary.{ℕ, ◌<◌}
use Rattle.crx_compact.specs.Entries.{KeepsTypes}
use Rattle.crx_compact.proofs.satellites.Satellites.repeat_rows.Given as goal

abbrev pub invariant-loop-place : goal.invariant-loop-place
invariant-loop-place l = (place : ℕ) → place < l.place → KeepsTypes l.types l.order.items place
    l.known.entries
