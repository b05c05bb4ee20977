use Rattle.std.proofs.Common.{ℕ, ◌<◌}
use Rattle.crx_rinex.proofs.PrintedForms.{Prints}
use Rattle.crx_rinex.specs.meaning.SatelliteLines.{field}
use Rattle.crx_rinex.proofs.printed_form.has_printed_form.Given as goal

abbrev pub invariant-loop-k : goal.invariant-loop-k
invariant-loop-k l = (j : ℕ) → j < l.k → Prints (field l.line j)
