use Rattle.crx_filter.proofs.stretches.StretchesCompactedHere.{whole-first}
use Rattle.crx_laws.proofs.stretches.whole_units_are_written.Goals as goal

pub returns : goal.returns
returns c = record { law = whole-first }
