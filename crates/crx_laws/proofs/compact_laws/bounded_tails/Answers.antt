use Rattle.crx_laws.proofs.soundness.BoundedTails.{written-bounded}
use Rattle.crx_laws.proofs.compact_laws.bounded_tails.Goals as goal

pub returns : goal.returns
returns c = record { law = written-bounded }
