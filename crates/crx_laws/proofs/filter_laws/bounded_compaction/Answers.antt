use Rattle.crx_laws.proofs.output.Bounds.{compaction-bounded}
use Rattle.crx_laws.proofs.filter_laws.bounded_compaction.Goals as goal

pub returns : goal.returns
returns c = record { law = compaction-bounded }
