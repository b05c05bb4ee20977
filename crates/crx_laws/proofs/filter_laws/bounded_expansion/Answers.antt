use Rattle.crx_laws.proofs.output.Bounds.{expansion-bounded}
use Rattle.crx_laws.proofs.filter_laws.bounded_expansion.Goals as goal

pub returns : goal.returns
returns c = record { law = expansion-bounded }
