use Rattle.crx_compact.proofs.arcs.Arcs.{codes-of_values}
use Rattle.crx_laws.proofs.compact_laws.codes_of_values.Goals as goal

pub returns : goal.returns
returns c = record { law = codes-of_values }
