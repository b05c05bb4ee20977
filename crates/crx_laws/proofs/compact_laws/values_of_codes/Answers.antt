use Rattle.crx_compact.proofs.arcs.Arcs.{values-of_codes}
use Rattle.crx_laws.proofs.compact_laws.values_of_codes.Goals as goal

pub returns : goal.returns
returns c = record { law = values-of_codes }
