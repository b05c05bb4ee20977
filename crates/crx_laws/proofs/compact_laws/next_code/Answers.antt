use Rattle.crx_compact.proofs.arcs.Stepping.{codes-by_tail}
use Rattle.crx_laws.proofs.compact_laws.next_code.Goals as goal

pub returns : goal.returns
returns c = record { law = codes-by_tail }
