use Rattle.std.proofs.Common.{rules}
use Rattle.crx_compact.proofs.placing.LookUps.{found-if_some}
use Rattle.crx_compact.proofs.satellites.find.Goals as goal

pub returns-clause-found : goal.returns-clause-found
returns-clause-found c = found-if_some c.args.name c.args.map.now.entries c.get_index_of.result (search rules)
