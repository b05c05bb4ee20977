use Rattle.crx_filter.proofs.following.DirectionSteps.{expansion-goes}
use Rattle.crx_filter.proofs.expansion.ExpansionDirection.stage.Goals as goal

pub returns-clause-lawful : goal.returns-clause-lawful
returns-clause-lawful c = expansion-goes
