use Rattle.crx_filter.proofs.following.DirectionSteps.{compaction-goes}
use Rattle.crx_filter.proofs.compaction.CompactionDirection.stage.Goals as goal

pub returns-clause-lawful : goal.returns-clause-lawful
returns-clause-lawful c = compaction-goes
