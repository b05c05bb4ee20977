use Rattle.crx_filter.proofs.following.Lawful.{compaction-lawful, expansion-lawful}
use Rattle.crx_laws.proofs.filter_laws.lawful_directions.Goals as goal

pub returns : goal.returns
returns c = record { compaction = compaction-lawful; expansion = expansion-lawful }
