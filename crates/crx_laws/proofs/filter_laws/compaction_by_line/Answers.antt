use Rattle.crx_filter.proofs.following.CompactedOn.{compacted-on}
use Rattle.crx_laws.proofs.filter_laws.compaction_by_line.Goals as goal

pub returns : goal.returns
returns c = record { law = compacted-on }
