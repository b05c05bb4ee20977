use Rattle.crx_filter.proofs.reading.EndOfInput.{compaction-ended}
use Rattle.crx_laws.proofs.filter_laws.compaction_ends.Goals as goal

pub returns : goal.returns
returns c = record { law = compaction-ended }
