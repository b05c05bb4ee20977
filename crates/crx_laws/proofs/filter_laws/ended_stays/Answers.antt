use Rattle.crx_filter.proofs.reading.StaysEnded.{rinex-stays, compact-stays}
use Rattle.crx_laws.proofs.filter_laws.ended_stays.Goals as goal

pub returns : goal.returns
returns c = record { compaction = rinex-stays; expansion = compact-stays }
