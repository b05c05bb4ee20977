use Rattle.crx_compact.proofs.anywriter.OurReading.{one-tail}
use Rattle.crx_laws.proofs.compact_reading.one_tail.Goals as goal

pub returns : goal.returns
returns c = record { law = one-tail }
