use Rattle.crx_compact.proofs.anywriter.OurReading.{each-reads_back}
use Rattle.crx_laws.proofs.compact_reading.reading_an_epoch.Goals as goal

pub returns : goal.returns
returns c = record { law = each-reads_back }
