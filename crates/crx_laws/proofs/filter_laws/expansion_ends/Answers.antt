use Rattle.crx_filter.proofs.reading.EndOfInput.{expansion-ended}
use Rattle.crx_laws.proofs.filter_laws.expansion_ends.Goals as goal

pub returns : goal.returns
returns c = record { law = expansion-ended }
