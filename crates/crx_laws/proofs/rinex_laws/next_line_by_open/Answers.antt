use Rattle.crx_rinex.proofs.OpenEpochs.{next-by_open}
use Rattle.crx_laws.proofs.rinex_laws.next_line_by_open.Goals as goal

pub returns : goal.returns
returns c = record { law = next-by_open }
