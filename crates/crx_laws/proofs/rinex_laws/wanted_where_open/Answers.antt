use Rattle.crx_rinex.proofs.OpenEpochs.{wanted-open}
use Rattle.crx_laws.proofs.rinex_laws.wanted_where_open.Goals as goal

pub returns : goal.returns
returns c = record { law = wanted-open }
