use Rattle.crx_rinex.proofs.OpenEpochs.{steady-epoch_place}
use Rattle.crx_laws.proofs.rinex_laws.steady_epochs.Goals as goal

pub returns : goal.returns
returns c = record { law = steady-epoch_place }
