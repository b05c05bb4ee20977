use Rattle.crx_compact.proofs.reading.Forgetting.{forgets}
use Rattle.crx_laws.proofs.compact_reading.a_full_epoch_forgets.Goals as goal

pub returns : goal.returns
returns c = record { law = forgets }
