use Rattle.crx_compact.proofs.wayback.Tailing.{epoch-by_tail}
use Rattle.crx_laws.proofs.compact_laws.next_epoch.Goals as goal

pub returns : goal.returns
returns c = record { law = λ m older h. epoch-by_tail m older h }
