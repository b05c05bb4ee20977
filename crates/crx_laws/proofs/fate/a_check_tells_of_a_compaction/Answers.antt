use Rattle.crx_laws.proofs.Checks.{same-fault, same-messages}
use Rattle.crx_laws.proofs.fate.a_check_tells_of_a_compaction.Goals as goal

pub returns : goal.returns
returns c = record { fault = same-fault; messages = same-messages }
