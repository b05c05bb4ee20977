use Rattle.crx_filter.proofs.following.CheckedOn.{checked-on}
use Rattle.crx_laws.proofs.checking_laws.check_by_line.Goals as goal

pub returns : goal.returns
returns c = record { law = checked-on }
