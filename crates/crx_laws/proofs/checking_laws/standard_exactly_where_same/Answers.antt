use Rattle.crx_filter.proofs.standard.CheckStandard.{standard-exactly_where_same}
use Rattle.crx_laws.proofs.checking_laws.standard_exactly_where_same.Goals as goal

pub returns : goal.returns
returns c = record { law = standard-exactly_where_same }
