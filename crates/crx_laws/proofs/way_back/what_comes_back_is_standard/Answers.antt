use Rattle.crx_filter.proofs.wayback.ReturnsLost.{standard-where_same}
use Rattle.crx_laws.proofs.way_back.what_comes_back_is_standard.Goals as goal

pub returns : goal.returns
returns c = record { law = standard-where_same }
