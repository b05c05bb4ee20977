use Rattle.crx_filter.proofs.following.ExpandedOn.{expanded-on}
use Rattle.crx_laws.proofs.filter_laws.expansion_by_line.Goals as goal

pub returns : goal.returns
returns c = record { law = expanded-on }
