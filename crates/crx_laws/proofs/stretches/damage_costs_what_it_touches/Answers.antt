use Rattle.crx_filter.proofs.stretches.StretchesSaved.{rest-kept}
use Rattle.crx_laws.proofs.stretches.damage_costs_what_it_touches.Goals as goal

pub returns : goal.returns
returns c = record { law = rest-kept }
