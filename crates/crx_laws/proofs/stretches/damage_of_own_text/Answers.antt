use Rattle.crx_filter.proofs.stretches.StretchesCompactedHere.{own-rest}
use Rattle.crx_laws.proofs.stretches.damage_of_own_text.Goals as goal

pub returns : goal.returns
returns c = record { law = own-rest }
