use Rattle.crx_filter.proofs.damage.DamageStays.{all-saved}
use Rattle.crx_laws.proofs.salvage.damage_stays_in_its_block.Goals as goal

pub returns : goal.returns
returns c = record { law = all-saved }
