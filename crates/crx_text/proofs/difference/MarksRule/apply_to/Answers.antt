use Rattle.crx_text.proofs.LaneWords.{mark_lanes}
use Rattle.crx_text.proofs.difference.MarksRule.apply_to.Goals as goal

pub returns : goal.returns
returns c = record { value = mark_lanes _ _ c.fits-old.0 c.fits-new.0 }
