use Rattle.crx_filter.proofs.damage.BlockCompactedHere.{of-compaction}
use Rattle.crx_laws.proofs.salvage.undamaged_text_is_the_compaction.Goals as goal

pub returns : goal.returns
returns c = record { law = λ input compacting damaged damage. of-compaction input compacting damaged damage }
