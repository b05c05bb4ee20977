use Rattle.crx_filter.proofs.damage.BlockCompactedHere.{own-saved}
use Rattle.crx_laws.proofs.salvage.damage_of_own_text_stays_in_its_block.Goals as goal

pub returns : goal.returns
returns c = record {
  law = λ input compacting expanding damaged dated skips damage.
      own-saved input compacting damaged damage expanding dated skips;
}
