use Rattle.crx_filter.proofs.accounts.ShortBlocks.{short-blocks}
use Rattle.crx_laws.proofs.silence.blocks_are_short.Goals as goal

pub returns : goal.returns
returns c = record { law = short-blocks }
