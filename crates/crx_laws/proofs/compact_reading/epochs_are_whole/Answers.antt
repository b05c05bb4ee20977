use Rattle.crx_compact.proofs.soundness.WholeEpochs.{reads-whole}
use Rattle.crx_laws.proofs.soundness.GoodLists.{reads-whole_lists}
use Rattle.crx_laws.proofs.compact_reading.epochs_are_whole.Goals as goal

pub returns : goal.returns
returns c = record { one = reads-whole; list = reads-whole_lists }
