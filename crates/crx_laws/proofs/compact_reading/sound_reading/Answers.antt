use Rattle.crx_compact.proofs.soundness.Soundness.{reads-soundly}
use Rattle.crx_laws.proofs.compact_reading.sound_reading.Goals as goal

pub returns : goal.returns
returns c = record { law = reads-soundly }
