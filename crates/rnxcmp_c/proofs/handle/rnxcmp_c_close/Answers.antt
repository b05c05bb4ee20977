use Rattle.rnxcmp_c.proofs.PromiseLemmas.{sound-holds}
use Rattle.rnxcmp_c.proofs.handle.rnxcmp_c_close.Goals as goal

pub take_out-requires : goal.take_out-requires
take_out-requires c = sound-holds c.requires.sound c.if-handle.true
