use Rattle.std.proofs.Common.{arith}
use Rattle.crx_rinex.proofs.SoundEpochs.{sound-epoch_place}
use Rattle.crx_laws.proofs.rinex_laws.epochs_are_whole.Goals as goal

pub returns : goal.returns
returns c = record {
  law = λ types counts lines epoch count h. let whole =
      sound-epoch_place types lines epoch count counts h in let e = whole.1 in (whole.0, omega (arith, e));
}
