-- An epoch and its pending compact lines.
use Rattle.std.specs.Prelude.{ℕ, List}
use Rattle.crx_rinex.specs.meaning.Observations.{Epoch}

pub record CodedEpoch : Type 0 where
  pub epoch : Epoch
  pub lines : List (List ℕ)
