-- A reader of compact epochs, by the raw epochs that were accepted.
use Rattle.std.specs.Prelude.{◌≡◌, ◌⊎◌, List, [], ◌∷◌, ◌++◌, length, Option, Some, None, Result, IfOk, IfErr}
use Rattle.crx_base.specs.declared.fault.Fault.{Fault}
use Rattle.crx_base.specs.declared.fault.Fault.TheVariants.{OutOfMemory}
use Rattle.crx_base.specs.meaning.AsRead.{ReadLine}
use Rattle.crx_rinex.specs.meaning.Observations.{Epoch}
use Rattle.crx_header.specs.meaning.ObservationTypes.{Count}
use Rattle.crx_rinex.specs.meaning.Places.{Done, Fails}
use Rattle.crx_compact.specs.meaning.Expansion.{RawEpoch}
use Rattle.crx_compact.specs.meaning.CompactPlaces.{ReadEpoch, epoch_at}
use Rattle.crx_compact.specs.Tails.{tail_left}
use Rattle.crx_compact.specs.OpenEpochs.{OpenRawEpoch, open_raw_with, ColumnsState, Idle, Reading}

-- an open epoch: these lines of it were read, by these counts of types, after the raw epochs accepted since the reader's state was last
-- emptied
abbrev pub IsReading : List Count → List RawEpoch → List ReadLine → ColumnsState → Type 0
IsReading types older lines state = (begun : OpenRawEpoch)
    × (open_raw_with types (tail_left older) lines ≡ Some begun) × (state ≡ Reading begun)

-- some lines were read: more are needed; or they are the lines of an epoch, which is returned, and the state is the tail of the raw epochs
-- with this one
abbrev pub HasReadTo : List Count → List RawEpoch → List ReadLine → ColumnsState → Option Epoch → Type 0
HasReadTo types older lines state None = IsReading types older lines state
HasReadTo types older lines state (Some epoch) =
    (read : ReadEpoch) × (epoch_at types older lines ≡ Done read (length lines))
    × (epoch ≡ read.epoch) × (state ≡ Idle (tail_left (read.raw ∷ older)))

-- a line was read after some lines of an epoch: the answer is the result of them all, or the fault of this line, or memory was refused
pub record AnswersLine (types : List Count) (older : List RawEpoch) (lines : List ReadLine) (line : ReadLine)
    (state : ColumnsState) (answer : Result (Option Epoch) Fault) : Type 0 where
  pub made : IfOk answer (λ given. HasReadTo types older (lines ++ line ∷ []) state given)
  pub refused : IfErr answer (λ fault. (epoch_at types older (lines ++ line ∷ []) ≡ Fails (length lines) fault)
      ⊎ (fault ≡ OutOfMemory))
