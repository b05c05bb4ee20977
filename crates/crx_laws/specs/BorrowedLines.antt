-- Compact lines that are borrowed one after another, as they are read.
use Rattle.std.specs.Prelude.{◌≡◌, ◌≤◌, ℕ, false, List, length, Option, Some, None}
use Rattle.std.specs.List.{AllByRecursion}
use Rattle.crx_base.specs.declared.limits.TheConstants.{LINE_LIMIT}
use Rattle.crx_base.specs.declared.fault.Fault.{Fault}
use Rattle.crx_header.specs.meaning.EpochColumns.{is_event_line}
use Rattle.crx_rinex.specs.meaning.Observations.{Epoch}
use Rattle.crx_rinex.specs.meaning.Places.{Place, Done, Fails, NeedsMore}
use Rattle.crx_compact.specs.OpenEpochs.{ColumnsState, HeldEpoch, Idle}

-- a line that may be read as one of an observation epoch
pub record IsReadable (line : List ℕ) : Type 0 where
  pub short : length line ≤ LINE_LIMIT
  pub no_event : is_event_line line ≡ false

abbrev pub AreReadable : List (List ℕ) → Type 0
AreReadable lines = AllByRecursion IsReadable lines

-- the result of reading lines: the epoch, or none if more lines are needed
abbrev pub HasGiven : Place HeldEpoch → ColumnsState → Option Epoch → Type 0
HasGiven place after None = place ≡ NeedsMore
HasGiven place after (Some epoch) = (held : HeldEpoch)
    × (count : ℕ) × (place ≡ Done held count) × (epoch ≡ held.epoch) × (after ≡ Idle (Some held.tail))

-- a fault in these lines
abbrev pub IsFaultAt : Place HeldEpoch → Fault → Type 0
IsFaultAt place fault = (offset : ℕ) × (place ≡ Fails offset fault)
