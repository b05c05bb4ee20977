-- A reader of compact epochs, by the lines that were read of an epoch.
use Rattle.crx_compact.proofs.Vocabulary.{◌≡◌, List, Some, None, SatelliteLine, Bool}
use Rattle.crx_compact.proofs.Vocabulary.{true, if◌then◌else◌, tail_of_history}
use Rattle.crx_compact.proofs.Vocabulary.{ℕ, tail_held, with_rows, OpenHistory}
use Rattle.crx_compact.proofs.Vocabulary.{arith, Expected, rules}
use Rattle.crx_compact.proofs.Vocabulary.{Content, Reading, is_idle, step_in, step_at}
use Rattle.crx_compact.proofs.Vocabulary.{ColumnsState, columns_state}
use Rattle.crx_compact.specs.OpenEpochs.{awaits_row}
use Rattle.crx_compact.specs.declared.columns.Expected.TheVariants.{EpochLine}

-- ---- the parts of columns

pub state-rows : (is_kept : Bool) (expected : Expected) (count : ℕ) (history : OpenHistory)
    → expected ≡ SatelliteLine
    → columns_state is_kept expected count history ≡ Reading (with_rows (tail_of_history history) count)
state-rows is_kept expected count history at = cc (at)

module _ (is_kept : Bool) (expected : Expected) (count : ℕ) (history : OpenHistory) (state : ColumnsState)
    (e : columns_state is_kept expected count history ≡ state) where
  pub stage-idle : is_idle state ≡ true → expected ≡ EpochLine
  stage-idle idle = grind arith

  pub tail-idle : is_idle state ≡ true
      → tail_held state ≡ (if is_kept then Some (tail_of_history history) else None)
  tail-idle idle = search rules

  -- the step that a line makes in a state, by the lines that were read
  pub step-by-stage : (line : List ℕ)
      → step_in state (Content line) ≡ step_at expected count history (Content line)
  step-by-stage line = grind arith

  pub row-was_awaited : expected ≡ SatelliteLine → awaits_row state ≡ true
  row-was_awaited at = cc (e, at)
