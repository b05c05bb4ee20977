-- The past of an epoch: how its lines depend on the lines read before (Hatanaka's Compact RINEX 3.0). An epoch's lines are changes of
-- earlier ones, except the lines of a full epoch, the line of a satellite that the previous epoch doesn't hold, and values that begin an
-- arc. Header lines and events are copied.
use Rattle.std.specs.Prelude.{ℕ, ℤ, List, [], ◌∷◌, map, Option, Some, None, Result, if◌then◌else◌}
use Rattle.crx_text.specs.declared.code.Code.{Code}
use Rattle.crx_base.specs.declared.fault.Fault.{Fault}
use Rattle.crx_base.specs.declared.limits.TheConstants.{OBSERVATION_WIDTH, CLOCK_WIDTH}
use Rattle.crx_header.specs.meaning.EpochColumns.{begins_epoch}
use Rattle.crx_compact.specs.meaning.Expansion.{RawEpoch, block_of, overlaid, code_in, raw_run_of, marks_of}
use Rattle.crx_compact.specs.meaning.ArcValues.{value_of}

-- `text`: the epoch text that an epoch line makes; `clock`: the value of the clock's coded value, or its fault; `value`: the value of a
-- satellite's coded value at a place, counted from 0, or its fault; `flags`: the indicators that a satellite's marks make
pub record Past : Type 0 where
  pub text : List ℕ → List ℕ
  pub clock : Code → Result (Option ℤ) Fault
  pub value : List ℕ → ℕ → Code → Result (Option ℤ) Fault
  pub flags : List ℕ → List ℕ → List ℕ

-- the past after a block of raw epochs, newest first
abbrev pub past_of_block : List RawEpoch → Past
past_of_block block =
    record {
      text = λ line. overlaid (line ∷ map (λ (e : RawEpoch). e.line) block);
      clock = λ code. value_of CLOCK_WIDTH (code ∷ map (λ (e : RawEpoch). e.clock) block);
      value = λ name place code. value_of OBSERVATION_WIDTH (code ∷ map (code_in place) (raw_run_of name block));
      flags = λ name marks. overlaid (marks ∷ marks_of (raw_run_of name block));
    }

-- the past of an epoch line that doesn't begin with >, after the raw epochs accepted since the reader's state was last emptied; none if
-- there are none
abbrev pub past_of_epochs : List RawEpoch → Option Past
past_of_epochs [] = None
past_of_epochs (e ∷ older) = Some (past_of_block (block_of (e ∷ older)))

-- the past of an epoch line; if it begins with >, no earlier epoch matters
abbrev pub past_of_line : List RawEpoch → List ℕ → Option Past
past_of_line older line = if begins_epoch line then Some (past_of_block []) else past_of_epochs older
