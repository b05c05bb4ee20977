-- Observation epochs as values: RINEX 3.05, the observation data record (epoch line and satellite lines).
use Rattle.std.specs.Prelude.{ℕ, ℤ, Option, None, List, is_some, filter, length, slice_index_or}
use Rattle.std.specs.List.{sum_by}

-- a satellite in an epoch: its identifier of three characters; the values of its observation types in the
-- header's order, in thousandths, none if the observation is missing; and two indicators (loss of lock, signal
-- strength) for each type
pub record Row : Type 0 where
  pub name : List ℕ
  pub values : List (Option ℤ)
  pub flags : List ℕ

-- an observation epoch: columns 1 to 41 of its line; the receiver clock offset in units of 10^-12 seconds, none
-- if it is missing; and its satellites in the order of the file
pub record Epoch : Type 0 where
  pub head : List ℕ
  pub clock : Option ℤ
  pub rows : List Row

-- the value at a place of a row, counted from 0
abbrev pub value_in : ℕ → Row → Option ℤ
value_in place row = slice_index_or row.values place None

-- how many values of a satellite aren't missing
abbrev pub observations_of : Row → ℕ
observations_of row = length (filter is_some row.values)

-- how many values of an epoch's satellites aren't missing; the clock isn't counted
abbrev pub observations_in : Epoch → ℕ
observations_in epoch = sum_by observations_of epoch.rows
