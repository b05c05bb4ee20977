-- An arc as code stores it: its order and its differences, and how large they may become.
use Rattle.std.specs.Prelude.{◌≤◌, ℕ, suc, ◌+◌, ◌^◌, ℤ, pos, neg_ℤ, ◌<ℤ◌, List, [], ◌∷◌, Option, Some, None}
use Rattle.crx_base.specs.declared.limits.TheConstants.{ORDER_LIMIT, CLOCK_WIDTH}
use Rattle.crx_text.specs.meaning.Numbers.{IsWithin}
use Rattle.crx_compact.specs.ArcTails.{ArcTail}

-- the tail of an arc by its differences; none if there are none
abbrev pub kept_tail : ℕ → List ℤ → Option ArcTail
kept_tail order [] = None
kept_tail order (d ∷ ds) = Some (record { order = order; differences = d ∷ ds })

-- a number below a bound, without its sign
pub record IsBelow (bound : ℕ) (number : ℤ) : Type 0 where
  pub low : neg_ℤ (pos bound) <ℤ number
  pub high : number <ℤ pos bound

-- differences of order 0, 1, .. of values below a bound, which doubles with each order
abbrev pub AreBelow : ℕ → List ℤ → Type 0
AreBelow bound [] = Unit {0}
AreBelow bound (d ∷ ds) = IsBelow bound d × AreBelow (bound + bound) ds

-- a bound that no value of a clock's columns reaches, nor one of fewer columns
abbrev pub value_bound : ℕ
value_bound = 10 ^ 14

-- the newest value, if there is one, fits its columns
abbrev pub IsNewestWithin : ℕ → List ℤ → Type 0
IsNewestWithin width [] = Unit {0}
IsNewestWithin width (d ∷ ds) = IsWithin width d

-- every arc that code keeps: no more differences than its order allows, all of values in range
pub record IsArcInRange (width order count : ℕ) (differences : List ℤ) : Type 0 where
  pub few_columns : width ≤ CLOCK_WIDTH
  pub order_within : order ≤ ORDER_LIMIT
  pub counted : count ≤ suc order
  pub below : AreBelow value_bound differences
  pub newest : IsNewestWithin width differences
