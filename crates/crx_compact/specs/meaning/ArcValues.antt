-- The values that the coded values of an arc stand for (Hatanaka's Compact RINEX 3.0, data arcs). Coded values are newest first.
use Rattle.std.specs.Prelude.{ℕ, ◌-◌, ◌^◌, ◌&&◌, Bool, ℤ, pos, neg_ℤ, int_lt, List, [], ◌∷◌, Option, Some, None, Result}
use Rattle.std.specs.Prelude.{Ok, Err, if◌then◌else◌}
use Rattle.std.specs.Option.{option_map}
use Rattle.crx_text.specs.declared.code.Code.{Code}
use Rattle.crx_text.specs.declared.code.Code.TheVariants.{Missing, Start, Step}
use Rattle.crx_base.specs.declared.fault.Fault.{Fault}
use Rattle.crx_base.specs.declared.fault.Fault.TheVariants.{NoArc, OutOfRange}
use Rattle.crx_compact.specs.meaning.Differences.{value_at}

-- an arc since its start: the start's order, and the numbers of its coded values, newest first
pub record Started : Type 0 where
  pub order : ℕ
  pub numbers : List ℤ

abbrev pub onto_started : ℤ → Started → Started
onto_started number arc = record { order = arc.order; numbers = number ∷ arc.numbers }

-- the coded values since the latest start; none if there is no start, or a missing value after it
abbrev pub since_start : List Code → Option Started
since_start [] = None
since_start (Missing ∷ older) = None
since_start (Start order value ∷ older) = Some (record { order = order; numbers = value ∷ [] })
since_start (Step number ∷ older) = option_map (onto_started number) (since_start older)

-- whether a number fits `width` columns: the point takes one of them, and a minus sign another
abbrev pub is_within : ℕ → ℤ → Bool
is_within width number = int_lt (neg_ℤ (pos (10 ^ (width - 2)))) number && int_lt number (pos (10 ^ (width - 1)))

abbrev pub in_range : ℕ → ℤ → Result (Option ℤ) Fault
in_range width number = if is_within width number then Ok (Some number) else Err OutOfRange

abbrev pub value_since : ℕ → Option Started → Result (Option ℤ) Fault
value_since width None = Err NoArc
value_since width (Some arc) = in_range width (value_at arc.order arc.numbers)

-- the value of a cell or a clock, or its fault, by the coded values of its run, newest first; none if the newest is missing
abbrev pub value_of : ℕ → List Code → Result (Option ℤ) Fault
value_of width [] = Ok None
value_of width (Missing ∷ older) = Ok None
value_of width (code ∷ older) = value_since width (since_start (code ∷ older))
