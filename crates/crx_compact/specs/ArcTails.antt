-- The tail of an arc: the part of it that its later values and coded values depend on.
use Rattle.std.specs.Prelude.{ℕ, suc, ◌-◌, min, ℤ, List, [], ◌∷◌, length, Option, Some, None, ◌≤◌, ◌+◌, ◌≡◌}
use Rattle.crx_text.specs.meaning.EachPlace.{each_place}
use Rattle.crx_compact.specs.meaning.Differences.{difference, value_at}
use Rattle.crx_compact.specs.meaning.ArcValues.{Started}

-- an arc's order n, and its differences of order 0, 1, .. up to n, or up to u if it has only u + 1 values
pub record ArcTail : Type 0 where
  pub order : ℕ
  pub differences : List ℤ

-- the differences of order 0 up to an order, or as far as the values go
abbrev pub differences_of : ℕ → List ℤ → List ℤ
differences_of order values = each_place (suc (min (length values - 1) order)) (λ i. difference i values)

abbrev pub arc_tail : ℕ → List ℤ → Option ArcTail
arc_tail order [] = None
arc_tail order (a ∷ older) = Some (record { order = order; differences = differences_of order (a ∷ older) })

-- the values of an arc by the numbers of its coded values, newest first
abbrev pub values_of : ℕ → List ℤ → List ℤ
values_of order [] = []
values_of order (c ∷ older) = value_at order (c ∷ older) ∷ values_of order older

abbrev pub started_tail : Option Started → Option ArcTail
started_tail None = None
started_tail (Some arc) = arc_tail arc.order (values_of arc.order arc.numbers)

-- an arc's tail within a limit: its order is at most `limit`, and it has at most one difference more than its order
pub record IsBoundedArc (limit : ℕ) (arc : ArcTail) : Type 0 where
  pub order : arc.order ≤ limit
  pub few : length arc.differences ≤ arc.order + 1

-- an arc of order 3 with all its differences, as most arcs are from their fourth value on
abbrev pub HasThird : Option ArcTail → Type 0
HasThird None = ⊥
HasThird (Some arc) = (arc.order ≡ 3) × (length arc.differences ≡ 4)
