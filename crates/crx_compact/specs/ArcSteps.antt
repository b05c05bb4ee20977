-- One step of the running differences: the next coded value, the next value and the next tail depend only on the tail.
use Rattle.std.specs.Prelude.{ℕ, suc, ℤ, pos, ◌+ℤ◌, ◌-ℤ◌, List, [], ◌∷◌, take, Option, Some, None, Result, Ok, Err}
use Rattle.crx_base.specs.declared.limits.TheConstants.{WRITTEN_ORDER}
use Rattle.crx_text.specs.declared.code.Code.{Code}
use Rattle.crx_text.specs.declared.code.Code.TheVariants.{Missing, Start, Step}
use Rattle.crx_base.specs.declared.fault.Fault.{Fault}
use Rattle.crx_base.specs.declared.fault.Fault.TheVariants.{NoArc}
use Rattle.crx_compact.specs.meaning.Differences.{newest}
use Rattle.crx_compact.specs.meaning.ArcValues.{in_range}
use Rattle.crx_compact.specs.ArcTails.{ArcTail}
use Rattle.std.specs.Option.{option_map}

-- the newest value of a tail
abbrev pub value_of_tail : ArcTail → ℤ
value_of_tail arc = newest arc.differences

-- the newest value of an arc; none if there is no arc
abbrev pub shown_value : Option ArcTail → Option ℤ
shown_value arc = option_map value_of_tail arc

-- the differences after a next value: each is the difference of the order below, minus the previous one of that order
abbrev pub differences_after : ℤ → List ℤ → List ℤ
differences_after value [] = value ∷ []
differences_after value (d ∷ ds) = value ∷ differences_after (value -ℤ d) ds

-- an arc's tail after a next value: a first value starts an arc of order `order`
abbrev pub arc_after : ℕ → ℤ → Option ArcTail → ArcTail
arc_after order value None = record { order = order; differences = value ∷ [] }
arc_after order value (Some arc) =
    record { order = arc.order; differences = take (suc arc.order) (differences_after value arc.differences) }

-- the difference of the highest order
abbrev pub highest : List ℤ → ℤ
highest [] = pos 0
highest (d ∷ []) = d
highest (d ∷ e ∷ es) = highest (e ∷ es)

abbrev pub code_after : ℕ → ℤ → Option ArcTail → Code
code_after order value None = Start order value
code_after order value (Some arc) = Step (highest (arc_after order value (Some arc)).differences)

-- the coded value of a next value that may be missing, and the tail after it
abbrev pub code_of_value : Option ℤ → Option ArcTail → Code
code_of_value None arc = Missing
code_of_value (Some value) arc = code_after WRITTEN_ORDER value arc

abbrev pub arc_of_value : Option ℤ → Option ArcTail → Option ArcTail
arc_of_value None arc = None
arc_of_value (Some value) arc = Some (arc_after WRITTEN_ORDER value arc)

-- a difference in front of those of higher orders: it is increased by the next one
abbrev pub onto_sum : ℤ → List ℤ → List ℤ
onto_sum d [] = d ∷ []
onto_sum d (e ∷ es) = (d +ℤ e) ∷ e ∷ es

-- the differences after the number of a coded value, which is the one of the highest order
abbrev pub differences_by : ℤ → List ℤ → List ℤ
differences_by number [] = number ∷ []
differences_by number (d ∷ ds) = onto_sum d (differences_by number ds)

-- an arc's tail after the number of its next coded value
abbrev pub arc_after_number : ℤ → ArcTail → ArcTail
arc_after_number number arc = record {
  order = arc.order;
  differences = differences_by number (take arc.order arc.differences);
}

-- the value that a next coded value stands for in `width` columns, or its fault, and the tail after it
abbrev pub value_of_code : ℕ → Code → Option ArcTail → Result (Option ℤ) Fault
value_of_code width Missing arc = Ok None
value_of_code width (Start order value) arc = in_range width value
value_of_code width (Step number) None = Err NoArc
value_of_code width (Step number) (Some arc) = in_range width (value_of_tail (arc_after_number number arc))

abbrev pub arc_of_code : Code → Option ArcTail → Option ArcTail
arc_of_code Missing arc = None
arc_of_code (Start order value) arc = Some (record { order = order; differences = value ∷ [] })
arc_of_code (Step number) None = None
arc_of_code (Step number) (Some arc) = Some (arc_after_number number arc)
