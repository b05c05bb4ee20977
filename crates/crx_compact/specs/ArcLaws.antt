-- Laws of arcs: their coded values by their values, and their values by their coded values.
use Rattle.std.specs.Prelude.{◌≡◌, ℕ, ℤ, List, [], ◌∷◌, Option, Some, None, if◌then◌else◌}
use Rattle.std.specs.Option.{option_map}
use Rattle.crx_text.specs.declared.code.Code.{Code}
use Rattle.crx_base.specs.declared.limits.TheConstants.{WRITTEN_ORDER}
use Rattle.crx_compact.specs.meaning.Differences.{code_at, value_at}
use Rattle.crx_compact.specs.meaning.ArcValues.{Started, since_start, value_of}
use Rattle.crx_compact.specs.ArcTails.{ArcTail, arc_tail, differences_of, values_of, started_tail}
use Rattle.crx_compact.specs.ArcSteps.{code_after, arc_after, arc_after_number, value_of_tail, code_of_value, arc_of_value}
use Rattle.crx_compact.specs.ArcSteps.{value_of_code, arc_of_code}
use Rattle.std.specs.Result.{is_ok}
use Rattle.crx_compact.specs.meaning.Sequences.{stretch}

-- the coded values of an arc's values, newest first, each by the values up to it
abbrev pub codes_of_arc : ℕ → List ℤ → List Code
codes_of_arc order [] = []
codes_of_arc order (a ∷ older) = code_at order (a ∷ older) ∷ codes_of_arc order older

-- the value that the coded values of an arc stand for, if they have a start
abbrev pub value_given : List Code → Option ℤ
value_given codes = option_map (λ (arc : Started). value_at arc.order arc.numbers) (since_start codes)

-- the coded values of any arc, of any order, stand for its newest value
abbrev pub Inverts : Type 0
Inverts = (order : ℕ) (a : ℤ) (older : List ℤ) → value_given (codes_of_arc order (a ∷ older)) ≡ Some a

-- an arc after its next value: the coded value and the tail, by the tail before
pub record CodesByTail (order : ℕ) (value : ℤ) (older : List ℤ) : Type 0 where
  pub code : code_at order (value ∷ older) ≡ code_after order value (arc_tail order older)
  pub tail : arc_tail order (value ∷ older) ≡ Some (arc_after order value (arc_tail order older))

-- the tail of an arc by the numbers of its coded values
abbrev pub tail_of_numbers : ℕ → List ℤ → ArcTail
tail_of_numbers order numbers = record { order = order; differences = differences_of order (values_of order numbers) }

-- an arc after its next difference: the value and the tail, by the tail before
pub record ValuesByTail (order : ℕ) (number before : ℤ) (older : List ℤ) : Type 0 where
  pub value : value_at order (number ∷ before ∷ older)
      ≡ value_of_tail (arc_after_number number (tail_of_numbers order (before ∷ older)))
  pub tail : tail_of_numbers order (number ∷ before ∷ older)
      ≡ arc_after_number number (tail_of_numbers order (before ∷ older))

-- an arc's tail after some values, newest first, one after another from an empty arc on; a missing value empties it
abbrev pub arc_of_values : List (Option ℤ) → Option ArcTail
arc_of_values [] = None
arc_of_values (value ∷ older) = arc_of_value value (arc_of_values older)

-- after any values the arc is that of their latest stretch without a missing one, and the next value is coded by that stretch with it
pub record CodesOfValues (value : Option ℤ) (older : List (Option ℤ)) : Type 0 where
  pub tail : arc_of_values older ≡ arc_tail WRITTEN_ORDER (stretch older)
  pub code : code_of_value value (arc_of_values older) ≡ code_at WRITTEN_ORDER (stretch (value ∷ older))

-- the coded values that are accepted one after another, newest first: one without an arc, or whose value doesn't fit its columns, is
-- refused, and later ones continue without it
abbrev pub accepted : ℕ → List Code → List Code
accepted width [] = []
accepted width (code ∷ older) =
    if is_ok (value_of width (code ∷ accepted width older)) then code ∷ accepted width older else accepted width older

-- an arc's tail after some coded values, newest first, one after another from an empty arc on; a refused one changes nothing
abbrev pub arc_of_codes : ℕ → List Code → Option ArcTail
arc_of_codes width [] = None
arc_of_codes width (code ∷ older) =
    if is_ok (value_of_code width code (arc_of_codes width older)) then arc_of_code code (arc_of_codes width older)
    else arc_of_codes width older

-- after any coded values the arc is that of the accepted ones since their latest start, and the next one has the value, or the fault, that
-- it has after the accepted ones
pub record ValuesOfCodes (width : ℕ) (code : Code) (older : List Code) : Type 0 where
  pub tail : arc_of_codes width older ≡ started_tail (since_start (accepted width older))
  pub value : value_of_code width code (arc_of_codes width older) ≡ value_of width (code ∷ accepted width older)
