-- Arcs over every list of values and every list of coded values, one more at a time.
use Rattle.crx_compact.proofs.Vocabulary.{◌≡◌, ℕ, ℤ, [], ◌∷◌, zero, suc, Some, None, sym, ◌∙◌, ap, Code, Step}
use Rattle.crx_compact.proofs.Vocabulary.{refl, List, Option, stretch, value_of, Missing, Start, code_at}
use Rattle.crx_compact.proofs.Vocabulary.{arith, since_start, value_since, arc_of_value, arc_of_code, common_steps}
use Rattle.crx_compact.proofs.Vocabulary.{WRITTEN_ORDER, value_of_code, code_of_value, option_map}
use Rattle.crx_compact.proofs.Vocabulary.{in_range, arc_tail, started_tail, value_at, rules}
use Rattle.crx_compact.specs.meaning.ArcValues.{Started, onto_started}
use Rattle.crx_compact.specs.ArcLaws.{arc_of_values, CodesOfValues, accepted, arc_of_codes, ValuesOfCodes}
use Rattle.crx_compact.proofs.arcs.Inversion.{value-first}
use Rattle.crx_compact.proofs.arcs.Stepping.{values-by_tail, first-differences, codes-by_tail}

value-start : (n : ℕ) (v : ℤ) → value_at n (v ∷ []) ≡ v
value-start zero v = refl
value-start (suc n) v = value-first n v

-- the effect of the number of a coded value on a started arc, or on none
record Steps (d : ℤ) (o : Option Started) : Type 0 where
  value : (width : ℕ)
      → value_since width (option_map (onto_started d) o) ≡ value_of_code width (Step d) (started_tail o)
  arc : started_tail (option_map (onto_started d) o) ≡ arc_of_code (Step d) (started_tail o)

steps-onto : (d e : ℤ) (o : Option Started) → Steps d (option_map (onto_started e) o)
steps-onto d e None = record { value = λ width. refl; arc = refl }
steps-onto d e (Some arc) = search (rules, values-by_tail)

steps : (d : ℤ) (cs : List Code) → Steps d (since_start cs)
steps d (Start n v ∷ cs) = search (rules, values-by_tail)
steps d (Step e ∷ cs) = steps-onto d e (since_start cs)
steps d cs = record { value = λ width. refl; arc = refl }

pub value-next : (width : ℕ) (c : Code) (cs : List Code)
    → value_of width (c ∷ cs) ≡ value_of_code width c (started_tail (since_start cs))
value-next width Missing cs = refl
value-next width (Start n v) cs = ap (in_range width) (value-start n v)
value-next width (Step d) cs = (steps d cs).value width

pub number-next : (c : Code) (cs : List Code)
    → started_tail (since_start (c ∷ cs)) ≡ arc_of_code c (started_tail (since_start cs))
number-next x cs =
    grind (arith, common_steps, first-differences, value_at, value-start, steps, since_start)

pub code-next : (o : Option ℤ) (os : List (Option ℤ))
    → code_at WRITTEN_ORDER (stretch (o ∷ os)) ≡ code_of_value o (arc_tail WRITTEN_ORDER (stretch os))
code-next x os = grind (arith, common_steps, codes-by_tail)

pub arc-next : (o : Option ℤ) (os : List (Option ℤ))
    → arc_tail WRITTEN_ORDER (stretch (o ∷ os)) ≡ arc_of_value o (arc_tail WRITTEN_ORDER (stretch os))
arc-next None os = refl
arc-next (Some v) os = (codes-by_tail WRITTEN_ORDER v (stretch os)).tail

-- ---- every list of values, and every list of coded values

values-left : (values : List (Option ℤ)) → arc_of_values values ≡ arc_tail WRITTEN_ORDER (stretch values)
values-left [] = refl
values-left (o ∷ os) = ap (arc_of_value o) (values-left os) ∙ sym (arc-next o os)

pub codes-of_values : (value : Option ℤ) (older : List (Option ℤ)) → CodesOfValues value older
codes-of_values value older = grind (arith, common_steps, values-left, code-next)

codes-left : (width : ℕ) (codes : List Code)
    → arc_of_codes width codes ≡ started_tail (since_start (accepted width codes))
codes-left width [] = refl
codes-left width (c ∷ cs) = grind (arith, common_steps, value-next, number-next, codes-left width cs)

pub values-of_codes : (width : ℕ) (code : Code) (older : List Code) → ValuesOfCodes width code older
values-of_codes width code older = grind (arith, common_steps, codes-left, value_of_code, value-next)
