-- An arc, whoever wrote it: its coded value stands for its newest value, and leaves its tail.
use Rattle.crx_compact.proofs.Vocabulary.{◌≡◌, refl, ℕ, ℤ, List, [], ◌∷◌, Option}
use Rattle.crx_compact.proofs.Vocabulary.{Some, None, Ok, ap, ◌∙◌, length, min}
use Rattle.crx_compact.proofs.Vocabulary.{inl, inr, difference, value_of_code, arc_of_code, differences_of}
use Rattle.crx_compact.proofs.Vocabulary.{values_of}
use Rattle.crx_compact.proofs.Vocabulary.{IsWithin, IsMissingOrWithin, ArcTail, in_range, arith, common_steps}
use Rattle.crx_compact.proofs.arcs.Inversion.{numbers_of, value-numbers}
use Rattle.crx_compact.proofs.arcs.Stepping.{values-by_tail, first-differences}
use Rattle.crx_compact.proofs.arcs.{Weights.difference-zero, Bounds.within-is}
use Rattle.crx_compact.specs.ArcSteps.{arc_after_number, value_of_tail}
use Rattle.crx_compact.specs.meaning.AnyWriter.{Arc, code_now, MayFollow}
use Rattle.crx_compact.specs.AnyWriter.{value_now, arc_left}

pub record Goes (width : ℕ) (before now : Option Arc) : Type 0 where
  pub value : value_of_code width (code_now now) (arc_left before) ≡ Ok (value_now now)
  pub leaves : arc_of_code (code_now now) (arc_left before) ≡ arc_left now

pub values-back : (n : ℕ) (xs : List ℤ) → values_of n (numbers_of n xs) ≡ xs
values-back n [] = refl
values-back n (x ∷ xs) = cc (value-numbers n xs x, values-back n xs)

abbrev pub tail_at : ℕ → List ℤ → ArcTail
tail_at n xs = record { order = n; differences = differences_of n xs }

step : (n : ℕ) (x y : ℤ) (ys : List ℤ)
    → arc_after_number (difference (min (length (y ∷ ys)) n) (x ∷ y ∷ ys)) (tail_at n (y ∷ ys))
    ≡ tail_at n (x ∷ y ∷ ys)
step n x y ys =
    let d = difference (min (length (y ∷ ys)) n) (x ∷ y ∷ ys) in
    let c = difference (min (length ys) n) (y ∷ ys) in
    let tails = (values-by_tail n d c (numbers_of n ys)).tail in
    grind (arith, common_steps, d, tails, values-back n (y ∷ ys), values-back n (x ∷ y ∷ ys))

by_older : (width n : ℕ) (x : ℤ) (older : List ℤ) (before : Option Arc) → IsWithin width x
    → MayFollow before (Some (record { order = n; newest = x; older = older }))
    → Goes width before (Some (record { order = n; newest = x; older = older }))
by_older width n x [] before h f = grind (arith, common_steps, (within-is width x).1 h, first-differences)
by_older width n x (y ∷ ys) before h (inl e) = absurd (cc e)
by_older width n x (y ∷ ys) before h (inr e) = rw (← e) (record {
  value = ap (λ t. in_range width (value_of_tail t)) (step n x y ys)
      ∙ ap (in_range width) (difference-zero x (y ∷ ys)) ∙ cc ((within-is width x).1 h);
  leaves = ap {B = Option ArcTail} Some (step n x y ys);
})

-- after any arc or none, and by any choice of the writer
pub goes : (width : ℕ) (before now : Option Arc) → MayFollow before now
    → IsMissingOrWithin width (value_now now)
    → Goes width before now
goes width before None f h = record { value = refl; leaves = refl }
goes width before (Some arc) f h = by_older width arc.order arc.newest arc.older before h f
