-- The step of the running differences, both ways.
use Rattle.crx_compact.proofs.Vocabulary.{◌≡◌, refl, ℕ, zero, suc, ◌-◌, min, ℤ, pos, List, [], ◌∷◌, length, take}
use Rattle.crx_compact.proofs.Vocabulary.{ap, arith, rules, ints, each_place, common_steps, ◌+ℤ◌, ◌-ℤ◌, difference}
use Rattle.crx_compact.proofs.Vocabulary.{value_at, differences_of, values_of, differences_after, highest}
use Rattle.crx_compact.proofs.arcs.Inversion.{numbers_of, value-numbers, value-first, value-step}
use Rattle.crx_compact.proofs.Vocabulary.{differences_by, take-each_place}
use Rattle.crx_compact.proofs.{arcs.Weights.{difference-suc, difference-zero}, arcs.Inversion.without_oldest}
use Rattle.crx_compact.specs.{meaning.Differences.newest, ArcLaws.{CodesByTail, ValuesByTail}}

-- ---- in compaction

differences-each : (m : ℕ) (f g : ℕ → ℤ)
    → ((i : ℕ) → f (suc i) ≡ f i -ℤ g i) → differences_after (f zero) (each_place m g) ≡ each_place (suc m) f
differences-each zero f g h = refl
differences-each (suc m) f g h =
    cc (h zero, differences-each m (λ i. f (suc i)) (λ i. g (suc i)) (λ i. h (suc i)))

-- the differences of an arc after its next value
pub differences-step : (n : ℕ) (x y : ℤ) (ys : List ℤ)
    → take (suc n) (differences_after x (differences_of n (y ∷ ys))) ≡ differences_of n (x ∷ y ∷ ys)
differences-step n x y ys =
    let m = suc (min (length (y ∷ ys) - 1) n) in
    let count : min (suc n) (suc m) ≡ suc (min (length (x ∷ y ∷ ys) - 1) n) = omega arith in
    let all = differences-each m (λ i. difference i (x ∷ y ∷ ys)) (λ i. difference i (y ∷ ys))
    (λ i. difference-suc i x (y ∷ ys)) in
    cc (difference-zero x (y ∷ ys), take-each_place (suc n) (suc m) (λ i. difference i (x ∷ y ∷ ys)))

highest-each : (m : ℕ) (f : ℕ → ℤ) → highest (each_place (suc m) f) ≡ f m
highest-each zero f = refl
highest-each (suc m) f = highest-each m (λ i. f (suc i))

pub first-differences : (n : ℕ) (x : ℤ) → differences_of n (x ∷ []) ≡ x ∷ []
first-differences n x = search rules

pub codes-by_tail : (n : ℕ) (x : ℤ) (older : List ℤ) → CodesByTail n x older
codes-by_tail n x y = grind (arith, common_steps, highest-each, differences-step)

-- ---- in expansion

-- the newest number counts once
value-newest : (n : ℕ) (older : List ℤ) (c : ℤ) → value_at n (c ∷ older) ≡ c +ℤ value_at n (pos 0 ∷ older)
value-newest zero older c = omega (arith, ints)
value-newest (suc n) [] c = omega (arith, ints, value-first n c, value-first n (pos 0))
value-newest (suc n) (y ∷ ys) c =
    let first = value-newest n (without_oldest (y ∷ ys)) c in
    omega (arith, ints, value-step n c y ys, value-step n (pos 0) y ys)

-- the numbers of the values are the numbers again
pub numbers-values : (n : ℕ) (cs : List ℤ) → numbers_of n (values_of n cs) ≡ cs
numbers-values n [] = refl
numbers-values n (c ∷ older) =
    let v = value_at n (c ∷ older) in
    let c' = difference (min (length (values_of n older)) n) (v ∷ values_of n older) in
    let rest = ap (λ r. value_at n (c' ∷ r)) (numbers-values n older) in
    let again = value-numbers n (values_of n older) v in
    let same : c' ≡ c = omega (arith, ints, value-newest n older c', value-newest n older c) in
    cc (same, numbers-values n older)

differences-by_each : (k : ℕ) (f g : ℕ → ℤ)
    → ((i : ℕ) → f (suc i) ≡ f i -ℤ g i) → differences_by (f k) (each_place k g) ≡ each_place (suc k) f
differences-by_each zero f g h = refl
differences-by_each (suc k) f g h =
    let sum : g zero +ℤ f (suc zero) ≡ f zero = omega (arith, ints, h zero) in
    cc (differences-by_each k (λ i. f (suc i)) (λ i. g (suc i)) (λ i. h (suc i)))

-- the differences of an arc's values after a next number
pub values-differences : (n : ℕ) (c b : ℤ) (older : List ℤ) → differences_of n (values_of n (c ∷ b ∷ older))
    ≡ differences_by c (take n (differences_of n (values_of n (b ∷ older))))
values-differences n c b older =
    let v = value_at n (c ∷ b ∷ older) in
    let w = value_at n (b ∷ older) in
    let vs = values_of n older in
    let k = min (length (w ∷ vs)) n in
    let number = ap newest (numbers-values n (c ∷ b ∷ older)) in
    let all = differences-by_each k
    (λ i. difference i (v ∷ w ∷ vs)) (λ i. difference i (w ∷ vs)) (λ i. difference-suc i v (w ∷ vs)) in
    let count : min (length (v ∷ w ∷ vs) - 1) n ≡ k = omega arith in
    let count' : min n (suc (min (length (w ∷ vs) - 1) n)) ≡ k = omega arith in
    let first = take-each_place n (suc (min (length (w ∷ vs) - 1) n)) (λ i. difference i (w ∷ vs)) in
    cc (count, all, number, count')

pub values-by_tail : (n : ℕ) (c b : ℤ) (older : List ℤ) → ValuesByTail n c b older
values-by_tail n c b older =
    grind (arith, values-differences, difference-zero (value_at n (c ∷ b ∷ older)) (values_of n (b ∷ older)))
