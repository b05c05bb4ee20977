-- Sums of weighted numbers, and differences as such sums.
use Rattle.crx_compact.proofs.Vocabulary.{◌≡◌, refl, ℕ, zero, suc, ◌+◌, ℤ, pos, neg_ℤ, ◌+ℤ◌, ◌-ℤ◌, ◌*ℤ◌, List, []}
use Rattle.crx_compact.proofs.Vocabulary.{◌∷◌, ap, arith, ints, binomial, weighted, difference}
use lib.IntN.{ℤ_ind, +ℤ_one, -ℤ_one, +ℤ-suc_ℤ, +ℤ-pred_ℤ, suc_ℤ-*ℤ, pred_ℤ-*ℤ, +ℤ_idr, zero-*ℤ}
use Rattle.crx_compact.specs.meaning.Differences.{alternating}

-- ---- weighted sums

-- a product of a sum, by the second summand: at 0, at one more, and at one less
mul-add : (a b x : ℤ) → (a +ℤ b) *ℤ x ≡ (a *ℤ x) +ℤ (b *ℤ x)
mul-add a b x = ℤ_ind (λ n. (a +ℤ n) *ℤ x ≡ (a *ℤ x) +ℤ (n *ℤ x))
    (cc (+ℤ_idr a, zero-*ℤ x, +ℤ_idr (a *ℤ x))) (λ n h. up (pos n) h) (λ n h. down (neg_ℤ (pos n)) h) b
  where
    up : (n : ℤ) → (a +ℤ n) *ℤ x ≡ (a *ℤ x) +ℤ (n *ℤ x)
        → (a +ℤ (n +ℤ pos 1)) *ℤ x ≡ (a *ℤ x) +ℤ ((n +ℤ pos 1) *ℤ x)
    up n h = rw (+ℤ_one n, +ℤ-suc_ℤ a n, suc_ℤ-*ℤ (a +ℤ n) x, suc_ℤ-*ℤ n x) (omega (arith, ints, h))

    down : (n : ℤ) → (a +ℤ n) *ℤ x ≡ (a *ℤ x) +ℤ (n *ℤ x)
        → (a +ℤ (n +ℤ neg_ℤ (pos 1))) *ℤ x ≡ (a *ℤ x) +ℤ ((n +ℤ neg_ℤ (pos 1)) *ℤ x)
    down n h = rw (-ℤ_one n, +ℤ-pred_ℤ a n, pred_ℤ-*ℤ (a +ℤ n) x, pred_ℤ-*ℤ n x) (omega (arith, ints, h))

-- if each weight is the sum of two others
pub weighted-sum : (u v w : ℕ → ℤ) → ((i : ℕ) → u i ≡ v i +ℤ w i) → (xs : List ℤ)
    → weighted u xs ≡ weighted v xs +ℤ weighted w xs
weighted-sum u v w each [] = refl
weighted-sum u v w each (x ∷ xs) =
    let head = ap (λ n. n *ℤ x) (each zero) in
    let rest = weighted-sum (λ i. u (suc i)) (λ i. v (suc i)) (λ i. w (suc i)) (λ i. each (suc i)) xs in
    omega (arith, ints, mul-add (v zero) (w zero) x)

-- ---- differences

alternating-add : (i a b : ℕ) → alternating i (pos (a + b)) ≡ alternating i (pos a) +ℤ alternating i (pos b)
alternating-add zero a b = omega (arith, ints)
alternating-add (suc i) a b = omega (arith, ints, alternating-add i a b)

-- a difference of the next order is the difference of two differences, by Pascal's law
pub difference-suc : (k : ℕ) (x : ℤ) (xs : List ℤ)
    → difference (suc k) (x ∷ xs) ≡ difference k (x ∷ xs) -ℤ difference k xs
difference-suc k x xs =
    let law = weighted-sum (λ i. alternating (suc i) (pos (binomial k (suc i))))
    (λ i. alternating (suc i) (pos (binomial (suc k) (suc i)))) (λ i. alternating i (pos (binomial k i)))
    (λ i. omega (arith, ints, alternating-add i (binomial k i) (binomial k (suc i)))) xs in
    omega (arith, ints)

pub difference-zero : (x : ℤ) (xs : List ℤ) → difference 0 (x ∷ xs) ≡ x
difference-zero x xs =
    let w : ℕ → ℤ = λ i. alternating (suc i) (pos 0) in
    omega (arith, ints, weighted-sum w w w (λ i. omega (arith, ints, alternating-add i 0 0)) xs)
