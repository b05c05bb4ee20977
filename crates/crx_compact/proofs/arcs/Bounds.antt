-- Differences of values in range are numbers that a coded value can hold.
use Rattle.crx_compact.proofs.Vocabulary.{◌≡◌, ℕ, zero, suc, ◌+◌, ◌^◌, ◌<◌, ◌≤◌, min, true, ℤ, pos, neg_ℤ}
use Rattle.crx_compact.proofs.Vocabulary.{List, [], ◌∷◌, length, AllByRecursion, arith, ints, WRITTEN_ORDER}
use Rattle.crx_compact.proofs.Vocabulary.{DIGITS_LIMIT, IsWithin, IsShort, IsPrintable, code_at}
use Rattle.crx_compact.proofs.Vocabulary.{difference, is_within}
use Rattle.std.specs.Prelude.{◌↔◌, ◌≤ℤ◌}
use Rattle.std.proofs.Math.Nat.{pow-le-pow_right}
use Rattle.crx_compact.proofs.arcs.Weights.{difference-suc, difference-zero}

-- a number is at most `bound` away from 0
pub record IsNear (bound : ℕ) (z : ℤ) : Type 0 where
  pub low : neg_ℤ (pos bound) ≤ℤ z
  pub high : z ≤ℤ pos bound

-- a bound, doubled `k` times
abbrev pub doubled : ℕ → ℕ → ℕ
doubled zero b = b
doubled (suc k) b = doubled k b + doubled k b

pub difference-near : (k b : ℕ) (xs : List ℤ) → AllByRecursion (IsNear b) xs
    → IsNear (doubled k b) (difference k xs)
difference-near zero b [] h = omega (arith, ints)
difference-near zero b (x ∷ xs) h = rw (difference-zero x xs) h.0
difference-near (suc k) b [] h = omega (arith, ints)
difference-near (suc k) b (x ∷ xs) h =
    omega (arith, ints, difference-suc k x xs, difference-near k b (x ∷ xs) h, difference-near k b xs h.1)

pub doubled-more : (k n b : ℕ) → k ≤ n → doubled k b ≤ doubled n b
doubled-more zero (suc n) b h = omega (arith, doubled-more zero n b (omega arith))
doubled-more (suc k) (suc n) b h = omega (arith, doubled-more k n b (omega (arith, h)))
doubled-more k zero b h = grind arith

-- the difference in an arc's coded value
pub difference-within : (b : ℕ) (x : ℤ) (xs : List ℤ) → AllByRecursion (IsNear b) (x ∷ xs)
    → IsNear (doubled WRITTEN_ORDER b) (difference (min (length xs) WRITTEN_ORDER) (x ∷ xs))
difference-within b x xs h =
    let order = min (length xs) WRITTEN_ORDER in
    omega (arith, ints, doubled-more order WRITTEN_ORDER b (omega arith), difference-near order b (x ∷ xs) h)

short : (b : ℕ) (z : ℤ) → b < 10 ^ DIGITS_LIMIT → IsNear b z → IsShort z
short b z h k = grind arith

-- the coded value of an arc within a bound
pub code-printable : (b : ℕ) (xs : List ℤ) → doubled WRITTEN_ORDER b < 10 ^ DIGITS_LIMIT
    → AllByRecursion (IsNear b) xs → IsPrintable (code_at WRITTEN_ORDER xs)
code-printable b [] h k = tt
code-printable b (x ∷ []) h k = grind arith
code-printable b (x ∷ y ∷ ys) h k = short _ _ h (difference-within b x (y ∷ ys) k)

pub ten-more : (a b : ℕ) → a ≤ b → 10 ^ a ≤ 10 ^ b
ten-more a b h = pow-le-pow_right (omega arith) h

-- the test of a value's columns and the fact
pub within-is : (width : ℕ) (z : ℤ) → (is_within width z ≡ true) ↔ IsWithin width z
within-is width z = grind arith
