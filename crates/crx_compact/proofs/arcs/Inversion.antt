-- The coded values of an arc stand for its values: an induction on the order and on the arc, by one recurrence of the sums.
use Rattle.crx_compact.proofs.Vocabulary.{◌≡◌, refl, ℕ, zero, suc, ◌+◌, ◌-◌, ◌<◌, ◌≤◌, min, ℤ, pos, List, [], ◌∷◌}
use Rattle.crx_compact.proofs.Vocabulary.{◌++◌, length, take, Some, sym, ◌∙◌, ap, arith, le_of_suc-le-suc}
use Rattle.crx_compact.proofs.Vocabulary.{not-suc-le-zero, rules, ints, length-append, since_start, common_steps}
use Rattle.std.specs.Prelude.{◌+ℤ◌, ◌-ℤ◌, ◌*ℤ◌, reverse}
use Rattle.std.proofs.lemmas.List.{reverse-append, take-append-le, length-reverse}
use Rattle.crx_compact.specs.meaning.Differences.{binomial, weighted, difference, value_at}
use Rattle.crx_compact.specs.ArcLaws.{codes_of_arc, Inverts}
use Rattle.crx_compact.proofs.arcs.Weights.{weighted-sum, difference-suc, difference-zero}

-- the first differences of an arc, newest first
abbrev pub steps : List ℤ → List ℤ
steps [] = []
steps (x ∷ []) = []
steps (x ∷ y ∷ ys) = (x -ℤ y) ∷ steps (y ∷ ys)

-- an arc without its oldest value, and that value
abbrev pub without_oldest : List ℤ → List ℤ
without_oldest [] = []
without_oldest (x ∷ []) = []
without_oldest (x ∷ y ∷ ys) = x ∷ without_oldest (y ∷ ys)

abbrev pub oldest : ℤ → List ℤ → ℤ
oldest x [] = x
oldest x (y ∷ ys) = oldest y ys

-- the numbers of the coded values of an arc, newest first
abbrev pub numbers_of : ℕ → List ℤ → List ℤ
numbers_of order [] = []
numbers_of order (x ∷ xs) = difference (min (length xs) order) (x ∷ xs) ∷ numbers_of order xs

pub without_oldest-append : (x : ℤ) (xs : List ℤ) → without_oldest (x ∷ xs) ++ (oldest x xs ∷ []) ≡ x ∷ xs
without_oldest-append x [] = refl
without_oldest-append x (y ∷ ys) = ap (λ r. x ∷ r) (without_oldest-append y ys)

length-steps : (x : ℤ) (xs : List ℤ) → length (steps (x ∷ xs)) ≡ length xs
length-steps x [] = refl
length-steps x (y ∷ ys) = ap suc (length-steps y ys)

-- ---- a difference of the next order is the difference of the steps

pub difference-steps : (k : ℕ) (x y : ℤ) (ys : List ℤ)
    → k ≤ length ys → difference (suc k) (x ∷ y ∷ ys) ≡ difference k (steps (x ∷ y ∷ ys))
difference-steps zero x y ys h =
    grind (arith, difference-suc 0 x (y ∷ ys), difference-zero, difference-zero x (y ∷ ys))
difference-steps (suc k) x y [] h = absurd (not-suc-le-zero h)
difference-steps (suc k) x y (z ∷ zs) h =
    let first = difference-steps k x y (z ∷ zs) (omega (arith, h)) in
    let second = difference-steps k y z zs (le_of_suc-le-suc h) in
    cc (difference-suc (suc k) x (y ∷ z ∷ zs), difference-suc k (x -ℤ y) (steps (y ∷ z ∷ zs)))

-- the numbers except the oldest are those of the steps, of the order below
pub numbers-steps : (n : ℕ) (xs : List ℤ) → without_oldest (numbers_of (suc n) xs) ≡ numbers_of n (steps xs)
numbers-steps n (x ∷ y ∷ ys) =
    let order : min (length (y ∷ ys)) (suc n) ≡ suc (min (length ys) n) = omega arith in
    let first = difference-steps (min (length ys) n) x y ys (omega arith) in
    cc (length-steps y ys, numbers-steps n (y ∷ ys))
numbers-steps n xs = refl

-- ---- the recurrence of the values

-- a last number whose weight is 0 doesn't count
last-without_weight : (w : ℕ → ℤ) (n : ℕ) (r : List ℤ) (x : ℤ)
    → w (length r) ≡ pos 0 → weighted w (take n (r ++ x ∷ [])) ≡ weighted w (take n r)
last-without_weight w (suc n) (y ∷ r) x h = cc (last-without_weight (λ i. w (suc i)) n r x h)
last-without_weight w x r y h = grind (arith, common_steps)

pub binomial-past : (n i : ℕ) → n < i → binomial n i ≡ 0
binomial-past n zero h = absurd (not-suc-le-zero h)
binomial-past zero (suc i) h = refl
binomial-past (suc n) (suc i) h =
    omega (arith, binomial-past n i (le_of_suc-le-suc h), binomial-past n (suc i) (omega (arith, h)))

-- the two sums of a value: over the first numbers, oldest first, and over the later ones, newest first
abbrev firsts : ℕ → ℕ → List ℤ → ℤ
firsts u count numbers = weighted (λ k. pos (binomial u k)) (take count numbers)

abbrev laters : ℕ → ℕ → List ℤ → ℤ
laters m count numbers = weighted (λ i. pos (binomial (i + m) m)) (take count numbers)

value_parts : (m : ℕ) (c : List ℤ) (u d : ℕ) (o : List ℤ) → length c - 1 ≡ u
    → length c - suc m ≡ d → reverse c ≡ o → value_at (suc m) c ≡ firsts u (suc m) o +ℤ laters m d c
value_parts m c u d o eu ed eo = rw (eu, ed, eo)

-- one step of the later sum: Pascal's law
laters-step : (m d : ℕ) (x : ℤ) (c : List ℤ)
    → laters (suc m) d (x ∷ c) ≡ laters (suc m) (d - 1) c +ℤ laters m d (x ∷ c)
laters-step m zero x c = refl
laters-step m (suc e) x c =
    let less : suc e - 1 ≡ e = omega arith in
    let here : 0 + m ≡ m = omega arith in
    let next : 0 + suc m ≡ suc m = omega arith in
    let first : pos (binomial (0 + suc m) (suc m)) ≡ pos (binomial (0 + m) m) =
    rw (next, here) (omega (arith, ints, binomial-past m (suc m) (omega arith))) in
    let pascal : (i : ℕ) → pos (binomial (suc i + suc m) (suc m))
    ≡ pos (binomial (i + suc m) (suc m)) +ℤ pos (binomial (suc i + m) m) = λ i.
    let next : suc i + suc m ≡ suc (i + suc m) = omega arith in
    let same : suc i + m ≡ i + suc m = omega arith in
    rw (next, same) (omega (arith, ints)) in
    let rest = weighted-sum (λ i. pos (binomial (suc i + suc m) (suc m)))
    (λ i. pos (binomial (i + suc m) (suc m))) (λ i. pos (binomial (suc i + m) m)) pascal (take e c) in
    rw less (omega (arith, ints, ap (λ n. n *ℤ x) first))

-- one step of the first sum
firsts-step : (n : ℕ) (z x : ℤ) (r : List ℤ) → firsts (suc (length r)) (suc n) (z ∷ (r ++ x ∷ []))
    ≡ firsts (length r) (suc n) (z ∷ r) +ℤ firsts (length r) n (r ++ x ∷ [])
firsts-step n z x r =
    let past = binomial-past (length r) (suc (length r)) (omega arith) in
    let w : ℕ → ℤ = λ k. pos (binomial (length r) (suc k)) in
    let sum = weighted-sum (λ k. pos (binomial (suc (length r)) (suc k))) w
    (λ k. pos (binomial (length r) k)) (λ k. omega (arith, ints)) (take n (r ++ x ∷ [])) in
    omega (arith, ints, last-without_weight w n r x (ap pos past))

-- the value one epoch later, of an order above 0: the previous value, and the value, of the order below, of all numbers except the oldest
pub value-recurs : (n : ℕ) (x : ℤ) (b : List ℤ) (z : ℤ)
    → value_at (suc n) (x ∷ (b ++ z ∷ [])) ≡ value_at (suc n) (b ++ z ∷ []) +ℤ value_at n (x ∷ b)
value-recurs zero x b z =
    grind (
      arith,
      common_steps,
      value_parts 0 (x ∷ (b ++ z ∷ [])) (suc (length b)) (suc (length b)) (z ∷ reverse (x ∷ b)),
      value_parts 0 (b ++ z ∷ []) (length b) (length b) (z ∷ reverse b),
    )
value-recurs (suc m) x b z =
    let long = length-append b (z ∷ []) in
    let same = sym (length-reverse b) in
    let left = value_parts (suc m) (x ∷ (b ++ z ∷ [])) (suc (length (reverse b))) (length b - m) _
    (omega arith) (omega arith)
    (reverse-append (x ∷ b) (z ∷ []) ∙ ap (λ q. z ∷ q) (reverse-append (x ∷ []) b)) in
    let right = value_parts (suc m) (b ++ z ∷ []) (length (reverse b)) (length b - m - 1) (z ∷ reverse b)
    (omega arith) (omega arith) (reverse-append b (z ∷ [])) in
    let below = value_parts m (x ∷ b) (length (reverse b)) (length b - m) (reverse b ++ x ∷ [])
    (omega arith) (omega arith) (reverse-append (x ∷ []) b) in
    let cut = ap (weighted (λ i. pos (binomial (i + m) m)))
    (take-append-le (length b - m) (x ∷ b) (z ∷ []) (omega arith)) in
    let first = firsts-step (suc m) z x (reverse b) in
    omega (arith, ints, laters-step m (length b - m) x (b ++ z ∷ []))

-- the same with the oldest number found in the list
pub value-step : (n : ℕ) (x y : ℤ) (ys : List ℤ)
    → value_at (suc n) (x ∷ y ∷ ys) ≡ value_at (suc n) (y ∷ ys) +ℤ value_at n (without_oldest (x ∷ y ∷ ys))
value-step n x y ys =
    grind (arith, without_oldest-append, value-recurs n x (without_oldest (y ∷ ys)) (oldest y ys))

-- ---- inversion

pub value-first : (n : ℕ) (d : ℤ) → value_at (suc n) (d ∷ []) ≡ d
value-first n d = search rules

-- the numbers of an arc's coded values stand for its newest value
pub value-numbers : (n : ℕ) (xs : List ℤ) (x : ℤ) → value_at n (numbers_of n (x ∷ xs)) ≡ x
value-numbers (suc n) (y ∷ ys) x =
    grind (
      arith,
      common_steps,
      value-step n (difference (min (length (y ∷ ys)) (suc n)) (x ∷ y ∷ ys))
          (difference (min (length ys) (suc n)) (y ∷ ys)) (numbers_of (suc n) ys),
      numbers-steps n (x ∷ y ∷ ys),
      value-numbers (suc n) ys y,
      value-numbers n (steps (y ∷ ys)) (x -ℤ y),
    )
value-numbers x xs y = grind (arith, common_steps, difference-zero, value-first)

-- the coded values of an arc have its start, and these numbers
pub started-codes : (n : ℕ) (xs : List ℤ) (x : ℤ)
    → since_start (codes_of_arc n (x ∷ xs)) ≡ Some (record { order = n; numbers = numbers_of n (x ∷ xs) })
started-codes n [] x = search rules
started-codes n (y ∷ ys) x = cc (started-codes n ys y)

pub inverts : Inverts
inverts n a older = cc (started-codes n older a, value-numbers n older a)
