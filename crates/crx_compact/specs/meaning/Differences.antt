-- Differences of an arc's values, and the values back from them (Hatanaka's Compact RINEX 3.0, data arcs). An arc's values a_0 .. a_u and
-- the numbers c_0 .. c_u of its coded values are newest first: the newest is at place 0, a_(u-i) at place i.
use Rattle.std.specs.Prelude.{ℕ, zero, suc, ◌+◌, ◌-◌, min, ℤ, pos, neg_ℤ, ◌+ℤ◌, ◌*ℤ◌, List, [], ◌∷◌, length, take}
use Rattle.std.specs.Prelude.{reverse}
use Rattle.crx_text.specs.declared.code.Code.{Code}
use Rattle.crx_text.specs.declared.code.Code.TheVariants.{Missing, Start, Step}

-- the binomial coefficient C(n, k), 0 if k is above n
abbrev pub binomial : ℕ → ℕ → ℕ
binomial n zero = 1
binomial zero (suc k) = 0
binomial (suc n) (suc k) = binomial n k + binomial n (suc k)

-- (-1)^i times a number
abbrev pub alternating : ℕ → ℤ → ℤ
alternating zero x = x
alternating (suc i) x = neg_ℤ (alternating i x)

-- the sum of some numbers, each times the weight of its place
abbrev pub weighted : (ℕ → ℤ) → List ℤ → ℤ
weighted weight [] = pos 0
weighted weight (x ∷ xs) = (weight zero *ℤ x) +ℤ weighted (λ i. weight (suc i)) xs

-- the difference of order k at the newest value: the sum over i of (-1)^i C(k, i) a_(u-i), C(k, i) being 0 past k
abbrev pub difference : ℕ → List ℤ → ℤ
difference k values = weighted (λ i. alternating i (pos (binomial k i))) values

-- the coded value of an arc's newest value, with differences up to an order: a first value itself, otherwise the difference of that order,
-- or of order u while the arc has only u earlier values
abbrev pub code_at : ℕ → List ℤ → Code
code_at order [] = Missing
code_at order (a ∷ []) = Start order a
code_at order (a ∷ b ∷ bs) = Step (difference (min (length (b ∷ bs)) order) (a ∷ b ∷ bs))

-- the newest of some numbers
abbrev pub newest : List ℤ → ℤ
newest [] = pos 0
newest (c ∷ cs) = c

-- the value that the numbers c_0 .. c_u of an arc's coded values stand for, n being its order: c_u if n is 0; otherwise the sum of C(u, k)
-- c_k over k below n and at most u, plus the sum of C(u - j + n - 1, n - 1) c_j over j from n to u, in which the weight at place i from the
-- newest is C(i + n - 1, n - 1)
abbrev pub value_at : ℕ → List ℤ → ℤ
value_at zero numbers = newest numbers
value_at (suc m) numbers =
    weighted (λ k. pos (binomial (length numbers - 1) k)) (take (suc m) (reverse numbers))
    +ℤ weighted (λ i. pos (binomial (i + m) m)) (take (length numbers - suc m) numbers)
