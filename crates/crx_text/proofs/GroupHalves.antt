-- A size's groups of three digits, two halves at a time.
use Rattle.std.proofs.Common.{◌≡◌, ℕ, ◌+◌, ◌*◌, ◌/◌, ◌%◌, ◌^◌, ◌<◌, List, [], ◌∷◌, length}
use Rattle.std.proofs.{Common.{map, arith}}
use lib.Lanes.{Each1, zip2, digits_l, number_l}

-- ---- the halves

-- the halves as the code makes them
abbrev pub halves_of : List ℕ → List ℕ
halves_of v =
    let times = zip2 (λ a b. a * b % 2 ^ 64) in
    let plus = zip2 (λ a b. (a + b) % 2 ^ 64) in
    let down = zip2 (λ a b. a / 2 ^ b) in
    plus v (times (down (times v (274877907 ∷ 274877907 ∷ [])) (38 ∷ 38 ∷ [])) (4294966296 ∷ 4294966296 ∷ []))

pub halves_are : (v : List ℕ) → length v ≡ 2 → Each1 (λ half. half < 10 ^ 6) v
    → halves_of v ≡ map (λ half. half % 1000 + half / 1000 * 2 ^ 32) v
halves_are [] long small = absurd (omega arith)
halves_are (x ∷ []) long small = absurd (omega arith)
halves_are (x ∷ y ∷ []) long small = grind arith
halves_are (x ∷ y ∷ z ∷ v) long small = absurd (omega arith)

-- ---- the groups in them

-- the lanes of two halves
abbrev pub lanes_of : List ℕ → List ℕ
lanes_of v = digits_l (2 ^ 32) 4 (number_l 256 (digits_l 256 16 (number_l (2 ^ 64) v)))

pub groups_are : (size high low : ℕ) → size < 10 ^ 12 → high ≡ size / 10 ^ 6 → low ≡ size % 10 ^ 6
    → lanes_of ((high % 1000 + high / 1000 * 2 ^ 32) ∷ (low % 1000 + low / 1000 * 2 ^ 32) ∷ [])
    ≡ size / 10 ^ 6 % 1000 ∷ size / 10 ^ 9 ∷ size % 1000 ∷ size / 1000 % 1000 ∷ []
groups_are size high low small is rest = grind arith

-- ---- the halves next to each other

abbrev pub wide_of : List ℕ → List ℕ
wide_of v = digits_l (2 ^ 64) 2 (number_l 256 (digits_l 256 16 (number_l (2 ^ 32) v)))

pub wide_are : (high low : ℕ) → high < 2 ^ 32 → low < 2 ^ 32 → wide_of (high ∷ 0 ∷ low ∷ 0 ∷ [])
    ≡ high ∷ low ∷ []
wide_are high low first second = grind arith
