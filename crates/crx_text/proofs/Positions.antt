-- Two texts by position: as far as both go, and the rest of one.
use Rattle.std.proofs.lemmas.Grind.{common_steps}
use Rattle.std.proofs.Common.{ℕ, suc, ◌≡◌, ◌≤◌, List, [], ◌∷◌, ◌++◌, length, drop, take, replicate}
use Rattle.std.{proofs.Common.{arith, refl, ap}, specs.Simd.Lanes.zip2}
use Rattle.crx_text.specs.meaning.Texts.{by_position}

pub by_position-split : (f : ℕ → ℕ → ℕ) (n : ℕ) (xs ys : List ℕ) → n ≤ length xs
    → n ≤ length ys → by_position f xs ys
    ≡ zip2 f (take n xs) (take n ys) ++ by_position f (drop n xs) (drop n ys)
by_position-split f (suc n) (x ∷ xs) (y ∷ ys) first second =
    grind (arith, common_steps, by_position-split f n xs ys)
by_position-split f n xs ys first second = grind (arith, common_steps)

pub by_position-old : (f : ℕ → ℕ → ℕ) (xs : List ℕ)
    → by_position f xs [] ≡ zip2 f xs (replicate (length xs) 32)
by_position-old f [] = refl
by_position-old f (x ∷ xs) = ap (λ t. f x 32 ∷ t) (by_position-old f xs)

pub by_position-other : (f : ℕ → ℕ → ℕ) (ys : List ℕ)
    → by_position f [] ys ≡ zip2 f (replicate (length ys) 32) ys
by_position-other f [] = refl
by_position-other f (y ∷ ys) = ap (λ t. f 32 y ∷ t) (by_position-other f ys)
