-- Texts in pieces of 16 characters and a rest.
use Rattle.std.proofs.Common.{rules, ℕ, zero, suc, ◌≡◌, ◌+◌, ◌-◌, ◌≤◌, ◌&&◌, Bool, List, [], ◌∷◌}
use Rattle.std.proofs.{Common.{◌++◌, length, drop, take, arith, refl, ap, sym, ◌∙◌}, Math.Seq.take-add}
use Rattle.std.proofs.{Math.Seq.take-take, lemmas.{Grind.common_steps, List.{length-drop, take_all}}}
use Rattle.std.{proofs.lemmas.List.Folds.list_all-append, specs.{List.list_all, Simd.Lanes.{zip2, chunk}}}

-- ---- tests

pub list_all-piece : (p : ℕ → Bool) (i n : ℕ) (xs : List ℕ)
    → (list_all p (take i xs) && list_all p (chunk i n xs)) ≡ list_all p (take (i + n) xs)
list_all-piece p i n xs = sym (ap (list_all p) (take-add i n xs) ∙ list_all-append p _ _)

-- a beginning and an end that overlap or meet
list_all-overlap : (p : ℕ → Bool) (m i : ℕ) (xs : List ℕ)
    → m ≤ i → (list_all p (take i xs) && list_all p (drop m xs)) ≡ list_all p xs
list_all-overlap p zero (suc i) (x ∷ xs) le = grind (arith, common_steps, list_all-overlap p zero i xs)
list_all-overlap p (suc m) (suc i) (x ∷ xs) le = grind (arith, common_steps, list_all-overlap p m i xs)
list_all-overlap p m i xs le = grind (arith, common_steps)

pub list_all_ends : (p : ℕ → Bool) (n : ℕ) (xs : List ℕ) → length xs ≤ n + n
    → list_all p (take n xs ++ drop (length xs - n) xs) ≡ list_all p xs
list_all_ends p n xs few = list_all-append p _ _ ∙ list_all-overlap p _ n xs (omega (arith, few))

-- the last piece, part of which was passed before
pub list_all-last_piece : (p : ℕ → Bool) (n i : ℕ) (xs : List ℕ) → n ≤ length xs → length xs - n ≤ i
    → (list_all p (take i xs) && list_all p (chunk (length xs - n) n xs)) ≡ list_all p xs
list_all-last_piece p n i xs some passed = search (rules, take_all, length-drop, list_all, list_all-overlap)

-- ---- rules

pub zip2-append : (f : ℕ → ℕ → ℕ) (as' bs cs ds : List ℕ)
    → length as' ≡ length cs → zip2 f (as' ++ bs) (cs ++ ds) ≡ zip2 f as' cs ++ zip2 f bs ds
zip2-append f (a ∷ as') bs (c ∷ cs) ds same = ap (λ t. f a c ∷ t) (zip2-append f as' bs cs ds (omega arith))
zip2-append f as' bs cs ds same = grind (arith, common_steps)

pub zip2-take : (f : ℕ → ℕ → ℕ) (n : ℕ) (xs ys : List ℕ)
    → zip2 f (take n xs) (take n ys) ≡ take n (zip2 f xs ys)
zip2-take f (suc n) (x ∷ xs) (y ∷ ys) = ap (λ t. f x y ∷ t) (zip2-take f n xs ys)
zip2-take f n xs ys = grind (arith, common_steps)

pub zip2-drop : (f : ℕ → ℕ → ℕ) (n : ℕ) (xs ys : List ℕ)
    → zip2 f (drop n xs) (drop n ys) ≡ drop n (zip2 f xs ys)
zip2-drop f (suc n) (x ∷ xs) [] = no_more (drop n xs)
  where
    no_more : (zs : List ℕ) → zip2 f zs [] ≡ []
    no_more [] = refl
    no_more (z ∷ zs) = refl
zip2-drop f (suc n) (x ∷ xs) (y ∷ ys) = zip2-drop f n xs ys
zip2-drop f n xs ys = grind (arith, common_steps)

pub zip2-chunk : (f : ℕ → ℕ → ℕ) (i n : ℕ) (xs ys : List ℕ)
    → zip2 f (chunk i n xs) (chunk i n ys) ≡ chunk i n (zip2 f xs ys)
zip2-chunk f i n xs ys = zip2-take f n _ _ ∙ ap (take n) (zip2-drop f i xs ys)

-- one more piece of a text that is being written
pub piece_written : (i n : ℕ) (whole out made : List ℕ) → take i out ≡ take i whole
    → take (i + n) made ≡ take i out ++ chunk i n whole → take (i + n) made ≡ take (i + n) whole
piece_written i n whole out made before written = grind (arith, common_steps, chunk, take-add)

-- the last piece, written over some of those before
pub last_written : (m n i : ℕ) (whole out made : List ℕ) → m + n ≡ length whole → m ≤ i
    → take i out ≡ take i whole
    → length made ≡ length whole → take (m + n) made ≡ take m out ++ chunk m n whole → made ≡ whole
last_written m n i whole out made all passed before long written =
    sym (take_all (m + n) made (omega (arith, long, all))) ∙ piece_written m n whole out made
    (sym (take-take m i out passed) ∙ ap (take m) before ∙ take-take m i whole passed) written
    ∙ take_all (m + n) whole (omega (arith, all))
