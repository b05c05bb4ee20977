-- Lists of a function's values at one place after another.
use Rattle.std.proofs.{Common.{sym, ◌∙◌, ap, arith}, lemmas.Grind.common_steps}
use Rattle.std.specs.{List.AllByRecursion, Prelude.{◌≡◌, refl, ℕ, zero, suc, ◌+◌, ◌<◌, ◌≤◌, min, [], ◌∷◌}}
use Rattle.std.specs.Prelude.{◌++◌, length, map, take, drop, slice_index_or}
use Rattle.crx_text.specs.meaning.EachPlace.{each_place}

pub length-each_place : {X : Type 0} (n : ℕ) (f : ℕ → X) → length (each_place n f) ≡ n
length-each_place zero f = refl
length-each_place (suc n) f = ap suc (length-each_place n (λ i. f (suc i)))

-- the value at a place of a list of n
pub index-each_place : {X : Type 0} (n j : ℕ) (f : ℕ → X) (d : X)
    → (n ≤ j → f j ≡ d) → slice_index_or (each_place n f) j d ≡ f j
index-each_place (suc n) (suc j) f d h = index-each_place n j (λ i. f (suc i)) d (λ le. h (omega (arith, le)))
index-each_place n j f d h = grind (arith, common_steps)

pub each_place-same : {X : Type 0} (n : ℕ) (f g : ℕ → X) → ((k : ℕ) → f k ≡ g k) → each_place n f
    ≡ each_place n g
each_place-same = grind (arith, common_steps)

pub each_place-all : {X : Type 0} (P : X → Type 0) (n : ℕ) (f : ℕ → X)
    → ((i : ℕ) → P (f i)) → AllByRecursion P (each_place n f)
each_place-all P zero f h = tt
each_place-all P (suc n) f h = (h 0, each_place-all P n (λ i. f (suc i)) (λ i. h (suc i)))

pub map-each_place : {X Y : Type 0} (g : X → Y) (n : ℕ) (f : ℕ → X)
    → map g (each_place n f) ≡ each_place n (λ i. g (f i))
map-each_place g zero f = refl
map-each_place g (suc n) f = ap (λ r. g (f 0) ∷ r) (map-each_place g n (λ i. f (suc i)))

pub each_place-more : {X : Type 0} (n : ℕ) (f : ℕ → X) → each_place (n + 1) f ≡ each_place n f ++ f n ∷ []
each_place-more zero f = refl
each_place-more (suc n) f = grind (arith, common_steps, each_place, each_place-more n (λ i. f (suc i)))

pub take-each_place : {X : Type 0} (k m : ℕ) (f : ℕ → X) → take k (each_place m f) ≡ each_place (min k m) f
take-each_place (suc k) (suc m) f =
    let more : min (suc k) (suc m) ≡ suc _ = omega arith in
    ap (λ r. f zero ∷ r) (take-each_place k m (λ i. f (suc i))) ∙ sym (ap (λ n. each_place n f) more)
take-each_place k m f = grind (arith, common_steps)

pub drop-each_place : {X : Type 0} (n k : ℕ) (f : ℕ → X)
    → k < n → drop k (each_place n f) ≡ f k ∷ drop (k + 1) (each_place n f)
drop-each_place (suc n) zero f h = refl
drop-each_place (suc n) (suc k) f h = grind (arith, common_steps, drop-each_place n k (λ i. f (suc i)))
drop-each_place zero k f h = absurd (omega arith)

pub drop_all-each_place : {X : Type 0} (n : ℕ) (f : ℕ → X) → drop n (each_place n f) ≡ []
drop_all-each_place zero f = refl
drop_all-each_place (suc n) f = drop_all-each_place n (λ i. f (suc i))
