-- Things with different identifiers, and one that replaces another one with the same identifier.
use Rattle.std.proofs.lemmas.{Grind.common_steps, Slice.Eq.bytes_eq-Decides}
use Rattle.std.{specs.{Prelude.Bool, Str.bytes_eq}, proofs.lemmas.Bool.{or_parts, and_parts, not-true}}
use Rattle.std.proofs.{lemmas.Bool.false_from_ne_true, Common.{◌≡◌, ℕ, suc, ◌<◌, true, false, not}}
use Rattle.std.proofs.Common.{◌||◌, List, [], ◌∷◌, ◌++◌, length, get_or, map, take, refl, ap, sym, ◌∙◌, arith}
use Rattle.crx_header.specs.meaning.Satellites.{is_among, are_apart}

-- the comparison of two texts has no order
pub other_way : (xs ys : List ℕ) → bytes_eq xs ys ≡ false → bytes_eq ys xs ≡ false
other_way xs ys h = grind (arith, common_steps, false_from_ne_true, bytes_eq, bytes_eq-Decides)

-- one more at the end, of another identifier than those before it
pub apart-push : {X : Type 0} (f : X → List ℕ) (xs : List X) (x : X)
    → are_apart f xs ≡ true → is_among f (f x) xs ≡ false → are_apart f (xs ++ x ∷ []) ≡ true
apart-push f [] x h new = refl
apart-push f (y ∷ xs) x h new = grind (arith, common_steps, other_way, apart-push f xs x)

not-at : {X : Type 0} (f : X → List ℕ) (name : List ℕ) (n : ℕ) (xs : List X) (k : ℕ) (d : X)
    → is_among f name (take n xs) ≡ false → k < n → k < length xs → bytes_eq (f (get_or xs k d)) name ≡ false
not-at = grind (arith, common_steps, or_parts)

pub new_at : {X : Type 0} (f : X → List ℕ) (n : ℕ) (xs : List X) (k : ℕ) (d : X)
    → are_apart f (take n xs) ≡ true → k < n → k < length xs
    → is_among f (f (get_or xs k d)) (take k xs) ≡ false
new_at f (suc n) (x ∷ xs) (suc k) d h a b =
    let apart = and_parts (not (is_among f (f x) (take n xs))) (are_apart f (take n xs)) h in
    let differs = not-at f (f x) n xs k d
    (not-true (is_among f (f x) (take n xs)) apart.0) (omega (arith, a)) (omega (arith, b)) in
    rw (other_way (f (get_or xs k d)) (f x) differs)
    (new_at f n xs k d apart.1 (omega (arith, a)) (omega (arith, b)))
new_at f n xs k d h a b = grind (arith, common_steps)

pub among-map : {X Y : Type 0} (f : Y → List ℕ) (g : X → Y) (name : List ℕ) (xs : List X)
    → is_among f name (map g xs) ≡ is_among (λ x. f (g x)) name xs
among-map f g name [] = refl
among-map f g name (x ∷ xs) = ap (λ (b : Bool). bytes_eq (f (g x)) name || b) (among-map f g name xs)

-- things that keep their identifiers stay different
pub apart-map : {X Y : Type 0} (f : Y → List ℕ) (g : X → Y) (xs : List X)
    → are_apart f (map g xs) ≡ are_apart (λ x. f (g x)) xs
apart-map f g [] = refl
apart-map f g (x ∷ xs) = rw (among-map f g (f (g x)) xs, apart-map f g xs) refl

-- two lists of the same identifiers have the same ones
pub among-names : {X Y : Type 0} (f : X → List ℕ) (g : Y → List ℕ) (name : List ℕ) (xs : List X) (ys : List Y)
    → map f xs ≡ map g ys → is_among f name xs ≡ is_among g name ys
among-names f g name xs ys e =
    sym (among-map (λ (n : List ℕ). n) f name xs)
    ∙ ap (is_among (λ (n : List ℕ). n) name) e ∙ among-map (λ (n : List ℕ). n) g name ys
