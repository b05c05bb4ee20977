-- Texts are the same if their two ends are, which meet: compared as lanes.
use Rattle.crx_compact.proofs.Vocabulary.{true, ℕ, ◌≡◌, ◌+◌, ◌-◌, ◌≤◌}
use Rattle.crx_compact.proofs.Vocabulary.{nat_eq, List, [], ◌∷◌, length, take, drop, w8, refl, sym, ◌∙◌}
use Rattle.crx_compact.proofs.Vocabulary.{arith, ◌≢◌, MatchBool, length-drop, length-take-le, take_all}
use Rattle.crx_compact.proofs.Vocabulary.{length-chunk, tops_compared, common_steps}
use Rattle.std.proofs.Math.Seq.{take-take}
use Rattle.std.proofs.{lemmas.Bool.Decides.{Decides-eqb}, lemmas.List.take-append-drop}
use Rattle.crx_text.proofs.LaneBits.{differs, others, same_rows}
use lib.Lanes.{chunk, mask_l, zip2}

none_within : (xs : List ℕ) → mask_l (zip2 differs xs xs) ≡ 0
none_within [] = refl
none_within (x ∷ xs) = grind (arith, none_within xs)

-- a text doesn't differ from itself
alike : (xs ys : List ℕ) → xs ≡ ys → others xs ys ≡ 0
alike xs ys same = rw (← same) (cc (tops_compared w8 differs xs xs, none_within xs))

same_ends : (n : ℕ) (xs ys : List ℕ) → n ≤ 64 → n ≤ length xs → length xs ≤ n + n → length ys ≡ length xs
    → others (take n xs) (take n ys) ≡ 0
    → nat_eq (others (chunk (length xs - n) n xs) (chunk (length xs - n) n ys)) 0 ≡ true → xs ≡ ys
same_ends n xs ys narrow some few long first last =
    let m = length xs - n in
    let one = length-chunk m n xs (omega (arith, some)) in
    let two = length-chunk m n ys (omega (arith, some, long)) in
    let none = (Decides-eqb _ 0).0 last in
    let rest = same_rows (chunk m n xs) (chunk m n ys) (two ∙ sym one) (omega arith) none in
    let before = length-take-le n xs some in
    let after = length-take-le n ys (omega arith) in
    let begin = same_rows (take n xs) (take n ys) (after ∙ sym before) (omega arith) first in
    let xs-cut = take-take m n xs (omega arith) in
    let ys-cut = take-take m n ys (omega arith) in
    let xs-end = take_all n (drop m xs) (omega (arith, length-drop m xs)) in
    let ys-end = take_all n (drop m ys) (omega (arith, length-drop m ys)) in
    cc (take-append-drop m xs, take-append-drop m ys)

-- if the first ends are the same, the last ones decide
pub last-ends_decide : (n : ℕ) (xs ys : List ℕ) → n ≤ 64 → n ≤ length xs
    → length xs ≤ n + n → length ys ≡ length xs → others (take n xs) (take n ys) ≡ 0 → MatchBool
    (nat_eq (others (chunk (length xs - n) n xs) (chunk (length xs - n) n ys)) 0) (xs ≡ ys) (xs ≢ ys)
last-ends_decide n xs ys narrow some few long first = grind (arith, same_ends, alike)

-- if they aren't, the texts differ
pub first-ends_decide : (n : ℕ) (xs ys : List ℕ) → (others (take n xs) (take n ys) ≡ 0 → ⊥)
    → MatchBool (nat_eq (others (take n xs) (take n ys)) 0) (xs ≡ ys) (xs ≢ ys)
first-ends_decide n xs ys other = grind (arith, common_steps, alike)
