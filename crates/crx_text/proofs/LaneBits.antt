-- Rows of lanes: from a list of known length to its elements, and from a mask to each lane.
use Rattle.std.proofs.Common.{take, ◌≡◌, ℕ, ◌-◌, ◌%◌, ◌^◌, Bool}
use Rattle.std.proofs.Common.{not, cond, nat_eq, eqb, bit_and, List, [], ◌∷◌, map, length, ◌+◌, ◌*◌, ◌≤◌, w8}
use Rattle.std.proofs.{Common.{replicate, refl, sym, arith}, Math.Nat.{pow-suc, one-le-pow}}
use Rattle.std.proofs.{lemmas.{Grind.common_steps}}
use Rattle.std.proofs.lemmas.{Bool.Decides.nat_tests}
use Rattle.std.proofs.lemmas.Simd.{length-zip2, mask_l-mod, pick_l_whole, tops_compared}
use Rattle.std.specs.List.{range_with_len, list_all, list_any}
use lib.Lanes.{pick_l, mask_l, top, zip2}

-- a list of length 14 is the list of its elements
pub fourteen : (xs : List ℕ) → length xs ≡ 14 → xs ≡ pick_l 0 xs (range_with_len 0 14)
fourteen xs long = sym (pick_l_whole 0 xs 14 long)

pub sixteen : (xs : List ℕ) → length xs ≡ 16 → xs ≡ pick_l 0 xs (range_with_len 0 16)
sixteen xs long = sym (pick_l_whole 0 xs 16 long)

-- ---- a mask's bits

pub no_bit : {X : Type 0} (p : X → Bool) (xs : List X) → nat_eq (mask_l (map p xs)) 0 ≡ not (list_any p xs)
no_bit p [] = refl
no_bit p (x ∷ xs) = grind (arith, common_steps, no_bit p xs)

pub all_bits : {X : Type 0} (p : X → Bool) (xs : List X)
    → nat_eq (mask_l (map p xs)) (2 ^ length xs - 1) ≡ list_all p xs
all_bits p [] = refl
all_bits p (x ∷ xs) = grind (arith, common_steps, pow-suc, one-le-pow, all_bits p xs)

-- ---- only the first lanes of a mask

pub some_of_field : (byte : ℕ) (xs : List ℕ) → length xs ≡ 16 → not (nat_eq (bit_and
    (mask_l (map (top 7) (zip2 (λ a b. cond (eqb a b) 255 0) xs (replicate 16 byte))) % 2 ^ 64)
    16383) 0) ≡ list_any (λ c. eqb c byte) (take 14 xs)
some_of_field byte xs long = grind (arith, common_steps, not, nat_eq, no_bit, eqb, list_any)

-- ---- two rows that are compared

abbrev pub differs : ℕ → ℕ → Bool
differs a b = not (eqb a b)

-- the lanes of two rows that differ, as vectors are compared
abbrev pub others : List ℕ → List ℕ → ℕ
others xs ys = mask_l (map (top 7) (zip2 (λ a b. cond (differs a b) 255 0) xs ys)) % 2 ^ 64

first_same : (a b m : ℕ) → cond (differs a b) 1 0 + 2 * m ≡ 0 → (a ≡ b) × (m ≡ 0)
first_same a b m e = grind (arith, nat_tests)

none_differ : (xs ys : List ℕ) → length ys ≡ length xs → mask_l (zip2 differs xs ys) ≡ 0 → xs ≡ ys
none_differ (x ∷ xs) (y ∷ ys) long none = grind (arith, common_steps, first_same, none_differ xs ys)
none_differ xs ys long none = grind (arith, common_steps)

pub same_rows : (xs ys : List ℕ) → length ys ≡ length xs → length xs ≤ 64 → others xs ys ≡ 0 → xs ≡ ys
same_rows xs ys long few same =
    let lanes = zip2 differs xs ys in
    let few_lanes = mask_l-mod lanes 64 (omega (arith, length-zip2 differs xs ys (sym long))) in
    none_differ xs ys long (cc (tops_compared w8 differs xs ys))

-- ---- the lanes of masks, which are 255 or 0

pub top_lane : (a : Bool) → top 7 (cond a 255 0) ≡ a
top_lane = grind (arith, common_steps)
