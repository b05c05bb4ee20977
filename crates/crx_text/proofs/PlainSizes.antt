-- The number that a row of lanes weighs, three digits at a time.
use Rattle.std.proofs.Common.{◌≡◌, ℕ, suc, ◌+◌, ◌-◌, ◌*◌, ◌%◌, ◌^◌, ◌<◌, ◌≤◌, true, cond, ltb}
use Rattle.std.proofs.Common.{bit_and, ◌/◌, leb, List, [], ◌∷◌, ◌++◌, map, length, replicate, get_or, subst}
use Rattle.std.proofs.{Common.{Fits, w8, refl, sym, ltb-true, ltb-false, arith}, Math.Nat.pow-suc}
use Rattle.std.proofs.{Math.Nat.mul-le-mul_right, lemmas.Bool.{and_parts, leb-true}}
use Rattle.std.proofs.lemmas.{Grind.common_steps, List.Folds.list_all-append}
use Rattle.std.specs.{List.{range_with_len, list_all}, Str.all_ascii_digits}
use lib.Lanes.{Each1, pick_l, top, zip2, sel_l, dots}
use Rattle.crx_text.proofs.GroupHalves.{wide_of}
use Rattle.crx_text.proofs.LaneBits.{sixteen}
use Rattle.crx_text.proofs.PlainLanes.{lane_fits}
use Rattle.crx_text.specs.Fields.{IsPlain, is_plain_after, weighed, plain_digits}

-- a lane's byte less 48, or 0 if it is below 48
abbrev pub digit_lane : ℕ → ℕ
digit_lane c = (cond (top 7 (cond (ltb c 48) 255 0)) 48 c + (256 - 48)) % 256

digit_lane_is : (c : ℕ) → c < 256 → digit_lane c ≡ c - 48
digit_lane_is c small = grind (arith, common_steps, ltb, cond, top, ltb-true, ltb-false)

-- four groups of three digits
abbrev pub size_parts : List ℕ → List ℕ
size_parts v =
    let below = zip2 (λ a b. cond (ltb a b) 255 0) v (replicate 16 48) in
    let digits = zip2 (λ a b. (a + (256 - b)) % 256)
    (sel_l (map (top 7) below) (replicate 16 48) v) (replicate 16 48) in
    dots (pick_l 0 (digits ++ digits) (1 ∷ 2 ∷ 3 ∷ 0 ∷ 4 ∷ 5 ∷ 6 ∷ 0 ∷ 7 ∷ 8 ∷ 9 ∷ 0 ∷ 11 ∷ 12 ∷ 13 ∷ 0 ∷ []))
    (100 ∷ 10 ∷ 1 ∷ 0 ∷ 100 ∷ 10 ∷ 1 ∷ 0 ∷ 100 ∷ 10 ∷ 1 ∷ 0 ∷ 100 ∷ 10 ∷ 1 ∷ 0 ∷ [])

-- four groups of three digits joined
abbrev pub joined_of : List ℕ → ℕ
joined_of groups =
    ((get_or groups 0 0 * 1000 + get_or groups 1 0) * 1000 + get_or groups 2 0) * 1000 + get_or groups 3 0

-- the groups joined two at a time, as the code does it
abbrev pub joined_pairs : List ℕ → List ℕ
joined_pairs groups =
    let pairs = wide_of groups in
    let first = zip2 bit_and pairs (replicate 2 4294967295) in
    zip2 (λ a b. (a + b) % 2 ^ 64) (zip2 (λ a b. a * b % 2 ^ 64) first (replicate 2 1000))
    (zip2 (λ a b. a / 2 ^ b) pairs (replicate 2 32))

pub pairs_are : (groups : List ℕ) → length groups ≡ 4 → Each1 (λ group. group < 2 ^ 16) groups
    → joined_pairs groups ≡ (get_or groups 0 0 * 1000 + get_or groups 1 0)
    ∷ (get_or groups 2 0 * 1000 + get_or groups 3 0) ∷ []
pairs_are = grind (arith, common_steps, zip2, bit_and, replicate)

-- three digits, as the weights add them up
abbrev pub group_of : ℕ → ℕ → ℕ → ℕ → ℕ
group_of a b c x = (a * 100 + b * 10) + (c * 1 + x * 0)

pub twelve : (a b c d e f g h i j k l x : ℕ) →
    ((group_of a b c x * 1000 + group_of d e f x) * 1000 + group_of g h i x) * 1000 + group_of j k l x
    ≡ (((((((((((0 * 10 + a) * 10 + b) * 10 + c) * 10 + d) * 10 + e) * 10 + f) * 10 + g) * 10 + h) * 10
    + i) * 10 + j) * 10 + k) * 10 + l
twelve a b c d e f g h i j k l x = omega arith

size_of_lanes : (c : ℕ → ℕ) → ((i : ℕ) → c i < 256) → joined_of (size_parts (map c (range_with_len 0 16)))
    ≡ weighed 0 (plain_digits (map c (range_with_len 0 16)))
size_of_lanes c small = grind (arith, common_steps, digit_lane_is, digit_lane, twelve)

pub size_from_parts : (v : List ℕ)
    → length v ≡ 16 → Each1 (Fits w8) v → joined_of (size_parts v) ≡ weighed 0 (plain_digits v)
size_from_parts v long fits =
    subst (λ w. joined_of (size_parts w) ≡ weighed 0 (plain_digits w))
    (sym (sixteen v long)) (size_of_lanes (λ i. get_or v i 0) (λ i. lane_fits v i fits))

-- ---- the range

weighed_is_small : (n : ℕ) (cs : List ℕ) → list_all (λ c. leb c 57) cs ≡ true
    → weighed n cs < (n + 1) * 10 ^ length cs
weighed_is_small n [] small = omega arith
weighed_is_small n (c ∷ cs) small =
    let parts = and_parts _ (list_all (λ c. leb c 57) cs) small in
    let digit : n * 10 + (c - 48) + 1 ≤ (n + 1) * 10 = omega (arith, leb-true _ _ parts.0) in
    let grows = mul-le-mul_right (10 ^ length cs) digit in
    let power : 10 ^ suc (length cs) ≡ 10 ^ length cs * 10 = pow-suc 10 (length cs) in
    rw power (omega (arith, weighed_is_small (n * 10 + (c - 48)) cs parts.1, grows))

digits_are_small : (cs : List ℕ) → all_ascii_digits cs ≡ true → list_all (λ c. leb c 57) cs ≡ true
digits_are_small [] digits = refl
digits_are_small (c ∷ cs) digits = grind (arith, common_steps, digits_are_small cs)

plain_is_small : (before : ℕ) (cs : List ℕ) → is_plain_after before cs ≡ true → list_all (λ c. leb c 57) cs
    ≡ true
plain_is_small before [] plain = refl
plain_is_small before (c ∷ cs) plain = grind (arith, common_steps, plain_is_small c cs)

small_explicit : (c : ℕ → ℕ) → IsPlain (map c (range_with_len 0 16))
    → weighed 0 (plain_digits (map c (range_with_len 0 16))) < 10 ^ 12
small_explicit c plain =
    grind (
      arith,
      common_steps,
      weighed_is_small 0 (plain_digits (map c (range_with_len 0 16))),
      list_all-append,
      plain_is_small 32 (map c (range_with_len 0 10)) plain.whole,
      digits_are_small (map c (range_with_len 11 3)) plain.fraction,
    )

pub plain_size_is_small : (v : List ℕ) → length v ≡ 16 → IsPlain v → weighed 0 (plain_digits v) < 10 ^ 12
plain_size_is_small v long =
    subst (λ (w : List ℕ). IsPlain w → weighed 0 (plain_digits w) < 10 ^ 12)
    (sym (sixteen v long)) (small_explicit (λ (i : ℕ). get_or v i 0))
