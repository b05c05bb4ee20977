-- Rows of digits, and the number that the first of them make.
use Rattle.std.proofs.Common.{◌≡◌, ℕ, zero, suc, ◌+◌, ◌-◌, ◌*◌, ◌/◌, ◌%◌, ◌^◌, ◌<◌, ◌≤◌, Bool, true, false}
use Rattle.std.proofs.Common.{not, cond, ◌&&◌, T, leb, List, [], ◌∷◌, ◌++◌, map, length, replicate}
use Rattle.std.proofs.Common.{take, drop, get_or, subst, Fits, w8, refl, sym, ap, ◌∙◌, arith}
use Rattle.std.proofs.{Math.Nat.mul-le-mul_right, lemmas.Bool.{agree_below_at, and_parts}}
use Rattle.std.proofs.lemmas.{Bool.{le-leb, Decides.nat_tests}, Grind.common_steps, List.length-append}
use Rattle.std.proofs.lemmas.List.{length-take-le, take-append-drop, take-take, get_or-take, take-append-le}
use Rattle.std.proofs.lemmas.{List.{take-map, Sums.{prefix_len_stops}}, Simd.mask_l-mod}
use Rattle.std.{proofs.lemmas.Simd.trailing_mask_l, specs.{Char.is_ascii_digit, List.range_with_len}}
use Rattle.std.specs.{List.prefix_len, Str.{all_ascii_digits, Parse.{digits_value, digits_value_after}}}
use lib.{Count.count_trailing_zeros, Lanes.{Each1, chunk, pick_l, mask_l, top, zip2, dots, all_below}}
use lib.Lanes.{pair_sums, products}
use Rattle.crx_text.proofs.PowersOfTen.{digits_before, digits_value_after-append}
use Rattle.crx_text.proofs.{PowersOfTen.value_small, LaneBits.{sixteen, no_bit, top_lane}}
use Rattle.crx_text.specs.{Digits.{above_zero, written}, FirstDigits.{HasFirstDigits, is_below_ten}}
use Rattle.crx_text.specs.{declared.code_digits.TheConstants.{WEIGHTS, SCALES}, meaning.Codes.after_cell}
use Rattle.crx_text.{specs.meaning.Codes.first_cell, proofs.{GroupHalves.wide_of, PlainLanes.lane_fits}}

-- ---- the lanes of a row

-- a row's characters less 48, and the zeros after them, as the code makes them
abbrev pub row_lanes : List ℕ → List ℕ
row_lanes text = zip2 (λ a b. (a + (256 - b)) % 256)
    (pick_l 0 (take 8 text ++ replicate 8 0) (range_with_len 0 16)) (replicate 16 48)

lanes_are : (text : List ℕ) → 8 ≤ length text → row_lanes text ≡ map above_zero (take 8 text ++ replicate 8 0)
lanes_are text long = grind arith

-- each of a row's characters is a byte
abbrev pub AreBytes : List ℕ → Type 0
AreBytes row = (i : ℕ) → get_or row i 0 < 256

pub front_bytes : (n : ℕ) (text : List ℕ) → AreBytes text → AreBytes (take n text)
front_bytes zero text small i = omega arith
front_bytes (suc n) [] small i = omega arith
front_bytes (suc n) (c ∷ cs) small zero = small 0
front_bytes (suc n) (c ∷ cs) small (suc i) = front_bytes n cs (λ j. small (suc j)) i

-- ---- how many digits a row begins with

below_ten : (c : ℕ) → c < 256 → is_below_ten (above_zero c) ≡ is_ascii_digit c
below_ten c small = grind arith

digits_agree : (row : List ℕ) → AreBytes row
    → prefix_len is_below_ten (map above_zero row) ≡ prefix_len is_ascii_digit row
digits_agree [] small = refl
digits_agree (c ∷ cs) small = rw (below_ten c (small 0))
    (ap (λ n. cond (is_ascii_digit c) (1 + n) 0) (digits_agree cs (λ i. small (suc i))))

-- if the passing prefix ends among the first n, it is the same for the whole list
prefix_in_front : (p : ℕ → Bool) (n : ℕ) (xs : List ℕ)
    → prefix_len p (take n xs) < n → prefix_len p xs ≡ prefix_len p (take n xs)
prefix_in_front p (suc n) (x ∷ xs) few = grind (arith, common_steps, prefix_in_front p n xs)
prefix_in_front p n xs few = grind (arith, common_steps)

-- the lanes before one that always ends the digits
ends : (ds : List ℕ) (bits : List Bool)
    → prefix_len (λ b. not b) (map (leb 10) ds ++ true ∷ bits) ≡ prefix_len is_below_ten ds
ends [] bits = refl
ends (d ∷ ds) bits = grind (arith, common_steps, leb, is_below_ten, cond, ends ds bits)

abbrev pub end_lanes : List ℕ → List Bool
end_lanes v = map (top 7) (zip2 (λ a b. cond (leb a b) 255 0)
    (10 ∷ 10 ∷ 10 ∷ 10 ∷ 10 ∷ 10 ∷ 10 ∷ 0 ∷ 0 ∷ 0 ∷ 0 ∷ 0 ∷ 0 ∷ 0 ∷ 0 ∷ 0 ∷ []) v)

end_explicit : (c : ℕ → ℕ)
    → count_trailing_zeros 64 (mask_l (end_lanes (map c (range_with_len 0 16))) % 2 ^ 64)
    ≡ prefix_len is_below_ten (map c (range_with_len 0 7))
end_explicit c =
    let lane = λ (i : ℕ). top_lane (leb 10 (c i)) in
    let ended = λ (i : ℕ). ap (λ b. top 7 (cond b 255 0)) (le-leb 0 (c i) (omega arith)) in
    let bits : List Bool = map (leb 10) (map c (range_with_len 0 7)) ++ replicate 9 true in
    let are : end_lanes (map c (range_with_len 0 16)) ≡ bits =
    λ k. lane 0 k ∷ lane 1 k ∷ lane 2 k ∷ lane 3 k ∷ lane 4 k ∷ lane 5 k ∷ lane 6 k ∷ ended 7 k ∷ ended 8 k
    ∷ ended 9 k ∷ ended 10 k ∷ ended 11 k ∷ ended 12 k ∷ ended 13 k ∷ ended 14 k ∷ ended 15 k ∷ [] in
    let some : 0 < mask_l bits = grind (arith, nat_tests, no_bit (λ (b : Bool). b) bits) in
    let found = trailing_mask_l (λ (b : Bool). b) 64 bits (omega arith) some in
    ap (λ m. count_trailing_zeros 64 (mask_l m % 2 ^ 64)) are
    ∙ (ap (count_trailing_zeros 64) (mask_l-mod bits 64 (omega arith)) ∙ found)
    ∙ ends (map c (range_with_len 0 7)) (replicate 8 true)

end_is : (v : List ℕ) → length v ≡ 16
    → count_trailing_zeros 64 (mask_l (end_lanes v) % 2 ^ 64) ≡ prefix_len is_below_ten (take 7 v)
end_is v long =
    subst (λ w. count_trailing_zeros 64 (mask_l (end_lanes w) % 2 ^ 64)
    ≡ prefix_len is_below_ten (take 7 w)) (sym (sixteen v long)) (end_explicit (λ i. get_or v i 0))

-- ---- the number that the first digits of a row make

abbrev pub weights_of : ℕ → List ℕ
weights_of count = pick_l 0 (chunk 0 8 (take (56 - 8 * count) (drop (8 * count) WEIGHTS)) ++ replicate 8 0)
    (range_with_len 0 16)

abbrev pub scale_of : ℕ → ℕ
scale_of count = get_or SCALES count 0

abbrev pub grouped : List ℕ → List ℕ
grouped digits = pick_l 0 (digits ++ replicate 16 0)
    (0 ∷ 1 ∷ 2 ∷ 16 ∷ 3 ∷ 4 ∷ 5 ∷ 16 ∷ 16 ∷ 16 ∷ 16 ∷ 16 ∷ 16 ∷ 16 ∷ 16 ∷ 16 ∷ [])

abbrev pub pairs_of : List ℕ → ℕ → List ℕ
pairs_of digits count = wide_of (dots (grouped digits) (weights_of count))

abbrev pub total_of : List ℕ → ℕ → ℕ
total_of digits count = get_or (pairs_of digits count) 0 0 * scale_of count % 2 ^ 64 / 2 ^ 32

-- two products of bytes and weights that are small together
pub pairs_small : (xs ys : List ℕ) → Each1 (Fits w8) xs → T (all_below 128 (pair_sums ys))
    → T (all_below 32768 (pair_sums (products xs ys)))
pairs_small (x ∷ x′ ∷ xs) (y ∷ y′ ∷ ys) fits small =
    grind (arith, common_steps, mul-le-mul_right, pairs_small xs ys)
pairs_small xs ys fits small = grind (arith, common_steps)

abbrev are_small : ℕ → Bool
are_small count = all_below 128 (pair_sums (weights_of count)) && all_below 128 (weights_of count)

weights_small : (count : ℕ) → count ≤ 6
    → T (all_below 128 (pair_sums (weights_of count))) × T (all_below 128 (weights_of count))
weights_small count few =
    let parts = and_parts _ _ (agree_below_at are_small (λ k. true) 7 count refl (omega (arith, few))) in
    (subst T (sym parts.0) tt, subst T (sym parts.1) tt)

pub products_small : (digits : List ℕ) (count : ℕ) → count ≤ 6 → Each1 (Fits w8) (grouped digits)
    → T (all_below 32768 (pair_sums (products (grouped digits) (weights_of count))))
    × T (all_below 128 (weights_of count))
products_small digits count few bytes =
    let small = weights_small count few in
    (pairs_small (grouped digits) (weights_of count) bytes small.0, small.1)

-- the groups of three from the first six lanes, weighed by hundreds, tens and ones
module _ (e : ℕ → ℕ) (zeroth : e 0 < 256) (first : e 1 < 256) (second : e 2 < 256) (third : e 3 < 256)
    (fourth : e 4 < 256) (fifth : e 5 < 256) where
  of_groups : (count a b : ℕ)
      → dots (grouped (map e (range_with_len 0 16))) (weights_of count) ≡ a ∷ b ∷ 0 ∷ 0 ∷ []
      → a < 2 ^ 32 → b < 2 ^ 32
      → total_of (map e (range_with_len 0 16)) count ≡ (a + 2 ^ 32 * b) * scale_of count % 2 ^ 64 / 2 ^ 32
  of_groups count a b groups as_small bs_small = grind arith

  total_explicit : (count : ℕ) → count ≤ 6
      → total_of (map e (range_with_len 0 16)) count ≡ written 0 (take count (map e (range_with_len 0 16)))
  total_explicit zero few = of_groups 0 _ _ refl (omega arith) (omega arith) ∙ omega arith
  total_explicit (suc zero) few = of_groups 1 _ _ refl (omega arith) (omega arith) ∙ omega arith
  total_explicit (suc (suc zero)) few = of_groups 2 _ _ refl (omega arith) (omega arith) ∙ omega arith
  total_explicit (suc (suc (suc zero))) few = of_groups 3 _ _ refl (omega arith) (omega arith) ∙ omega arith
  total_explicit (suc (suc (suc (suc zero)))) few = grind arith
  total_explicit (suc (suc (suc (suc (suc zero))))) few = grind arith
  total_explicit (suc (suc (suc (suc (suc (suc zero)))))) few = grind arith
  total_explicit (suc (suc (suc (suc (suc (suc (suc count))))))) few = absurd (omega arith)

pub total_is : (v : List ℕ) (count : ℕ) → length v ≡ 16 → Each1 (Fits w8) v → count ≤ 6
    → total_of v count ≡ written 0 (take count v)
total_is v count long fits few =
    subst (λ w. total_of w count ≡ written 0 (take count w)) (sym (sixteen v long))
    (total_explicit (λ i. get_or v i 0) (lane_fits v 0 fits) (lane_fits v 1 fits) (lane_fits v 2 fits)
    (lane_fits v 3 fits) (lane_fits v 4 fits) (lane_fits v 5 fits) count few)

-- the digits less 48 make the same number as the digits
written_digits : (size count : ℕ) (row : List ℕ) → all_ascii_digits (take count row) ≡ true
    → written size (take count (map above_zero row)) ≡ digits_value_after 10 size (take count row)
written_digits size (suc count) (c ∷ cs) digits =
    grind (arith, common_steps, written_digits (size * 10 + (c - 48)) count cs)
written_digits size count row digits = grind (arith, common_steps)

-- ---- a cell that begins with digits

pub prefix_digits : (row : List ℕ) → all_ascii_digits (take (prefix_len is_ascii_digit row) row) ≡ true
prefix_digits [] = refl
prefix_digits (c ∷ cs) = go (is_ascii_digit c) refl (prefix_digits cs)
  where
    go : (t : Bool) → is_ascii_digit c ≡ t → all_ascii_digits (take (prefix_len is_ascii_digit cs) cs) ≡ true
        → all_ascii_digits (take (cond t (1 + prefix_len is_ascii_digit cs) 0) (c ∷ cs)) ≡ true
    go true e rest =
        let one : 1 + prefix_len is_ascii_digit cs ≡ suc (prefix_len is_ascii_digit cs) = omega arith in
        rw (one, e) rest
    go false e rest = refl

-- the lanes of a row show its characters
pub read_row : (text : List ℕ) (size count : ℕ) → 8 ≤ length text → AreBytes (take 8 text)
    → count ≡ count_trailing_zeros 64 (mask_l (end_lanes (row_lanes text)) % 2 ^ 64) → count ≤ 6
    → size ≡ written 0 (take count (row_lanes text))
    → (count ≡ prefix_len is_ascii_digit (take 8 text)) × (size ≡ digits_value 10 (take count (take 8 text)))
read_row text size count some small counted few sized =
    let row : List ℕ = take 8 text in
    let front : (n : ℕ) → n ≤ 8 → take n (row_lanes text) ≡ take n (map above_zero row) =
    λ (n : ℕ) (within : n ≤ 8). ap (take n) (lanes_are text some) ∙ take-map above_zero n
    (row ++ replicate 8 0) ∙ ap (map above_zero)
    (take-append-le n row (replicate 8 0) (omega (arith, length-take-le 8 text some, within))) ∙ sym
    (take-map above_zero n row) in
    let seven : count ≡ prefix_len is_below_ten (take 7 (map above_zero row)) =
    counted ∙ end_is (row_lanes text) refl ∙ ap (prefix_len is_below_ten) (front 7 (omega arith)) in
    let whole = prefix_in_front is_below_ten 7 (map above_zero row) (omega (arith, seven, few)) in
    let is : count ≡ prefix_len is_ascii_digit row = seven ∙ sym whole ∙ digits_agree row small in
    let are_digits : all_ascii_digits (take count row) ≡ true = rw is (prefix_digits row) in (
      is,
      sized ∙ ap (written 0) (front count (omega (arith, few))) ∙ written_digits 0 count row are_digits,
    )

first_cell-digits : (ds rest : List ℕ) → all_ascii_digits ds ≡ true
    → first_cell (ds ++ rest) ≡ ds ++ first_cell rest
first_cell-digits [] rest digits = refl
first_cell-digits (c ∷ cs) rest digits = grind (arith, common_steps, first_cell-digits cs rest)

after_cell-digits : (ds rest : List ℕ) → all_ascii_digits ds ≡ true
    → after_cell (ds ++ rest) ≡ after_cell rest
after_cell-digits [] rest digits = refl
after_cell-digits (c ∷ cs) rest digits = grind (arith, common_steps, after_cell-digits cs rest)

-- `count` digits that a text begins with, and no digit after them
digits_found : (text : List ℕ) (size count : ℕ) → count < 8 → count ≤ length text
    → all_ascii_digits (take count text) ≡ true → size ≡ digits_value_after 10 0 (take count text)
    → (count < length text → is_ascii_digit (get_or text count 0) ≡ false) → HasFirstDigits text size count
digits_found text size count few long digits value stop =
    grind (
      arith,
      common_steps,
      take-append-drop count text,
      first_cell-digits,
      length-take-le count text long,
      value_small 0 (take count text) digits,
      digits_before (take count text),
      digits_value_after-append 0 (take count text),
      length-append,
      after_cell-digits (take count text),
    )

-- in a whole row
pub first_digits_of : (text : List ℕ) (size count : ℕ) → count < 8 → 8 ≤ length text
    → count ≡ prefix_len is_ascii_digit
    (take 8 text) → size ≡ digits_value 10 (take count (take 8 text)) → HasFirstDigits text size count
first_digits_of text size count few long count_is size_is =
    grind (
      arith,
      length-take-le 8 text long,
      take-take count 8 text,
      prefix_digits,
      digits_found text size count few,
      prefix_len_stops,
      get_or-take 8 text count 0,
    )
