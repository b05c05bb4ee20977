-- The spellings of a number without its sign, for its reader.
use Rattle.std.proofs.Common.{ℤ, pos, neg_ℤ, ◌≡◌, ℕ, ◌+◌, ◌-◌, ◌<◌, ◌≤◌, ◌^◌, Bool, true, false, ◌&&◌, ◌≢◌}
use Rattle.std.proofs.Common.{if◌then◌else◌, Option, Some, None, List, length, drop, take, get_or}
use Rattle.std.proofs.{Common.{arith}, Math.Nat.pow-le-pow_right, lemmas.Grind.common_steps}
use Rattle.std.proofs.lemmas.List.{take_rest}
use Rattle.std.specs.{Option.option_map, Str.{all_ascii_digits, Parse.{digits_value, digits_value_after}}}
use Rattle.crx_text.proofs.PowersOfTen.{ten_pow_pos, digits_value_after-append}
use Rattle.crx_text.specs.meaning.{Columns.without_first_blanks, Numbers.{size_of, decimal_number}}
use Rattle.crx_text.specs.meaning.Numbers.{missing_or_number, number_of, signed_number, IsWithin}

pub size_of_short : (decimals : ℕ) (text : List ℕ) → length text ≤ decimals → size_of decimals text ≡ None
unfolding size_of
size_of_short decimals text short = grind arith

pub size_of_pointless : (decimals point : ℕ) (text : List ℕ) → point ≡ length text - (decimals + 1)
    → decimals < length text → get_or text point 0 ≢ 46 → size_of decimals text ≡ None
unfolding size_of
size_of_pointless decimals point text at long other = grind arith

pub size_of_parts : (decimals point : ℕ) (text : List ℕ)
    → point ≡ length text - (decimals + 1) → decimals < length text → get_or text point 0 ≡ 46 →
    size_of decimals text ≡ (if all_ascii_digits (take point text) && all_ascii_digits (drop (point + 1) text)
    then Some (digits_value_after 10 (digits_value 10 (take point text)) (drop (point + 1) text)) else None)
unfolding size_of
size_of_parts decimals point text at long dot = grind (arith, common_steps, digits_value_after-append)

-- a choice of two tests after the first one
pub neither : (a b : Bool) (x y : ℕ) → ◌≡◌ {A = Option ℕ} None (if a then Some x else None)
    → ◌≡◌ {A = Option ℕ} (if a && b then Some y else None) None
neither = grind (arith, common_steps)

pub first_passed : (a b : Bool) (x w : ℕ) (f : ℕ → ℕ)
    → Some w ≡ (if a then Some x else None) → (if a && b then Some (f x) else None)
    ≡ (if b then Some (f w) else None)
first_passed = grind (arith, common_steps)

-- ---- the sign

pub decimal_number_plain : (decimals : ℕ) (text : List ℕ)
    → get_or text 0 0 ≢ 45 → decimal_number decimals text ≡ option_map pos (size_of decimals text)
decimal_number_plain = grind (arith, common_steps)

pub decimal_number_minus : (decimals : ℕ) (text : List ℕ) → get_or text 0 0 ≡ 45
    → decimal_number decimals text ≡ option_map (λ n. neg_ℤ (pos n)) (size_of decimals (drop 1 text))
decimal_number_minus = grind (arith, common_steps)

-- ---- the range

-- digits of at most 19 columns, one of them the point, fit an i64
pub size_fits : (size columns : ℕ) → columns ≤ 19 → size < 10 ^ (columns - 1) → size < 2 ^ 63
size_fits size columns few small =
    let power = let few : columns - 1 ≤ 18 = omega arith in
    pow-le-pow_right {n = 10} (omega arith) few in
    omega (arith, small, power)

pub pos_is_within : (size columns : ℕ) → size < 10 ^ (columns - 1) → IsWithin columns (pos size)
pos_is_within size columns small = grind (arith, common_steps, ten_pow_pos)

pub neg_is_within : (size columns : ℕ) → size < 10 ^ (columns - 1 - 1) → IsWithin columns (neg_ℤ (pos size))
neg_is_within size columns small = grind (arith, common_steps, ten_pow_pos)

-- of either sign
pub signed_in_range : (width size : ℕ) (is_below : Bool)
    → size < 10 ^ (width - 1 - 1) → IsWithin width (signed_number is_below size)
signed_in_range width size is_below small = grind (arith, common_steps, pow-le-pow_right, neg_is_within)

-- a minus takes a column
pub signed_is_within : (is_below : Bool) (size columns all : ℕ) → columns + (if is_below then 1 else 0) ≡ all
    → size < 10 ^ (columns - 1) → IsWithin all (signed_number is_below size)
signed_is_within true size columns all sum small = grind (arith, common_steps, neg_is_within size all)
signed_is_within false size columns all sum small = grind (arith, common_steps, pos_is_within)

-- a number within some columns is within more of them
pub IsWithin_more : (columns width : ℕ) (number : ℤ) → columns ≤ width → IsWithin columns number
    → IsWithin width number
IsWithin_more columns width number fewer within = grind (arith, common_steps, pow-le-pow_right)

-- ---- the field

pub number_of_other_width : (width decimals : ℕ) (text : List ℕ)
    → length text ≢ width → number_of width decimals text ≡ None
unfolding number_of
number_of_other_width width decimals text other = grind arith

pub number_of_width : (width decimals : ℕ) (text : List ℕ)
    → length text ≡ width → number_of width decimals text
    ≡ missing_or_number decimals (without_first_blanks text)
unfolding number_of
number_of_width width decimals text same = grind arith

pub missing_or_number_blank : (decimals : ℕ) (text : List ℕ)
    → length text ≡ 0 → missing_or_number decimals text ≡ Some None
missing_or_number_blank = grind (arith, common_steps)

pub missing_or_number_text : (decimals : ℕ) (text : List ℕ)
    → 0 < length text → missing_or_number decimals text ≡ option_map Some (decimal_number decimals text)
missing_or_number_text = grind (arith, common_steps)

-- the texts that a number may have, and those that a size may have
pub ruleset number_parts = (
  number_of_other_width,
  number_of_width,
  missing_or_number_blank,
  missing_or_number_text,
)

pub ruleset size_parts = (size_of_short, size_of_pointless, size_of_parts, neither, first_passed, take_rest)
