-- Printed texts are read back.
use Rattle.std.proofs.Common.{true, ℕ, ℤ, pos, negsuc, suc, zero, ◌≡◌, ◌≢◌, ◌+◌, ◌*◌, ◌<◌}
use Rattle.std.proofs.Common.{◌≤◌, ◌^◌, List, [], ◌∷◌, ◌++◌, length, get_or, replicate, decimal, Option, Some}
use Rattle.std.proofs.{Common.{None, arith, refl}, Math.Nat.{pow-suc, div-le_self}}
use Rattle.std.proofs.lemmas.Fmt.{decimal_is_IsNumeral, digits_decimal, first_decimal, decimal_nonempty}
use Rattle.std.proofs.lemmas.{Fmt.decimal_digit, Grind.common_steps, List.get_or_at}
use Rattle.std.proofs.lemmas.Str.Parse.{IsNumeralModel, numerals_by_value}
use Rattle.std.{proofs.lemmas.Str.Parse.tells_all_ascii_digits, specs.{Char.digit_value}}
use Rattle.std.specs.{Option.ForSome, Str.{all_ascii_digits, Parse.{digits_value, digits_value_after}}}
use Rattle.crx_text.proofs.Sizes.{size_of_parts, decimal_number_plain, decimal_number_minus, number_of_width}
use Rattle.crx_text.proofs.Spellings.{fraction_short, size_text_fits}
use lib.IntN.{nat_abs}
use Rattle.crx_text.proofs.Spellings.{ten_pow_small, abs_within, abs_within_below}
use Rattle.crx_text.specs.meaning.{Columns.without_first_blanks, Numbers.{IsWithin, number_of, number_text}}
use Rattle.crx_text.specs.meaning.Numbers.{size_of, size_text, spelling, right_justified, decimal_number}

-- the digits after a number
pub digits_behind : (n : ℕ) (ds : List ℕ) → digits_value_after 10 n ds
    ≡ n * 10 ^ length ds + digits_value_after 10 0 ds
digits_behind n [] = omega arith
digits_behind n (c ∷ cs) =
    let right = digits_behind (0 * 10 + digit_value c) cs in
    let power : 10 ^ suc (length cs) ≡ 10 ^ length cs * 10 = pow-suc 10 (length cs) in
    rw power (omega (arith, digits_behind (n * 10 + digit_value c) cs, right))

pub digits_own : IsNumeralModel (λ ds. all_ascii_digits ds ≡ true) (digits_value 10)
digits_own = numerals_by_value (λ ds. all_ascii_digits ds ≡ true) tells_all_ascii_digits

pub zeros_are_digits : (k : ℕ) (ds : List ℕ)
    → all_ascii_digits ds ≡ true → all_ascii_digits (replicate k 48 ++ ds) ≡ true
zeros_are_digits zero ds digits = digits
zeros_are_digits (suc k) ds digits = zeros_are_digits k ds digits

pub zeros_weigh_nothing : (k : ℕ) (ds : List ℕ)
    → digits_value_after 10 0 (replicate k 48 ++ ds) ≡ digits_value_after 10 0 ds
zeros_weigh_nothing zero ds = refl
zeros_weigh_nothing (suc k) ds = zeros_weigh_nothing k ds

pub decimal_is_digits : (n : ℕ) → n < 2 ^ 64 → all_ascii_digits (decimal n) ≡ true
decimal_is_digits n small = digits_decimal digits_own n small

pub decimal_weighs : (n : ℕ) → n < 2 ^ 64 → digits_value_after 10 0 (decimal n) ≡ n
decimal_weighs n small = (decimal_is_IsNumeral n small).1

-- whole digits, a point and digits after it
pub size_of_pieces : (decimals w f : ℕ) (whole fraction : List ℕ) → length fraction ≡ decimals
    → all_ascii_digits whole ≡ true → all_ascii_digits fraction ≡ true → digits_value_after 10 0 whole ≡ w
    → digits_value_after 10 0 fraction ≡ f → size_of decimals (whole ++ 46 ∷ fraction)
    ≡ Some (w * 10 ^ decimals + f)
size_of_pieces = grind (arith, common_steps, get_or_at, digits_behind, size_of_parts)

-- a size is read back from its text
pub size_of-size_text : (decimals size : ℕ)
    → 0 < decimals → decimals < 19 → size < 2 ^ 64 → size_of decimals (size_text decimals size) ≡ Some size
size_of-size_text decimals size some few small =
    grind (
      arith,
      common_steps,
      fraction_short,
      size_of_pieces,
      decimal_is_digits,
      zeros_are_digits,
      decimal_weighs,
      zeros_weigh_nothing,
    )

-- ---- the field

pub without_first_blanks-text : (text : List ℕ) → get_or text 0 0 ≢ 32 → without_first_blanks text ≡ text
without_first_blanks-text = grind (arith, common_steps)

pub without_first_blanks-blanks : (k : ℕ) (text : List ℕ)
    → get_or text 0 0 ≢ 32 → without_first_blanks (replicate k 32 ++ text) ≡ text
without_first_blanks-blanks zero text other = without_first_blanks-text text other
without_first_blanks-blanks (suc k) text other = without_first_blanks-blanks k text other

pub decimal_first : (n : ℕ) → n < 2 ^ 64 → 48 ≤ get_or (decimal n) 0 0
decimal_first = grind (arith, common_steps, decimal_digit, first_decimal)

size_text_first : (decimals size : ℕ) → size < 2 ^ 64 → 48 ≤ get_or (size_text decimals size) 0 0
size_text_first = grind (arith, common_steps, div-le_self, decimal_nonempty, decimal_first)

spelling_first : (decimals : ℕ) (number : ℤ)
    → nat_abs number < 2 ^ 64 → 45 ≤ get_or (spelling decimals number) 0 0
spelling_first = grind (arith, common_steps, size_text_first)

-- a text after its blanks, in a field that it fills
number_of-right_justified : (width decimals : ℕ) (text : List ℕ) (number : ℤ)
    → length text ≤ width → 45 ≤ get_or text 0 0 → decimal_number decimals text ≡ Some number
    → number_of width decimals (right_justified width text) ≡ Some (Some number)
number_of-right_justified = grind (arith, common_steps, number_of_width, without_first_blanks-blanks)

spelling_fits : (width decimals : ℕ) (number : ℤ) → 0 < decimals → decimals + 3 ≤ width → width ≤ 19
    → IsWithin width number → length (spelling decimals number) ≤ width
spelling_fits width decimals (pos size) some room few within =
    size_text_fits decimals size width some (omega (arith, room)) few (abs_within width (pos size) within)
spelling_fits width decimals (negsuc less) some room few within =
    grind (arith, common_steps, size_text_fits, abs_within_below)

spelling_reads : (decimals : ℕ) (number : ℤ) → 0 < decimals → decimals < 19
    → nat_abs number < 2 ^ 64 → decimal_number decimals (spelling decimals number) ≡ Some number
spelling_reads decimals (pos size) some few small =
    grind (arith, common_steps, decimal_number_plain, size_text_first, size_of-size_text)
spelling_reads decimals (negsuc less) some few small =
    grind (arith, common_steps, decimal_number_minus, size_of-size_text)

-- a printed number is read back, at any width
pub number_of-number_text : (width decimals : ℕ) (value : Option ℤ) → 0 < decimals → decimals + 3 ≤ width
    → width ≤ 19
    → ForSome value (IsWithin width) → number_of width decimals (number_text width decimals value)
    ≡ Some value
unfolding number_text
number_of-number_text width decimals None some room few within =
    grind (arith, common_steps, without_first_blanks-blanks width [] (omega arith), number_of_width)
number_of-number_text width decimals (Some number) some room few within =
    grind (
      arith,
      abs_within,
      ten_pow_small,
      number_of-right_justified width decimals (spelling decimals number) number,
      spelling_fits width decimals number some room few,
      spelling_first,
      spelling_reads,
    )
