-- Printed codes.
use Rattle.std.proofs.Common.{rules, true, false, ◌≡◌, ◌≢◌, ℕ, ℤ, pos, negsuc, neg_ℤ, ◌+◌, ◌≤◌, ◌<◌, ◌^◌}
use Rattle.std.proofs.Common.{List, ◌∷◌, ◌++◌, length, get_or, take, slice_set, decimal, Some}
use Rattle.std.proofs.{Common.{arith, ap, sym, ◌∙◌, refl}, lemmas.Bool.{cases_lt, Decides.nat_tests}}
use Rattle.std.proofs.lemmas.{Fmt.{decimal_digit, decimal_nonempty, length-decimal-le}, Grind.common_steps}
use Rattle.std.proofs.lemmas.{List.{append_assoc, get_or_past}, Str.Parse.not_in_digits}
use Rattle.std.specs.{Fmt.signed_decimal, Str.{all_ascii_digits, Parse.starts_with_minus}}
use Rattle.crx_text.proofs.CodeReads.{coded_number_fitting}
use Rattle.crx_text.proofs.ReadBack.{decimal_first}
use Rattle.crx_text.{proofs.ReadBack.{decimal_is_digits, decimal_weighs, digits_own}, specs.Codes.IsPrintable}
use Rattle.crx_text.specs.{Codes.IsShort, declared.code.Code.{Code, TheVariants.{Start}}}
use Rattle.crx_text.specs.meaning.Codes.{code_of, code_text, coded_number, step_of}
use Rattle.crx_text.specs.meaning.Numbers.{without_minus}
use Rattle.crx_base.specs.declared.limits.TheConstants.{DIGITS_LIMIT}

-- an order is one digit
pub code_text_start : (order : ℕ) (value : ℤ)
    → order < 10 → code_text (Start order value) ≡ (48 + order) ∷ 38 ∷ signed_decimal value
code_text_start order value small = ap (λ ds. ds ++ 38 ∷ signed_decimal value) (decimal_digit order small)

signed_decimal_length : (z : ℤ) → IsShort z → length (signed_decimal z) ≤ DIGITS_LIMIT + 1
signed_decimal_length (pos n) short = grind (arith, common_steps, length-decimal-le)
signed_decimal_length (negsuc n) short = grind (arith, common_steps, length-decimal-le)

-- how long a code's text may be
pub code_text_length : (code : Code) → IsPrintable code → length (code_text code) ≤ 21
code_text_length = grind (arith, common_steps, code_text_start, signed_decimal_length)

-- an order, & and a number, written one after another
pub start_written : (bytes number : List ℕ) (at order : ℕ) → at + 2 ≤ length bytes → take (at + 2)
    (slice_set (slice_set bytes at (48 + order)) (at + 1) 38) ++ number
    ≡ take at bytes ++ (48 + order) ∷ 38 ∷ number
start_written bytes number at order room = grind (arith, common_steps, append_assoc)

-- ---- reading back

pub no_mark_in_digits : (ds : List ℕ) (i : ℕ) → all_ascii_digits ds ≡ true → get_or ds i 0 ≢ 38
no_mark_in_digits = search (rules, cases_lt, get_or, not_in_digits, digits_own, get_or_past)

pub without_minus-digits : (text : List ℕ) → get_or text 0 0 ≢ 45 → without_minus text ≡ text
without_minus-digits = grind (arith, common_steps)

pub starts_with_minus-digits : (text : List ℕ) → get_or text 0 0 ≢ 45 → starts_with_minus text ≡ false
starts_with_minus-digits text other = grind (arith, nat_tests)

pub coded_number-decimal : (n : ℕ) → n < 10 ^ DIGITS_LIMIT → coded_number (decimal n) ≡ Some (pos n)
coded_number-decimal n small =
    let tiny : n < 2 ^ 64 = omega arith in
    let other : get_or (decimal n) 0 0 ≢ 45 = omega (arith, decimal_first n tiny) in
    coded_number_fitting (decimal n) (decimal n) (sym (without_minus-digits (decimal n) other))
    (decimal_nonempty n tiny) (length-decimal-le DIGITS_LIMIT n (omega arith) small tiny)
    ∙ (rw (decimal_is_digits n tiny, starts_with_minus-digits (decimal n) other, decimal_weighs n tiny) refl)

pub coded_number-minus : (n : ℕ) → n < 10 ^ DIGITS_LIMIT → coded_number (45 ∷ decimal n)
    ≡ Some (neg_ℤ (pos n))
coded_number-minus n small =
    let tiny : n < 2 ^ 64 = omega arith in
    coded_number_fitting _ _ refl (decimal_nonempty n tiny) (length-decimal-le _ n (omega arith) small tiny)
    ∙ (rw (decimal_is_digits n tiny, decimal_weighs n tiny) refl)

pub coded_number-signed_decimal : (z : ℤ) → IsShort z → coded_number (signed_decimal z) ≡ Some z
coded_number-signed_decimal = grind (arith, common_steps, coded_number-decimal, coded_number-minus)

pub code_of_step : (text : List ℕ) → 0 < length text → get_or text 1 0 ≢ 38 → code_of text ≡ step_of text
code_of_step = grind (arith, common_steps)

pub code_of-signed_decimal : (z : ℤ) → IsShort z → code_of (signed_decimal z) ≡ step_of (signed_decimal z)
code_of-signed_decimal = search (rules, code_of_step, decimal_nonempty, no_mark_in_digits, decimal_is_digits)

-- a printed code is read back
pub code_of-code_text : (code : Code) → IsPrintable code → code_of (code_text code) ≡ Some code
code_of-code_text code printable =
    grind (arith, common_steps, code_text_start, code_of-signed_decimal, coded_number-signed_decimal)
