-- The one printed spelling: its parts and their lengths.
use Rattle.std.proofs.Common.{rules, true, false, ℤ, pos, Some, None, set, ◌≡◌, ℕ, zero, suc, ◌+◌, ◌-◌, ◌*◌}
use Rattle.std.proofs.Common.{◌/◌, ◌%◌, ◌<◌, ◌≤◌, ◌^◌, List, ◌∷◌, ◌++◌, length, drop, take, replicate}
use Rattle.std.proofs.{Common.{decimal, arith, refl, ap, sym, ◌∙◌}, Math.Nat.div-lt_iff_lt-mul}
use Rattle.std.proofs.{Math.Nat.pow-le-pow_right, lemmas.{Fmt.length-decimal-le, Grind.common_steps}}
use Rattle.std.proofs.lemmas.List.{length-append, length-replicate}
use Rattle.std.proofs.lemmas.{List.{take-replicate}, Nat.pow-add}
use lib.{IntN.nat_abs, Signed.lt_z}
use Rattle.crx_text.{proofs.PowersOfTen.ten_pow_pos, specs.meaning.Numbers.{zero_padded, size_text}}
use Rattle.crx_text.specs.meaning.Numbers.{number_text, IsWithin}

pub ten_pow_small : (decimals : ℕ) → decimals < 19 → 10 ^ decimals < 2 ^ 64
ten_pow_small decimals few = grind (arith, common_steps, pow-le-pow_right)

-- the digits after the point fit their places
pub fraction_short : (decimals size : ℕ)
    → 0 < decimals → decimals < 19 → length (decimal (size % 10 ^ decimals)) ≤ decimals
fraction_short decimals size some few = search (rules, ten_pow_pos, length-decimal-le, ten_pow_small)

pub length-zero_padded : (digits number : ℕ)
    → length (decimal number) ≤ digits → length (zero_padded digits number) ≡ digits
length-zero_padded digits number fits = grind (arith, common_steps, length-append, length-replicate)

pub length-size_text : (decimals size : ℕ) → 0 < decimals → decimals < 19 → length (size_text decimals size)
    ≡ length (decimal (size / 10 ^ decimals)) + (decimals + 1)
length-size_text = grind (arith, common_steps, length-zero_padded, fraction_short, length-append)

-- a number below a power of ten fits the columns without the point
pub size_text_fits : (decimals size columns : ℕ) → 0 < decimals
    → decimals + 2 ≤ columns → columns ≤ 19 → size < 10 ^ (columns - 1)
    → length (size_text decimals size) ≤ columns
size_text_fits decimals size columns some room few small =
    let digits : ℕ = columns - 1 - decimals in
    let power = let sum : columns - 1 ≡ digits + decimals = omega arith in
    ap (λ n. 10 ^ n) sum ∙ pow-add 10 digits _ in
    let below : size < 10 ^ digits * 10 ^ decimals = rw (sym power) small in
    let whole : size / 10 ^ _ < 10 ^ digits = (div-lt_iff_lt-mul {k = 10 ^ _} {x = size} {y = 10 ^ digits}
    (ten_pow_pos _)).1 below in
    let short = length-decimal-le digits (size / 10 ^ _) (omega arith) whole
    (omega (arith, whole, ten_pow_small digits (omega arith))) in
    omega (arith, short, length-size_text _ size some (omega arith))

-- ---- a field of blanks after the writes

-- a minus over the last blank before a text
minus_put : (n : ℕ) (text field : List ℕ) → 1 ≤ n → drop n field ≡ text → take n field ≡ replicate n 32
    → set field (n - 1) 45 ≡ replicate (n - 1) 32 ++ 45 ∷ text
minus_put (suc zero) text (c ∷ cs) some written before = grind (arith, common_steps)
minus_put (suc (suc n)) text (c ∷ cs) some written before =
    grind (arith, common_steps, minus_put (suc n) text cs)
minus_put n text field some written before = grind (arith, common_steps)

-- ---- a number of either sign

pub abs_within : (width : ℕ) (number : ℤ) → IsWithin width number → nat_abs number < 10 ^ (width - 1)
abs_within = grind (arith, common_steps, pow-le-pow_right)

pub abs_within_below : (width : ℕ) (number : ℤ)
    → lt_z number (pos 0) ≡ true → IsWithin width number → nat_abs number < 10 ^ (width - 1 - 1)
abs_within_below = grind (arith, common_steps)

-- a number as it is held, and the printed text of its size
pub printed_number : (width decimals start size : ℕ) (held number : ℤ) (field : List ℕ) → held ≡ number
    → lt_z held (pos 0) ≡ false → size ≡ nat_abs held → start + length (size_text decimals size) ≡ width
    → drop start field ≡ size_text decimals size → take start field ≡ take start (replicate width 32)
    → field ≡ number_text width decimals (Some number)
unfolding number_text
printed_number = grind (arith, common_steps, nat_abs, take-replicate)

pub printed_number_below : (width decimals start size : ℕ) (held number : ℤ) (field : List ℕ) → held ≡ number
    → lt_z held (pos 0) ≡ true → size ≡ nat_abs held → 1 ≤ start
    → start + length (size_text decimals size) ≡ width
    → drop start field ≡ size_text decimals size → take start field ≡ take start (replicate width 32)
    → set field (start - 1) 45 ≡ number_text width decimals (Some number)
unfolding number_text
printed_number_below = grind (arith, common_steps, nat_abs, take-replicate, minus_put)

pub printed_blank : (width decimals : ℕ) → replicate width 32 ≡ number_text width decimals None
unfolding number_text
printed_blank width decimals = refl

-- the printed text of a number, or of none
pub ruleset printed_texts = (abs_within, abs_within_below, size_text_fits, printed_number, printed_blank)
