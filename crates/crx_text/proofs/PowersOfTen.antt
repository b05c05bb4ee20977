-- Numbers that grow digit by digit, and the powers of ten that bound them.
use Rattle.std.proofs.{lemmas.Grind.common_steps, Common.{pow-add, true, List, [], ◌∷◌, ◌++◌, length, drop}}
use Rattle.std.proofs.Common.{get_or, ◌≡◌, ℕ, suc, ◌+◌, ◌-◌, ◌*◌, ◌<◌, ◌≤◌, ◌^◌, arith, refl, ap, ◌∙◌}
use Rattle.std.proofs.Math.Nat.{pow-suc, one-le-pow, mul-le-mul_right, pow-le-pow_right}
use Rattle.std.{proofs.lemmas.{Bool.{and_parts, Decides.nat_tests}, List.drop_more}, specs.Char.digit_value}
use Rattle.std.specs.{Char.is_ascii_digit, Int.IsInRange, Str.{all_ascii_digits, Parse.digits_value_after}}

pub ten_pow_pos : (k : ℕ) → 1 ≤ 10 ^ k
ten_pow_pos k = one-le-pow k 10 (omega arith)

-- a number with one more digit, times a tenth of the power
pub one_more_digit : (size digit power all : ℕ)
    → digit ≤ 9 → (size + 1) * (power * 10) ≤ all → (size * 10 + digit + 1) * power ≤ all
one_more_digit size digit power all small bound = grind arith

-- a bound on all digits bounds the next number
pub next_is_small : (size power all : ℕ) → 1 ≤ power → (size + 1) * (power * 10) ≤ all → (size + 1) * 10 ≤ all
next_is_small size power all one bound = grind arith

-- at an index, the power of the digits that are left
pub pow_left : (n i : ℕ) → i < n → 10 ^ (n - i) ≡ 10 ^ (n - (i + 1)) * 10
pow_left n i h = let e : n - i ≡ suc _ = omega arith in ap (λ k. 10 ^ k) e ∙ pow-suc 10 _

pub digit_range : (c : ℕ) → is_ascii_digit c ≡ true → IsInRange 48 57 c
digit_range c h = grind (arith, nat_tests)

pub digit_value_is : (c : ℕ) → is_ascii_digit c ≡ true → digit_value c ≡ c - 48
digit_value_is c h = grind arith

-- the digit at an index is passed over
pub all_digits_next : (ds : List ℕ) (i : ℕ) → i < length ds
    → is_ascii_digit (get_or ds i 0) ≡ true → all_ascii_digits (drop (i + 1) ds)
    ≡ all_ascii_digits (drop i ds)
all_digits_next ds i within is_digit = rw (drop_more ds i 0 within, is_digit) refl

pub digits_value_next : (ds : List ℕ) (i size : ℕ) → i < length ds → is_ascii_digit (get_or ds i 0) ≡ true
    → digits_value_after 10 (size * 10 + (get_or ds i 0 - 48)) (drop (i + 1) ds) ≡ digits_value_after 10 size
    (drop i ds)
digits_value_next ds i size within is_digit = grind (arith, common_steps, digit_value_is)

-- the number that digits make is the number of the first ones, continued
pub digits_value_after-append : (n : ℕ) (xs ys : List ℕ)
    → digits_value_after 10 n (xs ++ ys) ≡ digits_value_after 10 (digits_value_after 10 n xs) ys
digits_value_after-append n [] ys = refl
digits_value_after-append n (x ∷ xs) ys = digits_value_after-append (n * 10 + digit_value x) xs ys

-- if the first characters are digits, the test depends on the rest
pub digits_before : (ds rest : List ℕ) → all_ascii_digits ds ≡ true
    → all_ascii_digits (ds ++ rest) ≡ all_ascii_digits rest
digits_before [] rest digits = refl
digits_before (c ∷ cs) rest digits = grind (arith, common_steps, digits_before cs rest)

-- digits after a number make less than the next number with a zero for each digit
pub value_small : (size : ℕ) (ds : List ℕ)
    → all_ascii_digits ds ≡ true → digits_value_after 10 size ds < (size + 1) * 10 ^ length ds
value_small size [] digits = omega arith
value_small size (c ∷ cs) digits =
    let parts = and_parts _ _ digits in
    let next : size * 10 + digit_value c + 1 ≤ (size + 1) * 10 =
    omega (arith, (digit_value_is c parts.0), (digit_range c parts.0)) in
    let grows = mul-le-mul_right (10 ^ length cs) next in
    let power : 10 ^ suc (length cs) ≡ 10 ^ length cs * 10 = pow-suc 10 (length cs) in
    rw power (omega (arith, value_small (size * 10 + digit_value c) cs parts.1, grows))

-- a number of some digits, and b more digits
pub more_digits_fit : (size a b n : ℕ) → size < 1 * 10 ^ a → a + b ≤ n → (size + 1) * 10 ^ b ≤ 10 ^ n
more_digits_fit size a b n small few =
    let grows : (size + 1) * 10 ^ b ≤ 10 ^ a * 10 ^ b = mul-le-mul_right (10 ^ b) (omega (arith, small)) in
    omega (arith, grows, pow-add 10 a b, pow-le-pow_right {n = 10} (omega arith) few)

-- a number of `count` digits, if `limit` are allowed
pub small_number : (size count limit : ℕ) → count ≤ limit → size < 10 ^ count → size < 10 ^ limit
small_number size count limit few small = grind (arith, common_steps, pow-le-pow_right)

-- a number with one more digit
pub ruleset next_digit = (
  pow_left,
  next_is_small,
  ten_pow_pos,
  all_digits_next,
  digits_value_next,
  one_more_digit,
)
