-- Two digits at a time.
use Rattle.std.proofs.Common.{rules, bit_and, ◌≡◌, ℕ, ℤ, w64, zero, suc, ◌+◌, ◌-◌, ◌*◌, ◌/◌, ◌%◌, ◌<◌, ◌≤◌}
use Rattle.std.proofs.Common.{Bool, true, ◌&&◌, T, eqb, List, [], ◌∷◌, ◌++◌, length, take, drop, get_or}
use Rattle.std.proofs.Common.{arith, eqb→eq, eqb-true, append_assoc, decimal, ◌^◌, ap, sym, ◌∙◌}
use Rattle.std.proofs.{Common.{refl, subst}, Math.{Dec.ltb, Seq.take-append-add}, lemmas.Bool.agree_below}
use Rattle.std.proofs.lemmas.{Bool.{agree_below_at, and_parts, cases_lt, le-ltb, lt-ltb}, Fmt.decimal_digit}
use Rattle.std.proofs.lemmas.{Fmt.decimal_nonempty, Grind.common_steps}
use Rattle.std.proofs.lemmas.{List.{length-take-le, length-drop, take-take}, Nat.from_le_bytes-to_le_bytes_4}
use Rattle.std.specs.{Fmt.signed_decimal, Int.{to_le_bytes, w32}}
use lib.Count.{count_trailing_zeros}
use mir.Val.{SFits, bool_byte}
use Rattle.itoa.proofs.Decimal.{decimal_four, decimal_pair, decimal_two, pair}
use Rattle.crx_text.specs.declared.code_digits.TheConstants.{PAIRS}

abbrev is_pair : ℕ → Bool
is_pair p = eqb (get_or PAIRS (p * 2) 0) (48 + p / 10) && eqb (get_or PAIRS (p * 2 + 1) 0) (48 + p % 10)

pub PAIRS_at : (p : ℕ) → p < 100
    → (get_or PAIRS (p * 2) 0 ≡ 48 + p / 10) × (get_or PAIRS (p * 2 + 1) 0 ≡ 48 + p % 10)
PAIRS_at p small =
    let parts = and_parts _ _ (agree_below_at is_pair (λ p. true) 100 p refl small) in
    (eqb-true _ _ parts.0, eqb-true _ _ parts.1)

-- one text written after another
pub joined : (first second third front back : List ℕ) (at middle end : ℕ)
    → take middle second ≡ take at first ++ front
    → take end third ≡ take middle second ++ back → take end third ≡ take at first ++ (front ++ back)
joined first second third front back at middle end one two = grind (arith, common_steps, one, append_assoc)

pub signed_decimal_some : (z : ℤ) → SFits w64 z → 0 < length (signed_decimal z)
signed_decimal_some = grind (arith, common_steps, decimal_nonempty)

-- ---- four digits in a word

abbrev pub four : ℕ → List ℕ
four n = (48 + n / 100 / 10) ∷ (48 + n / 100 % 10) ∷ (48 + n % 100 / 10) ∷ (48 + n % 100 % 10) ∷ []

-- how many zeros are before a number's digits in four columns
abbrev pub zeros_of : ℕ → ℕ
zeros_of n = bool_byte (ltb n 10) + bool_byte (ltb n 100) + bool_byte (ltb n 1000)

pub few_zeros : (n : ℕ) → zeros_of n ≤ 3
few_zeros n = grind (arith, common_steps, ltb, bool_byte)

-- a number's own digits follow those zeros
own_digits : (n : ℕ) → n < 10000 → drop (zeros_of n) (four n) ≡ decimal n
own_digits = search (rules, cases_lt, lt-ltb, decimal_digit, le-ltb, decimal_two, pair, decimal_pair)

pub zeros_counted : (n : ℕ) → n < 10000 → zeros_of n + length (decimal n) ≡ 4
zeros_counted n small =
    omega (arith, ap length (own_digits n small), length-drop (zeros_of n) (four n), few_zeros n)

pub digits_last : (n z : ℕ) → n < 10000 → z + length (decimal n) ≡ 4 → drop z (four n) ≡ decimal n
digits_last n z small count = grind (arith, common_steps, zeros_counted n small, own_digits n small)

-- the bytes of a word that is shifted by whole bytes
pub bytes_shifted : (word z : ℕ) → z ≤ 3 → word < 2 ^ 32
    → take (4 - z) (to_le_bytes w32 (word / 2 ^ (8 * z))) ≡ drop z (to_le_bytes w32 word)
bytes_shifted word zero few fits = grind arith
bytes_shifted word (suc zero) few fits = grind arith
bytes_shifted word (suc (suc zero)) few fits = grind arith
bytes_shifted word (suc (suc (suc zero))) few fits = refl
bytes_shifted word (suc (suc (suc (suc z)))) few fits = absurd (omega arith)

pub first_written : (old new bytes : List ℕ) (at n k : ℕ) → at ≤ length old
    → k ≤ n → take (at + n) new ≡ take at old ++ bytes → take (at + k) new ≡ take at old ++ take k bytes
first_written old new bytes at n k within few whole =
    sym (take-take _ (at + n) new (omega arith)) ∙ ap (take _) whole
    ∙ ap (λ i. take (i + k) (take at old ++ bytes)) (sym (length-take-le at old within))
    ∙ take-append-add _ bytes k

-- a number's last four digits, after those before them
pub four_written : (first second third : List ℕ) (size at middle : ℕ)
    → 10000 ≤ size → size < 2 ^ 64 → take middle second ≡ take at first ++ decimal (size / 10000) →
    take (middle + 4) third ≡ take middle second ++ four (size - size / 10000 * 10000)
    → take (middle + 4) third ≡ take at first ++ decimal size
four_written = grind (arith, common_steps, joined, decimal_four)

-- ---- the zeros before a number, by the lowest bit of its digits

-- four digits in one word, the first one lowest
abbrev pub digits_beside : ℕ → ℕ
digits_beside n = n / 100 / 10 + 256 * (n / 100 % 10) + 65536 * (n % 100 / 10) + 16777216 * (n % 100 % 10)

-- four columns that begin with zeros, and in the last one a bit that every character has
abbrev pub lowest_of : ℕ → ℕ
lowest_of n = count_trailing_zeros 32 (bit_and (808464432 + digits_beside n) 521080591) / 8

all_agree : agree_below (λ n. eqb (lowest_of n) (zeros_of n)) (λ n. true) 10000 ≡ true
unfolding count_trailing_zeros
all_agree = refl

lowest_is : (n : ℕ) → n < 10000 → lowest_of n ≡ zeros_of n
lowest_is n small =
    eqb→eq _ _ (subst T (sym (agree_below_at (λ n. eqb (lowest_of n) (zeros_of n)) (λ n. true) 10000 n
    all_agree small)) tt)

-- a word whose bytes are a number's columns, and the zeros before its digits
pub zeros_found : (n word : ℕ) → n < 10000 → word < 2 ^ 32 → to_le_bytes w32 word ≡ four n
    → count_trailing_zeros 32 (bit_and word 521080591) / 8 ≡ zeros_of n
zeros_found n word small fits bytes =
    grind (arith, common_steps, from_le_bytes-to_le_bytes_4 word fits, w32, lowest_is n small)
