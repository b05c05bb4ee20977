-- The number that plain columns spell.
use Rattle.std.proofs.Common.{rules, ◌≡◌, ◌≢◌, ℕ, ℤ, pos, ◌+◌, ◌-◌, ◌*◌, true, false, ◌||◌, eqb, Some}
use Rattle.std.proofs.Common.{List, [], ◌∷◌, ◌++◌, map, take, length, get_or, subst, refl, sym, ap, ◌∙◌}
use Rattle.std.proofs.{Common.{eqb-true, arith}, lemmas.Bool.{and_parts, or_cases}}
use Rattle.std.{proofs.lemmas.{Grind.common_steps}, specs.{Char.is_ascii_digit}}
use Rattle.std.specs.{List.{list_any, range_with_len}, Option.option_map, Str.all_ascii_digits}
use Rattle.std.specs.Str.Parse.{digits_value_after}
use Rattle.crx_text.proofs.PowersOfTen.{digits_before, digits_value_after-append}
use Rattle.crx_text.specs.{Fields.{IsPlain, is_plain_after, weighed, plain_digits}, meaning.Numbers.number_of}
use Rattle.crx_text.specs.meaning.Numbers.{missing_or_number, signed_number, size_of}
use Rattle.crx_text.proofs.ReadBack.{digits_behind, size_of_pieces, without_first_blanks-text}
use Rattle.crx_text.proofs.Sizes.{missing_or_number_text, number_of_width, decimal_number_plain}
use Rattle.crx_text.{proofs.LaneBits.fourteen, specs.meaning.Columns.without_first_blanks}

-- ---- digits

digits_after : (before : ℕ) (cs : List ℕ) → before ≢ 32 → is_plain_after before cs ≡ true
    → all_ascii_digits cs ≡ true
digits_after before [] other plain = refl
digits_after before (c ∷ cs) other plain = grind (arith, common_steps, digits_after c cs)

pub weighed_digits : (n : ℕ) (ds : List ℕ) → all_ascii_digits ds ≡ true
    → weighed n ds ≡ digits_value_after 10 n ds
weighed_digits n [] digits = refl
weighed_digits n (c ∷ cs) digits = grind (arith, common_steps, weighed_digits (n * 10 + (c - 48)) cs)

no_minus : (ds : List ℕ) → all_ascii_digits ds ≡ true → list_any (λ c. eqb c 45) ds ≡ false
no_minus [] digits = refl
no_minus (c ∷ cs) digits = grind (arith, common_steps, no_minus cs)

digits_decimal : (decimals : ℕ) (whole fraction : List ℕ)
    → all_ascii_digits whole ≡ true → all_ascii_digits fraction ≡ true → length fraction ≡ decimals
    → size_of decimals (whole ++ 46 ∷ fraction) ≡ Some (weighed 0 (whole ++ fraction))
digits_decimal decimals whole fraction first then three =
    search (rules, weighed_digits, digits_before, digits_value_after-append, digits_behind, size_of_pieces)

-- ---- a number after its blanks

decimal_after : (decimals c : ℕ) (cs fraction : List ℕ) → c ≢ 32
    → c ≢ 45 → all_ascii_digits (c ∷ cs) ≡ true → all_ascii_digits fraction ≡ true
    → length fraction ≡ decimals → missing_or_number decimals (without_first_blanks (c ∷ cs ++ 46 ∷ fraction))
    ≡ Some (Some (signed_number (list_any (λ c. eqb c 45) (c ∷ cs)) (weighed 0 (c ∷ cs ++ fraction))))
decimal_after decimals c cs fraction no_blank no_sign digits then three =
    let text = c ∷ cs ++ 46 ∷ fraction in
    let sign = no_minus (c ∷ cs) digits in
    let reads = decimal_number_plain decimals text no_sign
    ∙ ap (option_map pos) (digits_decimal _ (c ∷ cs) _ digits then three) in
    grind (arith, common_steps, text, sign, reads, without_first_blanks-text, missing_or_number_text)

abbrev Spells : ℕ → List ℕ → List ℕ → Type 0
Spells decimals fraction whole = missing_or_number decimals (without_first_blanks (whole ++ 46 ∷ fraction))
    ≡ Some (Some (signed_number (list_any (λ c. eqb c 45) whole) (weighed 0 (whole ++ fraction))))

pub decimal_whole : (decimals : ℕ) (fraction whole : List ℕ) → all_ascii_digits fraction ≡ true
    → length fraction ≡ decimals → is_plain_after 32 whole ≡ true → Spells decimals fraction whole
decimal_whole decimals fraction [] then three plain =
    ap (λ o. option_map Some (option_map (signed_number false) o))
    (digits_decimal decimals [] fraction refl then three)
decimal_whole n fraction (c ∷ cs) then three plain =
    grind (arith, common_steps, digits_decimal, digits_after, decimal_after, decimal_whole n fraction cs)

not_minus : (c : ℕ) → is_ascii_digit c ≡ true → eqb c 45 ≡ false
not_minus c is_digit = grind arith

-- ---- a field whose columns are plain

abbrev pub number_in : List ℕ → ℤ
number_in columns = signed_number (list_any (λ c. eqb c 45) (take 14 columns))
    (weighed 0 (plain_digits columns))

first_weighs_nothing : (c : ℕ) → (eqb c 32 || eqb c 45) ≡ true → 0 * 10 + (c - 48) ≡ 0
first_weighs_nothing c either = grind (arith, common_steps, or_cases, eqb, eqb-true)

plain_explicit : (c : ℕ → ℕ) (rest : List ℕ) → IsPlain (map c (range_with_len 0 14) ++ rest)
    → number_of 14 3 (map c (range_with_len 0 14))
    ≡ Some (Some (number_in (map c (range_with_len 0 14) ++ rest)))
plain_explicit c rest plain =
    let fraction = map c (range_with_len 11 3) in
    let one = and_parts (is_ascii_digit (c 11)) _ plain.fraction in
    let two = and_parts (is_ascii_digit (c 12)) _ one.1 in
    let three = and_parts (is_ascii_digit (c 13)) _ two.1 in
    let first : 0 * 10 + (c 0 - 48) ≡ 0 = first_weighs_nothing (c 0) plain.first in
    number_of_width 14 3 (map c (range_with_len 0 14)) refl
    ∙ (rw (plain.point, not_minus (c 11) one.0, not_minus (c 12) two.0, not_minus (c 13) three.0)
    (rw first at (decimal_whole 3 fraction (map c (range_with_len 0 10)) plain.fraction refl plain.whole)))

-- a field, and lanes after it
pub plain_number : (field rest : List ℕ) → length field ≡ 14
    → IsPlain (field ++ rest) → number_of 14 3 field ≡ Some (Some (number_in (field ++ rest)))
plain_number field rest long =
    subst (λ (f : List ℕ). IsPlain (f ++ rest) → number_of 14 3 f ≡ Some (Some (number_in (f ++ rest))))
    (sym (fourteen field long)) (plain_explicit (λ (i : ℕ). get_or field i 0) rest)
