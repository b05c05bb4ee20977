-- Texts that spell a number as printing does.
use Rattle.std.proofs.Common.{◌≡◌, ℕ, ℤ, pos, neg_ℤ, zero, suc, ◌+◌, ◌-◌, ◌*◌, ◌/◌, ◌%◌, ◌<◌, ◌≤◌, ◌^◌}
use Rattle.std.proofs.Common.{Bool, true, false, not, ◌&&◌, ◌||◌, eqb}
use Rattle.std.proofs.Common.{List, [], ◌∷◌, ◌++◌, length, take, drop}
use Rattle.std.proofs.Common.{get_or, replicate, Option, Some, None, refl, sym, ap, ◌∙◌, arith, subst}
use Rattle.std.proofs.Common.{eqb-true}
use Rattle.std.proofs.lemmas.{Grind.common_steps, Fmt.{decimal-digits_value, decimal_digit}}
use Rattle.std.specs.{Char.is_ascii_digit, Str.{all_ascii_digits, Parse.{digits_value, digits_value_after}}}
use Rattle.std.proofs.lemmas.{Bool.{and_parts, eqb-false}, Option.{same_Some, none-some}}
use Rattle.std.specs.Option.{option_map}
use Rattle.std.proofs.lemmas.List.{drop_more, take-append-drop, length-take-le, length-drop}
use Rattle.std.proofs.lemmas.{List.{length-replicate, length-append}, Str.Parse.digits_value_short}
use Rattle.crx_text.proofs.PowersOfTen.{digit_value_is, digit_range}
use Rattle.crx_text.proofs.PrintedDigits.{padded_digits}
use Rattle.crx_text.proofs.ReadBack.{digits_own, digits_behind}
use Rattle.crx_text.proofs.Sizes.{size_of_short, size_of_pointless, size_of_parts}
use Rattle.crx_text.proofs.Sizes.{decimal_number_plain, decimal_number_minus}
use Rattle.crx_text.specs.meaning.{Columns.without_first_blanks, Numbers.{size_of, size_text, zero_padded}}
use Rattle.crx_text.specs.meaning.Numbers.{decimal_number, missing_or_number, number_text, spelling}

-- whether columns continue as printing does: `left` of them are before the point, and `before` is the column
-- before them
abbrev pub is_formed : ℕ → ℕ → List ℕ → Bool
is_formed left before [] = true
is_formed zero before (c ∷ cs) = not ((eqb before 32 || eqb before 45) && eqb c 46)
is_formed (suc zero) before (c ∷ cs) = not (eqb before 45 && eqb c 48) && is_formed zero c cs
is_formed (suc (suc n)) before (c ∷ cs) =
    not ((eqb before 32 || eqb before 45) && eqb c 48) && is_formed (suc n) c cs

-- ---- a number without its sign

three_digits : (a b c : ℕ) → is_ascii_digit a ≡ true → is_ascii_digit b ≡ true → is_ascii_digit c ≡ true
    → zero_padded 3 (digits_value 10 (a ∷ b ∷ c ∷ [])) ≡ a ∷ b ∷ c ∷ []
three_digits a b c one two three =
    let printed = padded_digits (a - 48) ((b - 48) ∷ (c - 48) ∷ []) in
    grind (arith, common_steps, digit_value_is, digit_range)

fraction_printed : (fraction : List ℕ) → all_ascii_digits fraction ≡ true → length fraction ≡ 3
    → zero_padded 3 (digits_value 10 fraction) ≡ fraction
fraction_printed (a ∷ b ∷ c ∷ []) digits three = grind (arith, common_steps, and_parts, three_digits)
fraction_printed fraction digits three = absurd (omega (arith, three))

-- whole digits, a point and three digits
parts_printed : (whole fraction : List ℕ) → all_ascii_digits whole ≡ true → all_ascii_digits fraction ≡ true
    → length fraction ≡ 3 → 0 < length whole → length whole ≤ 10 → (get_or whole 0 0 ≡ 48 → length whole ≡ 1)
    → size_text 3 (digits_value_after 10 (digits_value 10 whole) fraction) ≡ whole ++ 46 ∷ fraction
parts_printed whole fraction first then three some few led =
    let size : ℕ = digits_value 10 whole in
    let rest : ℕ = digits_value 10 fraction in
    let small : size < 10 ^ 10 = digits_value_short digits_own whole 10 first few in
    let less : rest < 10 ^ 3 = digits_value_short digits_own fraction 3 then (omega (arith, three)) in
    let sum : digits_value_after 10 size fraction ≡ size * 10 ^ 3 + rest =
    digits_behind size fraction ∙ ap (λ n. size * 10 ^ n + rest) three in
    let over : (size * 10 ^ 3 + rest) / 10 ^ 3 ≡ size = omega (arith, less) in
    let left : (size * 10 ^ 3 + rest) % 10 ^ 3 ≡ rest = omega (arith, less) in
    rw (
      sum,
      over,
      left,
      decimal-digits_value digits_own whole first some led (omega (arith, small)),
      fraction_printed fraction then three,
    ) refl

around : (w : ℕ) (s : List ℕ) → w < length s → get_or s w 0 ≡ 46 → take w s ++ 46 ∷ drop (w + 1) s ≡ s
around w s within point =
    ap (λ t. take w s ++ t) (rw (← point) (sym (drop_more s w 0 within))) ∙ take-append-drop w s

size_printed : (w z : ℕ) (s : List ℕ) → length s ≡ w + 4 → 0 < w → w ≤ 10 → (get_or s 0 0 ≡ 48 → w ≡ 1)
    → size_of 3 s ≡ Some z → size_text 3 z ≡ s
size_printed w z s long some few led reads =
    grind (
      arith,
      common_steps,
      size_of_pointless,
      size_of_parts,
      parts_printed,
      around,
      length-take-le,
      length-drop,
    )

-- after a blank or a minus
led_printed : (w z before c : ℕ) (cs : List ℕ) → (eqb before 32 || eqb before 45) ≡ true
    → length (c ∷ cs) ≡ w + 4
    → w ≤ 10 → is_formed w before (c ∷ cs) ≡ true → size_of 3 (c ∷ cs) ≡ Some z → size_text 3 z ≡ c ∷ cs
led_printed w z before c cs first long few formed reads =
    grind (arith, common_steps, size_of_pointless 3 0 (c ∷ cs), size_printed w z (c ∷ cs))

-- ---- a number with its sign

zero_first : (c : ℕ) (cs : List ℕ) → size_text 3 0 ≡ c ∷ cs → c ≡ 48
zero_first c cs is = grind (arith, common_steps, decimal_digit, get_or)

-- a number after a minus isn't 0
some_behind : (w z c : ℕ) (cs : List ℕ) → length (c ∷ cs) ≡ w + 4 → is_formed w 45 (c ∷ cs) ≡ true
    → size_of 3 (c ∷ cs) ≡ Some z → size_text 3 z ≡ c ∷ cs → 0 < z
some_behind w z c cs long formed reads is =
    grind (arith, common_steps, size_of_pointless 3 0 (c ∷ cs), zero_first)

long_enough : (z : ℕ) (s : List ℕ) → size_of 3 s ≡ Some z → 4 ≤ length s
long_enough z s reads = grind (arith, common_steps, size_of_short)

-- a text of its own width, whose columns are in form
abbrev HasForm : List ℕ → Type 0
HasForm s = (length s ≤ 14) × (4 ≤ length s → is_formed (length s - 4) 32 s ≡ true)

form_rest : (c : ℕ) (cs : List ℕ) → HasForm (c ∷ cs) → 4 ≤ length cs → is_formed (length cs - 4) c cs ≡ true
form_rest c cs form long = grind (arith, common_steps)

plain_printed : (o : Option ℕ) (c : ℕ) (cs : List ℕ) (n : ℤ) → HasForm (c ∷ cs) → size_of 3 (c ∷ cs) ≡ o
    → option_map pos o ≡ Some n → spelling 3 n ≡ c ∷ cs
plain_printed None c cs n form is e = absurd (none-some n e)
plain_printed (Some z) c cs n form is e = grind (arith, common_steps, long_enough, led_printed)

minus_printed : (o : Option ℕ) (cs : List ℕ) (n : ℤ) → HasForm (45 ∷ cs) → size_of 3 cs ≡ o
    → option_map (λ z. neg_ℤ (pos z)) o ≡ Some n → spelling 3 n ≡ 45 ∷ cs
minus_printed None cs n form is e = absurd (none-some n e)
minus_printed (Some z) [] n form is e = absurd (omega (arith, long_enough z [] is))
minus_printed (Some z) (c ∷ cs) n form is e =
    let long = long_enough z (c ∷ cs) is in
    let printed = led_printed (length (c ∷ cs) - 4) z 45 c cs refl in
    grind (arith, common_steps, form_rest 45 (c ∷ cs), below, some_behind (length (c ∷ cs) - 4) z c cs)
  where
    below : (z : ℕ) → 0 < z → size_text 3 z ≡ c ∷ cs → spelling 3 (neg_ℤ (pos z)) ≡ 45 ∷ c ∷ cs
    below zero some printed = absurd (omega (arith, some))
    below (suc less) some printed =
        let next : less + 1 ≡ suc less = omega arith in
        ap (λ t. 45 ∷ t) (ap (size_text 3) next ∙ printed)

-- ---- a field

width_of_own : (n : ℤ) (s : List ℕ) → spelling 3 n ≡ s → number_text (length s) 3 (Some n) ≡ s
unfolding number_text
width_of_own n s is = grind (arith, common_steps)

text_printed : (c : ℕ) (cs : List ℕ) (v : Option ℤ) → HasForm (c ∷ cs)
    → missing_or_number 3 (c ∷ cs) ≡ Some v → number_text (suc (length cs)) 3 v ≡ c ∷ cs
text_printed c cs v form reads = by_number (decimal_number 3 (c ∷ cs)) refl reads
  where
    by_sign : (b : Bool) (n : ℤ) → eqb c 45 ≡ b → decimal_number 3 (c ∷ cs) ≡ Some n → spelling 3 n ≡ c ∷ cs
    by_sign true n e spelled =
        let minus : c ≡ 45 = eqb-true c 45 e in
        subst (λ d. HasForm (d ∷ cs) → spelling 3 n ≡ d ∷ cs) (sym minus)
        (λ form. minus_printed (size_of 3 cs) cs n form refl
        (sym (decimal_number_minus 3 (c ∷ cs) minus) ∙ spelled)) form
    by_sign false n e spelled = plain_printed (size_of 3 (c ∷ cs)) c cs n form refl
        (sym (decimal_number_plain 3 (c ∷ cs) (eqb-false c 45 e)) ∙ spelled)

    by_number : (o : Option ℤ) → decimal_number 3 (c ∷ cs) ≡ o → option_map Some o ≡ Some v
        → number_text (suc (length cs)) 3 v ≡ c ∷ cs
    by_number None is e = absurd (none-some v e)
    by_number (Some n) is e = subst (λ v. number_text (suc (length cs)) 3 v ≡ c ∷ cs) (same_Some _ _ e)
        (width_of_own n (c ∷ cs) (by_sign (eqb c 45) n refl is))

blank_more : (v : Option ℤ) (cs : List ℕ) → number_text (length cs) 3 v ≡ cs
    → number_text (suc (length cs)) 3 v ≡ 32 ∷ cs
unfolding number_text
blank_more None cs is = ap (λ t. 32 ∷ t) is
blank_more (Some n) cs is =
    let long = length-replicate {A = ℕ} (length cs - length (spelling 3 n)) 32 in
    let sum = ap (λ (t : List ℕ). length t) is in
    let next : suc (length cs) - length (spelling 3 n) ≡ suc (length cs - length (spelling 3 n)) =
    omega (
      arith,
      long,
      sum,
      length-append (replicate {A = ℕ} (length cs - length (spelling 3 n)) 32) (spelling 3 n),
    ) in
    rw next (ap (λ t. 32 ∷ t) is)

none_text : number_text 0 3 None ≡ []
unfolding number_text
none_text = refl

-- columns in form that spell a value are its printed text
pub field_printed : (t : List ℕ) (v : Option ℤ) → HasForm t
    → missing_or_number 3 (without_first_blanks t) ≡ Some v → number_text (length t) 3 v ≡ t
field_printed [] v form reads = subst (λ v. number_text 0 3 v ≡ []) (same_Some _ _ reads) none_text
field_printed (c ∷ cs) v form reads =
    grind (arith, common_steps, blank_more, form_rest 32 cs, field_printed cs v, text_printed c cs)
