-- Numbers read from columns fit them.
use Rattle.std.proofs.Common.{◌≡◌, ℕ, ◌-◌, ◌<◌, ◌≤◌, ◌^◌, Bool, true, false, cond, eqb, List, []}
use Rattle.std.proofs.Common.{◌∷◌, ◌++◌, length, Option, Some, None, refl, subst, inl, inr, arith}
use Rattle.std.proofs.lemmas.{Bool.{cases_Bool, and_parts, eqb-true}, Grind.common_steps, List.length-append}
use Rattle.std.proofs.lemmas.{List.{length-take, length-drop}, Option.{cond_some, same_Some, none-some}}
use Rattle.std.proofs.lemmas.Str.Parse.{digits_value_short, numerals_by_value, tells_all_ascii_digits}
use Rattle.std.specs.{Option.option_map, Prelude.ℤ, Str.all_ascii_digits}
use Rattle.crx_text.{proofs.Sizes.{signed_is_within, IsWithin_more}}
use Rattle.crx_text.specs.meaning.{Columns.without_first_blanks, Numbers.{size_of, decimal_number}}
use Rattle.crx_text.specs.meaning.Numbers.{signed_number, missing_or_number, number_of, observation_of}
use Rattle.crx_text.specs.meaning.Numbers.{clock_of, IsWithin, IsMissingOrWithin, IsValue}
use Rattle.crx_rinex.specs.meaning.EpochLines.{IsClockOffset}

digits-append : (xs ys : List ℕ)
    → all_ascii_digits xs ≡ true → all_ascii_digits ys ≡ true → all_ascii_digits (xs ++ ys) ≡ true
digits-append [] ys h k = k
digits-append (x ∷ xs) ys h k = grind (arith, common_steps, digits-append xs ys)

-- the digits of a text with a point are one fewer than its characters
size_small : (decimals : ℕ) (text : List ℕ) (n : ℕ) → size_of decimals text ≡ Some n
    → n < 10 ^ (length text - 1)
unfolding size_of
size_small decimals text n h =
    let small = digits_value_short
    (numerals_by_value (λ ds. all_ascii_digits ds ≡ true) tells_all_ascii_digits) in
    grind (arith, common_steps, digits-append, length-append, length-take, length-drop, cond_some, and_parts)

-- a number fits the columns of its spelling
mapped : {P : Type 0} (f : ℕ → ℤ) (o : Option ℕ) (v : ℤ)
    → option_map f o ≡ Some v → ((n : ℕ) → o ≡ Some n → f n ≡ v → P) → P
mapped = grind (arith, common_steps, none-some, same_Some)

decimal_within : (decimals : ℕ) (text : List ℕ) (v : ℤ)
    → decimal_number decimals text ≡ Some v → IsWithin (length text) v
decimal_within decimals [] v = grind (arith, common_steps, mapped, signed_is_within, size_small)
decimal_within decimals (c ∷ cs) v =
    elim (cases_Bool (eqb c 45)) [
      | inl t ↦ rw t (λ h. mapped (signed_number true) (size_of _ cs) v h
          (λ n e s. subst (IsWithin (length (c ∷ cs))) s
          (signed_is_within true n (length cs) (length (c ∷ cs)) (omega arith) (size_small decimals cs n e))))
      | inr f ↦ rw f (λ h. grind (arith, common_steps, mapped, signed_is_within false, size_small decimals))
    ]

first_blanks_shorter : (text : List ℕ) → length (without_first_blanks text) ≤ length text
first_blanks_shorter [] = omega arith
first_blanks_shorter (c ∷ cs) = grind (arith, common_steps, first_blanks_shorter cs)

found_within : (decimals : ℕ) (text : List ℕ) (s : Option ℤ) (o : Option ℤ)
    → decimal_number decimals text ≡ s → option_map Some s ≡ Some o → IsMissingOrWithin (length text) o
found_within = grind (arith, common_steps, none-some, same_Some, decimal_within)

missing_within : (decimals : ℕ) (text : List ℕ) (o : Option ℤ)
    → missing_or_number decimals text ≡ Some o → IsMissingOrWithin (length text) o
missing_within decimals [] o h = grind arith
missing_within decimals (c ∷ cs) o h = found_within _ (c ∷ cs) _ o refl h

within_more : (columns width : ℕ) (o : Option ℤ)
    → columns ≤ width → IsMissingOrWithin columns o → IsMissingOrWithin width o
within_more columns width o fewer h = grind (arith, common_steps, IsWithin_more)

pub tested : {A : Type 0} (b : Bool) (o : Option A) (y : A) → cond b o None ≡ Some y
    → (b ≡ true) × (o ≡ Some y)
tested = grind (arith, common_steps, none-some)

number_within : (width decimals : ℕ) (text : List ℕ) (o : Option ℤ)
    → number_of width decimals text ≡ Some o → IsMissingOrWithin width o
unfolding number_of
number_within width decimals text o h =
    let parts = tested _ _ o h in
    grind (
      arith,
      eqb-true _ width parts.0,
      first_blanks_shorter text,
      within_more,
      missing_within _ _ o parts.1,
    )

pub value_fits : (text : List ℕ) (value : Option ℤ) → observation_of text ≡ Some value → IsValue value
value_fits text value h = number_within _ _ text value h

pub clock_fits : (text : List ℕ) (clock : Option ℤ) → clock_of text ≡ Some clock → IsClockOffset clock
clock_fits text clock h = number_within _ _ text clock h
