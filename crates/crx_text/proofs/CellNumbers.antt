-- Reading the number in a cell, up to the first blank of a line.
use Rattle.std.proofs.Common.{true, false, ℕ, ℤ, ◌≡◌, ◌<◌, Bool, List, [], ◌∷◌, length, Some, None, ◌&&◌}
use Rattle.std.proofs.Common.{arith, refl, get_or, eqb}
use Rattle.std.proofs.lemmas.{Bool.{cases_eq, ne_eqb, Decides.nat_tests}, Grind.common_steps}
use Rattle.std.specs.{Char.is_ascii_digit, List.list_any, Option.option_map, Str.all_ascii_digits}
use Rattle.std.specs.Str.Parse.{starts_with_minus}
use Rattle.crx_text.specs.{Codes.counted_digits, declared.code.Code.TheVariants.{Step}}
use Rattle.crx_text.specs.meaning.Codes.{code_of, coded_number, first_cell}
use Rattle.crx_text.specs.meaning.Numbers.{signed_number, without_minus}

-- the number in a cell, from its minus and its digits
pub coded_number-cell : (text digits : List ℕ) → digits ≡ without_minus text → coded_number (first_cell text)
    ≡ option_map (signed_number (starts_with_minus text)) (counted_digits (first_cell digits))
unfolding coded_number
coded_number-cell text digits is = grind arith

-- if no digit begins the cell, it has no number
pub no_first_digit : (text : List ℕ)
    → (0 < length text → is_ascii_digit (get_or text 0 0) ≡ false) → counted_digits (first_cell text) ≡ None
no_first_digit = grind (arith, common_steps)

-- ---- a number is the code of a difference

no_digits : (text digits : List ℕ)
    → digits ≡ without_minus text → all_ascii_digits digits ≡ false → coded_number text ≡ None
unfolding coded_number
no_digits text digits is other = grind arith

no_text : coded_number [] ≡ None
unfolding coded_number
no_text = refl

stopped : (b : Bool) → (b && false) ≡ false
stopped = grind (arith, common_steps)

after_order : (c : ℕ) (cs : List ℕ) → coded_number (c ∷ 38 ∷ cs) ≡ None
after_order c cs = grind (arith, common_steps, cases_eq, no_digits, stopped)

pub code_of-number : (text : List ℕ) (number : ℤ) → coded_number text ≡ Some number
    → code_of text ≡ Some (Step number)
code_of-number = grind (arith, common_steps, no_text, option_map, cases_eq, after_order)

-- ---- a text that is one cell

pub one_cell : (text : List ℕ) → list_any (λ c. eqb c 32) text ≡ false → first_cell text ≡ text
one_cell [] none = refl
one_cell (c ∷ cs) none = grind (arith, common_steps, one_cell cs)

blank_is_no_digit : (ds : List ℕ) → list_any (λ c. eqb c 32) ds ≡ true → all_ascii_digits ds ≡ false
blank_is_no_digit [] some = absurd (cc)
blank_is_no_digit (c ∷ cs) some = grind (arith, common_steps, blank_is_no_digit cs)

no_number_with_blank : (text : List ℕ) → list_any (λ c. eqb c 32) text ≡ true → coded_number text ≡ None
no_number_with_blank = grind (arith, common_steps, cases_eq, no_digits, blank_is_no_digit)

pub no_code_with_blank : (text : List ℕ) → list_any (λ c. eqb c 32) text ≡ true → code_of text ≡ None
no_code_with_blank = grind (arith, common_steps, no_number_with_blank, cases_eq, nat_tests, ne_eqb)
