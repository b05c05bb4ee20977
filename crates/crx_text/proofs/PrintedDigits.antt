-- Digits in a row, as the decimal text of their number.
use Rattle.std.proofs.lemmas.Grind.{common_steps}
use Rattle.std.proofs.Common.{◌≡◌, ℕ, zero, suc, ◌+◌, ◌-◌, ◌*◌, ◌^◌, ◌<◌, ◌≤◌, Bool, true, ltb, eqb}
use Rattle.std.proofs.Common.{if◌then◌else◌, List, [], ◌∷◌, ◌++◌, map, length, replicate, drop, decimal, refl}
use Rattle.std.proofs.{Common.{sym, ap, ◌∙◌, arith}}
use Rattle.std.proofs.lemmas.{Fmt.{decimal_digit, decimal_step}, List.{length-map, length-drop, append-nil}}
use Rattle.std.specs.List.{list_all}
use Rattle.crx_text.specs.meaning.Numbers.{zero_padded}
pub use Rattle.crx_text.specs.Digits.{written}

-- the zeros before a number's first digit; its last digit isn't counted
abbrev pub leading_zeros : List ℕ → ℕ
leading_zeros [] = 0
leading_zeros (d ∷ []) = 0
leading_zeros (d ∷ e ∷ ds) = if eqb d 0 then suc (leading_zeros (e ∷ ds)) else 0

abbrev pub are_digits : List ℕ → Bool
are_digits ds = list_all (λ d. ltb d 10) ds

abbrev pub glyphs : List ℕ → List ℕ
glyphs ds = map (λ d. 48 + d) ds

written_grows : (size : ℕ) (ds : List ℕ) → size ≤ written size ds
written_grows size [] = omega arith
written_grows size (d ∷ ds) = let more = written_grows (size * 10 + d) ds in omega (arith, more)

-- digits after a number that isn't 0
decimal_more : (size : ℕ) (ds : List ℕ)
    → 0 < size → are_digits ds ≡ true → written size ds < 2 ^ 64 → decimal (written size ds)
    ≡ decimal size ++ glyphs ds
decimal_more size [] some digits fits = sym (append-nil (decimal size))
decimal_more size (d ∷ ds) some digits fits =
    grind (arith, common_steps, written_grows, decimal_step, decimal_more (size * 10 + d) ds)

-- the decimal text is the digits without the zeros before them
pub decimal_of_digits : (d : ℕ) (ds : List ℕ) → are_digits (d ∷ ds) ≡ true
    → written 0 (d ∷ ds) < 2 ^ 64 → decimal (written 0 (d ∷ ds))
    ≡ glyphs (drop (leading_zeros (d ∷ ds)) (d ∷ ds))
decimal_of_digits zero (e ∷ ds) digits fits = decimal_of_digits e ds digits fits
decimal_of_digits d ds digits fits = grind (arith, common_steps, decimal_digit, decimal_more)

pub zeros_few : (ds : List ℕ) → leading_zeros ds ≤ length ds - 1
zeros_few (zero ∷ e ∷ ds) = let few = zeros_few (e ∷ ds) in omega (arith, few)
zeros_few ds = grind (arith, common_steps)

pub zeros_first : (ds : List ℕ) → ds ≡ replicate (leading_zeros ds) 0 ++ drop (leading_zeros ds) ds
zeros_first (zero ∷ e ∷ ds) = ap (λ r. 0 ∷ r) (zeros_first _)
zeros_first ds = grind (arith, common_steps)

glyphs_of_zeros : (k : ℕ) (ds : List ℕ) → glyphs (replicate k 0 ++ ds) ≡ replicate k 48 ++ glyphs ds
glyphs_of_zeros zero ds = refl
glyphs_of_zeros (suc k) ds = ap (λ r. 48 ∷ r) (glyphs_of_zeros k ds)

-- digits with the zeros before them
pub padded_digits : (d : ℕ) (ds : List ℕ) → are_digits (d ∷ ds) ≡ true
    → written 0 (d ∷ ds) < 2 ^ 64 → zero_padded (suc (length ds)) (written 0 (d ∷ ds)) ≡ glyphs (d ∷ ds)
padded_digits d ds digits fits =
    let all = d ∷ ds in
    let zeros : ℕ = leading_zeros all in
    let few = zeros_few all in
    let text = decimal_of_digits d ds digits fits in
    let long : length (glyphs (drop zeros all)) ≡ length all - zeros = simp (length-map, length-drop) refl in
    let count : suc (length ds) - length (glyphs (drop zeros all)) ≡ zeros = omega (arith, long, few) in
    rw (text, count) (sym (glyphs_of_zeros zeros (drop zeros all)) ∙ ap glyphs (sym (zeros_first all)))
