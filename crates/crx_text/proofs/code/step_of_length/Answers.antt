use Rattle.std.proofs.Common.{arith, ◌≡◌, ◌+◌, ◌-◌, ◌%◌, ◌^◌, ◌<◌, ◌≤◌, ℕ}
use Rattle.std.proofs.Common.{List, Bool, Some, length, take, drop, w64}
use Rattle.std.proofs.{Common.{ap, sym, ◌∙◌}, lemmas.{Grind.common_steps, Int.to_z-of_z}}
use Rattle.std.specs.{Str.Parse.starts_with_minus}
use Rattle.crx_text.proofs.CellNumbers.{coded_number-cell}
use Rattle.crx_text.proofs.{FirstCells.{same_cell}, PowersOfTen.small_number}
use Rattle.crx_text.specs.{Codes.counted_digits, FirstDigits.HasFirstDigits}
use Rattle.crx_text.specs.{declared.code.Code.TheVariants.Step, meaning.Codes.{code_of, first_cell}}
use Rattle.crx_text.specs.meaning.Numbers.{signed_number, without_minus}
use mir.Val.{bool_byte}
use Rattle.crx_text.proofs.code.step_of_length.Goals as goal
use Rattle.std.proofs.Common.{rules}

-- the cell after its minus
after_minus : (text : List ℕ) → length (first_cell text)
    ≡ bool_byte (starts_with_minus text) + length (first_cell (without_minus text))
after_minus = grind (arith, common_steps, bool_byte)

-- digits that are all of their cell
all_digits : (text : List ℕ) (size count : ℕ) → HasFirstDigits text size count → 0 < count → count ≤ 6
    → length (first_cell text) ≡ count → counted_digits (first_cell text) ≡ Some size
all_digits text size count first some few whole = grind (arith, common_steps)

step_is : (text digits : List ℕ) (is_below : Bool) (size count : ℕ) → is_below ≡ starts_with_minus text
    → digits ≡ without_minus text → HasFirstDigits digits size count → 0 < count → count ≤ 6
    → count + bool_byte is_below ≡ length (first_cell text)
    → code_of (first_cell text) ≡ Some (Step (signed_number is_below size))
step_is text digits is_below size count sign rest first some few whole =
    grind (arith, common_steps, coded_number-cell text digits rest)

pub with_sign-requires : goal.with_sign-requires
with_sign-requires c = search (rules, arith, small_number)

-- all characters of a cell except its minus are digits
counted : (characters below count : ℕ) → characters < 2 ^ 64 → below ≤ 1 → count ≤ 6
    → count ≡ (characters + (2 ^ 64 - below)) % 2 ^ 64 → count + below ≡ characters
counted characters below count fits one few is = omega (arith, fits, one, few, is)

pub returns-clause-value : goal.returns-clause-value
returns-clause-value c =
    let p = c.padded.ensures in
    let minus = c.split_minus_of_cell-is_below.ensures in
    let same = same_cell _ _ c.args.at p.line p.blank p.room c.requires.within in
    let bytes = c.padded.result.now in
    let below : ℕ = bool_byte c.split_minus_of_cell-is_below.result.0 in
    let count : ℕ = (c.args.characters + (2 ^ 64 - c.from.result)) % 2 ^ 64 in
    let few : count ≤ 6 = c.if-count-gt-FEW.false in
    let one : below ≤ 1 = grind (arith, common_steps, bool_byte) in
    let fits : c.args.characters < 2 ^ 64 = search rules in
    let whole = counted c.args.characters below count fits one few
    (ap (λ n. (c.args.characters + (2 ^ 64 - n)) % 2 ^ 64) c.from.ensures) in
    let is = step_is (take (length bytes - c.args.at) (drop c.args.at bytes))
    c.split_minus_of_cell-is_below.result.1.now c.split_minus_of_cell-is_below.result.0 c.in_ok-size.size
    count minus.sign minus.rest c.in_ok-size.ensures.digits (omega (arith, c.if-count-eq0.false)) few
    (whole ∙ c.requires.counted (omega (arith, whole, one, few)) ∙ ap length (sym same)) in
    grind (arith, common_steps, w64, to_z-of_z, same, is)

pub returns-clause-short : goal.returns-clause-short
returns-clause-short c = search (rules, arith, small_number, w64)
