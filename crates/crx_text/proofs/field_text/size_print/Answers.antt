use Rattle.std.proofs.Common.{Bool, true, false, if◌then◌else◌, ◌<◌, length-append, ◌≡◌, ◌+◌}
use Rattle.std.proofs.Common.{◌-◌, ◌/◌, ◌%◌, ◌^◌, ◌≤◌, ◌++◌, ◌∷◌, [], ℕ, List, length, replicate}
use Rattle.std.proofs.{Common.{take, drop, ap, refl, sym, ◌∙◌, arith}, lemmas.Grind.common_steps}
use Rattle.std.proofs.lemmas.{List.length-replicate, Simd.{length-zip2, put_chunk_whole}}
use lib.Lanes.{chunk, pick_l}
use Rattle.crx_text.proofs.{PrintedDigits.{leading_zeros, zeros_few}, PrintedLanes.{base_row}}
use Rattle.crx_text.proofs.PrintedTexts.{nine_in, plus, row_of, three_in}
use Rattle.crx_text.proofs.PrintedTexts.{text_length, signed_text}
use Rattle.crx_text.specs.{FieldTexts.group_digits, meaning.Numbers.size_text}
use Rattle.crx_text.specs.declared.field_text.TheConstants.{BASES}
use Rattle.crx_text.proofs.field_text.size_print.Goals.{Joined-is_below, then-is_below, else-is_below}
use Rattle.crx_text.proofs.field_text.size_print.Goals as goal

-- the columns of digits, the place of the number in them, and the bases added to them
abbrev in_columns : List ℕ → List ℕ
in_columns digits = pick_l 0 (digits ++ replicate 16 254)
    (3 ∷ 6 ∷ 5 ∷ 4 ∷ 2 ∷ 1 ∷ 0 ∷ 14 ∷ 13 ∷ 12 ∷ 16 ∷ 10 ∷ 9 ∷ 8 ∷ 3 ∷ 3 ∷ [])

module _ (size : ℕ) (digits : List ℕ) (is : digits ≡ group_digits (size / 10 ^ 6 % 1000 ∷ size / 10 ^ 9
    ∷ size % 1000 ∷ size / 1000 % 1000 ∷ [])) where
  columns_are : in_columns digits ≡ row_of (nine_in size) (three_in size)
  columns_are = ap in_columns is

-- the column after the zeros before the number, and the sign's column
module _ (size count : ℕ) (short : size < 10 ^ 12) (counted : count + 1 ≡ length (size_text 3 size)) where
  start_is : 14 - 1 - count ≡ 1 + leading_zeros (nine_in size)
  start_is =
      let zeros : ℕ = leading_zeros (nine_in size) in
      omega (arith, counted, text_length size short (1 + zeros) _ refl refl, zeros_few (nine_in size))

  count_few : count ≤ 12
  count_few =
      let zeros : ℕ = leading_zeros (nine_in size) in
      omega (arith, counted, text_length size short (1 + zeros) _ refl refl)

  start_few : 14 - 1 - count ≤ 9
  start_few = omega (arith, start_is, zeros_few (nine_in size))

-- the bases of the columns begin with blanks and the sign's column
first_is : (c : Joined-is_below) → c.if-is_below.first ≡ (if c.args.is_below then 48 else 16)
first_is c = elim c.if-is_below.branch [
  | then-is_below w ↦ w.first-is ∙ sym (ap (λ (b : Bool). if b then 48 else 16) w.if-is_below.true)
  | else-is_below w ↦ w.first-is ∙ sym (ap (λ (b : Bool). if b then 48 else 16) w.if-is_below.false)
]

first_many : (is_below : Bool) → 16 ≤ (if is_below then 48 else 16)
first_many true = omega arith
first_many false = omega arith

pub overflow_sub-text : goal.overflow_sub-text
overflow_sub-text c =
    let is = first_is (goal.at.overflow_sub-text c).Joined-is_below in
    omega (
      arith,
      is,
      first_many c.args.is_below,
      start_few c.args.size _ c.requires.short
          c.count_digits.ensures.counted,
    )

pub overflow_sub-start-2 : goal.overflow_sub-start-2
overflow_sub-start-2 c =
    omega (arith, count_few c.args.size _ c.requires.short c.count_digits.ensures.counted)

sign_small : (is_below : Bool) → (if is_below then 45 else 32) < 256
sign_small true = omega arith
sign_small false = omega arith

row_length : (n m sign : ℕ) → n + (m + 1) ≡ 16 → length (replicate n 32 ++ sign ∷ replicate m 48) ≡ 16
row_length n m sign sum = grind (arith, common_steps, sum, length-append, length-replicate)

pub returns : goal.returns
returns c =
    let size = c.args.size in
    let columns : List ℕ = in_columns c.digits.result in
    let row = columns_are size c.digits.result c.digits.ensures in
    let counted = c.count_digits.ensures.counted in
    let start : ℕ = 14 - 1 - c.count_digits.result in
    let at = start_is size c.count_digits.result c.requires.short counted in
    let few = start_few size c.count_digits.result c.requires.short counted in
    let some : 1 ≤ start = omega (arith, at) in
    let first : ℕ = c.if-is_below.first in
    let is = first_is (goal.at.returns c).Joined-is_below in
    let sign : ℕ = if c.args.is_below then 45 else 32 in
    let base : List ℕ = chunk 0 16 (take (64 - (first - start)) (drop (first - start) BASES)) in
    let base_is = ap (λ (k : ℕ). chunk 0 16 (take (64 - (k - start)) (drop (k - start) BASES))) is
    ∙ base_row c.args.is_below start some few in
    let sixteen = ap length base_is ∙ row_length (start - 1) (16 - start) sign (omega (arith, some, few)) in
    let long : length (plus columns base)
    ≡ 16 = length-zip2 (λ a b. (a + b) % 256) columns base (sym sixteen) in
    let cell = put_chunk_whole c.args.cell.now (plus columns base) (c.requires.width ∙ sym long)
    ∙ (λ k. plus (row k) (base_is k)) in
    record {
      start = text_length size c.requires.short start _ at refl;
      room = some;
      written = ap (take 14) cell ∙ signed_text size c.requires.short (start - 1) (16 - start) sign
          (sign_small c.args.is_below) (omega (arith, at)) (omega (arith, some));
    }
