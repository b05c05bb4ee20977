-- From the row of text to the text of a size.
use Rattle.std.proofs.Common.{◌≡◌, ℕ, zero, suc, ◌+◌, ◌-◌, ◌/◌, ◌%◌, ◌^◌, ◌<◌, true, List, [], ◌∷◌}
use Rattle.std.proofs.Common.{◌++◌, length, replicate, take, drop, set, get_or, refl, sym, ap, ◌∙◌}
use Rattle.std.proofs.{Common.{length-append, arith}, lemmas.Bool.{ne_eqb}}
use Rattle.std.proofs.lemmas.{Grind.common_steps, List.length-drop}
use lib.Lanes.{zip2}
use Rattle.crx_text.proofs.PrintedDigits.{written, are_digits, glyphs, decimal_of_digits, padded_digits}
use Rattle.crx_text.{proofs.PrintedDigits.{leading_zeros, zeros_few}, specs.meaning.Numbers.size_text}

-- ---- lanes added to their bases

abbrev pub plus : List ℕ → List ℕ → List ℕ
plus = zip2 (λ a b. (a + b) % 256)

plus_digits : (ds rest : List ℕ) (n m : ℕ) → are_digits ds ≡ true → m ≡ length ds + n
    → plus (ds ++ rest) (replicate m 48) ≡ glyphs ds ++ plus rest (replicate n 48)
plus_digits (d ∷ ds) rest n (suc m) digits sum = grind (arith, common_steps, plus_digits ds rest n m)
plus_digits ds rest n m digits sum = grind (arith, common_steps)

-- blanks in the columns of the zeros before the number
spaced : (ds rest : List ℕ) (n m : ℕ) → are_digits ds ≡ true → leading_zeros ds + m ≡ length ds + n
    → plus (ds ++ rest) (replicate (leading_zeros ds) 32 ++ replicate m 48)
    ≡ replicate (leading_zeros ds) 32 ++ (glyphs (drop (leading_zeros ds) ds) ++ plus rest (replicate n 48))
spaced (zero ∷ e ∷ ds) rest n m digits sum = grind (arith, common_steps, spaced (e ∷ ds) rest n m)
spaced (suc d ∷ e ∷ ds) rest n m digits sum =
    grind (arith, common_steps, ne_eqb, plus_digits (suc d ∷ e ∷ ds) rest n m)
spaced (d ∷ []) rest n m digits sum = plus_digits (d ∷ []) rest n m digits (omega (arith, sum))
spaced [] rest n m digits sum = plus_digits [] rest n m digits (omega (arith, sum))

cut : (n w : ℕ) (text rest : List ℕ)
    → n + length text ≡ w → take w (replicate n 32 ++ (text ++ rest)) ≡ replicate n 32 ++ text
cut n w text rest sum = grind (arith, common_steps)

-- the digits before the point and after it, and the two columns after the field
abbrev pub row_of : List ℕ → List ℕ → List ℕ
row_of nine three = 0 ∷ (nine ++ (254 ∷ (three ++ (0 ∷ 0 ∷ []))))

-- ---- the digits of a size

abbrev pub nine_of : ℕ → ℕ → ℕ → List ℕ
nine_of a b c = a / 100 ∷ a / 10 % 10 ∷ a % 10 ∷ b / 100 ∷ b / 10 % 10 ∷ b % 10 ∷ c / 100 ∷ c / 10 % 10
    ∷ c % 10 ∷ []

abbrev pub three_of : ℕ → List ℕ
three_of d = d / 100 ∷ d / 10 % 10 ∷ d % 10 ∷ []

-- the digits of a size's thousands, and of the rest
abbrev pub nine_in : ℕ → List ℕ
nine_in size = nine_of (size / 10 ^ 9) (size / 10 ^ 6 % 1000) (size / 1000 % 1000)

abbrev pub three_in : ℕ → List ℕ
three_in size = three_of (size % 1000)

module _ (size : ℕ) (small : size < 10 ^ 12) where
  nine_are_digits : are_digits (nine_in size) ≡ true
  nine_are_digits = grind (arith, common_steps, three_of)

  three_are_digits : are_digits (three_in size) ≡ true
  three_are_digits = grind arith

  whole_weighs : written 0 (nine_in size) ≡ size / 1000
  whole_weighs = grind arith

  fraction_weighs : written 0 (three_in size) ≡ size % 1000
  fraction_weighs = grind arith

  -- the digits without the zeros before them, the point and three digits
  abbrev printed : List ℕ
  printed = glyphs (drop (leading_zeros (nine_in size)) (nine_in size)) ++ (46 ∷ glyphs (three_in size))

  printed_is : printed ≡ size_text 3 size
  printed_is =
      grind (
        arith,
        whole_weighs,
        decimal_of_digits (size / 10 ^ 9 / 100) (drop 1 (nine_in size)) nine_are_digits,
        padded_digits (size % 1000 / 100) (drop 1 (three_in size)) three_are_digits,
      )

  -- ---- the text in a field

  module _ (start : ℕ) (cell : List ℕ) (start_is : start ≡ 1 + leading_zeros (nine_in size))
      (cell_is : cell ≡ plus (row_of (nine_in size) (three_in size))
      (replicate start 32 ++ replicate (16 - start) 48)) where
    pub text_length : start + length (size_text 3 size) ≡ 14
    text_length = grind (arith, common_steps, length-append, length-drop, printed_is, start_is, zeros_few)

    written_row : cell ≡ replicate start 32 ++ (size_text 3 size ++ (48 ∷ 48 ∷ []))
    written_row =
        let zeros = leading_zeros (nine_in size) in
        let left = glyphs (drop zeros (nine_in size)) in
        let row = spaced (nine_in size) (254 ∷ (three_in size ++ (0 ∷ 0 ∷ []))) 6 (15 - zeros) nine_are_digits
        (omega (arith, zeros_few (nine_in size))) in
        let tail = plus_digits (three_in size) (0 ∷ 0 ∷ []) 2 5 three_are_digits refl in
        let at : start ≡ suc zeros = omega (arith, start_is) in
        let count : 16 - suc zeros ≡ 15 - zeros = omega arith in
        grind (arith, common_steps, zeros, left, row, tail, at, count, printed_is)

    field_text : take 14 cell ≡ replicate start 32 ++ size_text 3 size
    field_text = rw written_row (cut start 14 (size_text 3 size) (48 ∷ 48 ∷ []) text_length)

-- ---- a sign in the column before the size

-- a sign over the last of some blanks
pub sign_last : (n sign : ℕ) (text : List ℕ) → set (replicate (suc n) 32 ++ text) n sign
    ≡ replicate n 32 ++ sign ∷ text
sign_last zero sign text = refl
sign_last (suc n) sign text = ap (λ t. 32 ∷ t) (sign_last n sign text)

-- a byte added to a zero is unchanged
sum_put : (xs ys : List ℕ) (i sign : ℕ) → get_or xs i 0 ≡ 0 → sign < 256 → plus xs (set ys i sign)
    ≡ set (plus xs ys) i sign
sum_put (x ∷ xs) (y ∷ ys) (suc i) sign none small =
    ap (λ t. (x + y) % 256 ∷ t) (sum_put xs ys i sign none small)
sum_put xs ys i sign none small = grind (arith, common_steps)

-- the column before the number has none of its digits
none_before : (ds rest : List ℕ) → get_or (0 ∷ (ds ++ rest)) (leading_zeros ds) 0 ≡ 0
none_before (zero ∷ e ∷ ds) rest = none_before (e ∷ ds) rest
none_before (suc d ∷ e ∷ ds) rest = grind (arith, common_steps, ne_eqb)
none_before (d ∷ []) rest = refl
none_before [] rest = refl

put_in_front : (n : ℕ) (xs : List ℕ) (i x : ℕ) → take n (set xs i x) ≡ set (take n xs) i x
put_in_front (suc n) (y ∷ ys) (suc i) x = ap (λ t. y ∷ t) (put_in_front n ys i x)
put_in_front n xs i x = grind (arith, common_steps)

module _ (size : ℕ) (small : size < 10 ^ 12) (n m sign : ℕ) (byte : sign < 256)
    (n_is : n ≡ leading_zeros (nine_in size)) (m_is : m ≡ 16 - suc n) where
  pub signed_text : take 14 (plus (row_of (nine_in size) (three_in size))
      (replicate n 32 ++ sign ∷ replicate m 48)) ≡ replicate n 32 ++ sign ∷ size_text 3 size
  signed_text =
      let row : List ℕ = row_of (nine_in size) (three_in size) in
      let base : List ℕ = replicate (suc n) 32 ++ replicate (16 - suc n) 48 in
      let none = ap (λ k. get_or row k 0) n_is
      ∙ none_before (nine_in size) (254 ∷ (three_in size ++ (0 ∷ 0 ∷ []))) in
      ap (λ k. take 14 (plus row (replicate n 32 ++ sign ∷ replicate k 48))) m_is
      ∙ ap (λ t. take 14 (plus row t)) (sym (sign_last n sign (replicate (16 - suc n) 48)))
      ∙ ap (take 14) (sum_put row base n sign none byte)
      ∙ put_in_front 14 (plus row base) n sign
      ∙ ap (λ t. set t n sign) (field_text size small (suc n) (plus row base) (omega (arith, n_is)) refl)
      ∙ sign_last n sign (size_text 3 size)
