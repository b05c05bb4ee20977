-- How many digits a size has, from its number of bits.
use Rattle.std.proofs.Common.{◌≡◌, ℕ, zero, suc, ◌+◌, ◌-◌, ◌*◌, ◌/◌, ◌%◌}
use Rattle.std.proofs.Common.{◌^◌, ◌<◌, ◌≤◌, Bool, true, ◌&&◌, ◌||◌, eqb, leb}
use Rattle.std.proofs.Common.{length, get_or, decimal, refl, ap, arith, ◌⊎◌, inl, inr, ◌∙◌}
use Rattle.std.proofs.Math.Nat.{pow-le-pow_right, pow-suc}
use Rattle.std.proofs.lemmas.{Bool.{agree_below_at, and_parts, cases_lt, eqb-true, leb-true, or_cases}}
use Rattle.std.proofs.lemmas.{Fmt.{decimal_nonempty, length-decimal-le}, Nat.leading_top}
use Rattle.std.specs.Int.Count.{count_leading_zeros}
use Rattle.itoa.proofs.Decimal.{length_step_wide}
use Rattle.crx_text.proofs.{PowersOfTen.ten_pow_pos, Spellings.length-size_text}
use Rattle.crx_text.specs.declared.field_text.TheConstants.{COUNTS, DIGIT}
use Rattle.crx_text.specs.meaning.Numbers.{size_text}

-- a number that reaches a power of ten has more digits
longer : (k n : ℕ) → 10 ^ k ≤ n → n < 2 ^ 64 → k < length (decimal n)
longer zero n reaches fits = decimal_nonempty n fits
longer (suc k) n reaches fits =
    let ten : 10 ^ suc k ≡ 10 ^ k * 10 = pow-suc 10 k in
    let some = ten_pow_pos k in
    let more = longer k (n / 10) (omega (arith, reaches, ten)) (omega (arith, fits)) in
    omega (arith, more, length_step_wide n (omega (arith, reaches, ten, some)) (omega (arith, fits)))

-- a size of `count` digits, or of four or fewer
pub record HasDigits (size count : ℕ) : Type 0 where
  pub many : 4 ≤ count
  pub below : size < 10 ^ count
  pub reached : (count ≡ 4) ⊎ (10 ^ count ≤ 10 * size)

thousands : (m : ℕ) → 10 ^ suc (suc (suc (suc m))) ≡ 10 ^ suc m * 1000
thousands m =
    omega (arith, pow-suc 10 (suc (suc (suc m))), pow-suc 10 (suc (suc m)), pow-suc 10 (suc m))

whole_digits : (m size : ℕ) → size < 10 ^ 12 → HasDigits size (suc (suc (suc (suc m))))
    → length (decimal (size / 1000)) ≡ suc m
whole_digits m size short has =
    let most = length-decimal-le (suc m) (size / 1000) (omega arith) (omega (arith, has.below, thousands m))
    (omega (arith, short)) in
    let least : suc m ≤ length (decimal (size / 1000)) = elim has.reached [
      | inl four ↦ omega (arith, four, decimal_nonempty (size / 1000) (omega (arith, short)))
      | inr reached ↦ longer m (size / 1000)
          (omega (arith, reached, thousands m, pow-suc 10 m)) (omega (arith, short))
    ] in
    omega (arith, most, least)

pub text_counted : (size count : ℕ) → size < 10 ^ 12 → HasDigits size count
    → count + 1 ≡ length (size_text 3 size)
text_counted size (suc (suc (suc (suc m)))) short has =
    omega (arith, whole_digits m size short has, length-size_text 3 size (omega arith) (omega arith))
text_counted size count short has = absurd (omega (arith, has.many))

-- ---- the table's rows

-- the digits that a row counts, how far it is below a longer size, and the bits of its sizes
abbrev pub digits_in : ℕ → ℕ
digits_in row = get_or COUNTS row 0 / DIGIT

abbrev pub rest_in : ℕ → ℕ
rest_in row = get_or COUNTS row 0 % DIGIT

abbrev is_row : ℕ → Bool
is_row row = (leb 4 (digits_in row) && leb (digits_in row) 13)
    && ((eqb (digits_in row) 4 || leb (2 * 10 ^ (digits_in row - 1)) (2 ^ (40 - row)))
    && ((eqb (rest_in row) 0 && leb (2 ^ (40 - row)) (10 ^ digits_in row))
    || (eqb (rest_in row + 10 ^ digits_in row) DIGIT && leb (2 ^ (40 - row)) (10 ^ suc (digits_in row)))))

rows : (row : ℕ) → row < 41 → is_row row ≡ true
rows row small = agree_below_at is_row (λ r. true) 41 row refl small

power_before : (k : ℕ) → 4 ≤ k → 10 ^ k ≡ 10 ^ (k - 1) * 10
power_before k many =
    let before : k ≡ suc (k - 1) = omega (arith, many) in ap (λ n. 10 ^ n) before ∙ pow-suc 10 (k - 1)

-- a row holds for the sizes with its bits
pub record IsRow (bits digits rest : ℕ) : Type 0 where
  pub many : 4 ≤ digits
  pub few : digits ≤ 13
  pub least : (digits ≡ 4) ⊎ (2 * 10 ^ (digits - 1) ≤ 2 ^ bits)
  pub most : ((rest ≡ 0) × (2 ^ bits ≤ 10 ^ digits))
      ⊎ ((rest + 10 ^ digits ≡ DIGIT) × (2 ^ bits ≤ 10 ^ suc digits))

pub row_at : (row : ℕ) → row < 41 → IsRow (40 - row) (digits_in row) (rest_in row)
row_at row small =
    let parts = and_parts _ _ (rows row small) in
    let counts = and_parts _ _ parts.0 in
    let bounds = and_parts _ _ parts.1 in
    record {
      many = leb-true _ _ counts.0;
      few = leb-true _ _ counts.1;
      least = elim (or_cases _ _ bounds.0) [
        | inl four ↦ inl (eqb-true _ _ four)
        | inr least ↦ inr (leb-true _ _ least)
      ];
      most = elim (or_cases _ _ bounds.1) [
        | inl whole ↦ inl (both _ _ _ _ whole)
        | inr part ↦ inr (both _ _ _ _ part)
      ];
    }
  where
    both : (a b c d : ℕ) → (eqb a b && leb c d) ≡ true → (a ≡ b) × (c ≤ d)
    both a b c d is = let parts = and_parts _ _ is in (eqb-true _ _ parts.0, leb-true _ _ parts.1)

-- the bits of a size, from the zeros before those of twice the size plus one
abbrev pub HasBits : (size zeros : ℕ) → Type 0
HasBits size zeros = (23 ≤ zeros) × (zeros - 23 < 41) × (2 ^ (40 - (zeros - 23)) ≤ 2 * size + 1)
    × (2 * size + 1 < 2 * 2 ^ (40 - (zeros - 23)))

pub has_bits : (size : ℕ) → size < 10 ^ 12 → HasBits size (count_leading_zeros 64 (2 * size + 1))
has_bits size short =
    let zeros : ℕ = count_leading_zeros 64 (2 * size + 1) in
    let top = leading_top 64 (2 * size + 1) (omega arith) (omega (arith, short)) in
    let bits : ℕ = top.0 in
    let next : 2 ^ suc bits ≡ 2 ^ bits * 2 = pow-suc 2 bits in
    let few : bits < 41 = elim (cases_lt bits 41) [
      | inl few ↦ few
      | inr many ↦
          let power : 2 ^ 41 ≤ 2 ^ bits = pow-le-pow_right (omega arith) many in
          absurd (omega (arith, short, top.2, power))
    ] in
    let is : 40 - (zeros - 23) ≡ bits = omega (arith, top.1, few) in
    rw is (omega (arith, top.1, few), omega (arith, top.1, few), top.2, omega (arith, top.3, next))

-- the sum's digits are those of the size
module _ (size bits table : ℕ) (short : size < 10 ^ 12) (from : 2 ^ bits ≤ 2 * size + 1)
    (below : 2 * size + 1 < 2 * 2 ^ bits) (row : IsRow bits (table / DIGIT) (table % DIGIT)) where
  abbrev count : ℕ
  count = (size + table) / DIGIT

  same_count : count ≡ table / DIGIT → size < 10 ^ (table / DIGIT) → HasDigits size count
  same_count is less = rw is (record {
    many = row.many;
    below = less;
    reached = elim row.least [
      | inl four ↦ inl four
      | inr least ↦ inr (omega (arith, least, from, power_before (table / DIGIT) row.many))
    ];
  })

  next_count : count ≡ suc (table / DIGIT) → 10 ^ (table / DIGIT) ≤ size → size < 10 ^ suc (table / DIGIT)
      → HasDigits size count
  next_count is reached less = rw is (record {
    many = omega (arith, row.many);
    below = less;
    reached = inr (omega (arith, reached, pow-suc 10 (table / DIGIT)));
  })

  pub digits_counted : HasDigits size count
  digits_counted = elim row.most [
    | inl whole ↦ same_count (omega (arith, whole.0, short)) (omega (arith, whole.1, below))
    | inr part ↦ elim (cases_lt size (10 ^ (table / DIGIT))) [
      | inl less ↦ same_count (omega (arith, part.0, less, short)) less
      | inr reached ↦
          next_count (omega (arith, part.0, reached, short)) reached (omega (arith, part.1, below))
    ]
  ]
