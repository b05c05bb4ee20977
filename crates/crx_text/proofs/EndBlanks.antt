-- The blanks at the end of a text, 16 characters at a time.
use Rattle.std.proofs.Common.{not, cond, eqb, ℕ, ◌≡◌, ◌+◌, ◌-◌, ◌*◌}
use Rattle.std.proofs.Common.{◌%◌, ◌^◌, ◌<◌, ◌≤◌, List, [], ◌∷◌, ◌++◌, length, drop, take, map, replicate, w8}
use Rattle.std.proofs.{Common.{arith, refl, ap, sym, ◌∙◌, ◌≢◌, get_or}, Math.{Nat.pow-suc, Seq.take-add}}
use Rattle.std.proofs.lemmas.{Grind.common_steps, List.{drop_all, length-take-le}}
use Rattle.std.proofs.lemmas.{List.{nil_from_length, take-append-drop}, Simd.bitmask_splat}
use Rattle.std.{proofs.lemmas.Simd.{chunk-drop, length-chunk}, specs.Int.Count.count_leading_zeros}
use Rattle.std.specs.Int.Count.{leading_unique}
use lib.Lanes.{chunk, mask_l, top, zip2}
use Rattle.crx_text.specs.meaning.Columns.{before_end_blanks, without_end_blanks}

before_some : (x : ℕ) (zs : List ℕ) → 0 < length zs → before_end_blanks x zs ≡ x ∷ zs
before_some = grind (arith, common_steps)

-- the part after another one decides which blanks are dropped
kept_append : (xs ys : List ℕ)
    → 0 < length (without_end_blanks ys) → without_end_blanks (xs ++ ys) ≡ xs ++ without_end_blanks ys
kept_append [] ys some = refl
kept_append (x ∷ xs) ys some = grind (arith, common_steps, before_some, kept_append xs ys some)

none_append : (xs ys : List ℕ) → without_end_blanks ys ≡ []
    → without_end_blanks (xs ++ ys) ≡ without_end_blanks xs
none_append [] ys none = none
none_append (x ∷ xs) ys none = ap (before_end_blanks x) (none_append xs ys none)

pub take_kept : (xs : List ℕ) → take (length (without_end_blanks xs)) xs ≡ without_end_blanks xs
take_kept [] = refl
take_kept (x ∷ xs) = grind (arith, common_steps, take_kept xs)

pub few_kept : (xs : List ℕ) → length (without_end_blanks xs) ≤ length xs
few_kept [] = omega arith
few_kept (x ∷ xs) = grind (arith, common_steps, few_kept xs)

-- ---- from the end on

pub nothing_after : (text : List ℕ) → without_end_blanks (drop (length text) text) ≡ []
nothing_after text = ap without_end_blanks (drop_all (length text) text (omega arith))

-- a blank before blanks is passed
pub blank_passed : (text : List ℕ) (last end : ℕ) → last + 1 ≡ end → end ≤ length text
    → get_or text last 0 ≡ 32
    → without_end_blanks (drop end text) ≡ [] → without_end_blanks (drop last text) ≡ []
blank_passed text last end sum within blank none = grind (arith, common_steps)

-- ---- the mask of some characters

abbrev others : List ℕ → ℕ
others xs = mask_l (map (λ c. not (eqb c 32)) xs)

-- the highest bit is that of the last character that isn't a blank
highest_bit : (xs : List ℕ) → (others xs < 2 ^ length (without_end_blanks xs))
    × (2 ^ length (without_end_blanks xs) ≤ 2 * others xs + 1)
highest_bit [] = (omega arith, omega arith)
highest_bit (x ∷ xs) = grind (arith, common_steps, pow-suc, highest_bit xs)

-- as many bits up to the highest as characters up to the last one that isn't a blank
bits_kept : (k : ℕ) (xs : List ℕ)
    → length xs ≤ k → k - count_leading_zeros k (others xs) ≡ length (without_end_blanks xs)
bits_kept k xs few =
    let kept : ℕ = length _ in
    let within : kept ≤ k = omega (arith, few_kept xs, few) in
    let bit = highest_bit xs in
    let leading = leading_unique k _ (k - kept) kept (omega (arith, within)) bit.0 bit.1 in
    omega (arith, leading, within)

-- how many of `size` characters are before the blanks at their end, as lanes find it
abbrev pub found : ℕ → List ℕ → ℕ
found size v = 64 - count_leading_zeros 64 (mask_l (map
    (top 7) (zip2 (λ a b. cond (not (eqb a b)) 255 0) v (replicate size 32))) % 2 ^ 64)

lanes_kept : (size : ℕ) (v : List ℕ) → size ≤ 64 → length v ≡ size → found size v ≡ length (without_end_blanks
    v)
lanes_kept size v few long =
    ap (λ m. 64 - count_leading_zeros 64 m) (bitmask_splat w8
    (λ a b. not _) v size 32 long (omega (arith, few))) ∙ bits_kept 64 v (omega (arith, long))

-- ---- a piece before blanks

module _ (text : List ℕ) (end : ℕ) (within : end ≤ length text)
    (none : without_end_blanks (drop end text) ≡ []) where
  -- a piece that keeps something decides
  pub kept_in_piece : (size start count : ℕ) → start + size ≡ end → 0 < count
      → count ≡ length (without_end_blanks (chunk start size text))
      → take (start + count) text ≡ without_end_blanks text
  kept_in_piece size start count sum some kept =
      grind (
        arith,
        common_steps,
        none_append (take end text) (drop end text) none,
        take-append-drop end text,
        take-add start size text,
        kept_append (take start text),
        length-take-le,
        take_kept text,
      )

  -- a piece that keeps nothing is dropped with the blanks after it
  pub none_in_piece : (size start : ℕ) → start + size ≡ end
      → length (without_end_blanks (chunk start size text)) ≡ 0 → without_end_blanks (drop start text) ≡ []
  none_in_piece size start sum long =
      ap without_end_blanks (chunk-drop start size text) ∙ (none_append (chunk start size text) (drop _ text)
      (ap (λ k. without_end_blanks (drop k text)) sum ∙ none) ∙ nil_from_length _ long)

  -- the lanes' result for such a piece
  module _ (size start : ℕ) (few : size ≤ 64) (sum : start + size ≡ end) where
    lanes : found size (chunk start size text) ≡ length (without_end_blanks (chunk start size text))
    lanes = lanes_kept size _ few (length-chunk start size text (omega (arith, sum, within)))

    pub found_within : start + found size (chunk start size text)
        ≡ length (take (start + found size (chunk start size text)) text)
    found_within = grind (arith, common_steps, length-chunk, length-take-le, lanes, few_kept, chunk)

    pub found_some : 0 < found size (chunk start size text)
        → take (start + found size (chunk start size text)) text ≡ without_end_blanks text
    found_some some = kept_in_piece size start _ sum some lanes

    pub found_none : found size (chunk start size text) ≡ 0 → without_end_blanks (drop start text) ≡ []
    found_none zero = none_in_piece size start sum (sym lanes ∙ zero)

-- another character before blanks ends the text
pub ended_at : (text : List ℕ) (last end : ℕ) → last + 1 ≡ end → end ≤ length text → get_or text last 0 ≢ 32
    → without_end_blanks (drop end text) ≡ [] → take end text ≡ without_end_blanks text
ended_at text last end sum within other none =
    grind (arith, common_steps, kept_in_piece text end within none 1 last 1 sum)
