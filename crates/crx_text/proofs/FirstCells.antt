-- The first cell of a line: counted by lanes, and with a blank and more characters after the line.
use Rattle.std.proofs.Common.{◌≡◌, ℕ, zero, suc, nat_lt, ◌+◌, ◌-◌, ◌%◌, ◌^◌, ◌<◌, ◌≤◌, Bool, true, false}
use Rattle.std.proofs.Common.{min}
use Rattle.std.proofs.Common.{cond, eqb, not, bit_or, List, [], ◌∷◌, ◌++◌, map, length, replicate, drop, take}
use Rattle.std.proofs.{Common.{slice_index, w8, arith, refl, ap, subst, sym, ◌∙◌}, lemmas.Grind.common_steps}
use Rattle.std.proofs.lemmas.List.{drop_all, length-append, length-drop, length-map, length-take-le, take_all}
use Rattle.std.proofs.lemmas.Simd.{bitmask_splat, mask_l-lt, trailing_mask_l}
use Rattle.std.specs.{Int.Bits.or_shifted_r, List.prefix_len}
use lib.{Count.count_trailing_zeros, Lanes.{mask_l, top, zip2}}
use Rattle.crx_text.specs.meaning.Codes.{after_cell, first_cell}

-- a blank after a text ends its last cell
padded_cell : (text rest : List ℕ) → first_cell (text ++ 32 ∷ rest) ≡ first_cell text
padded_cell [] rest = refl
padded_cell (c ∷ cs) rest = grind (arith, common_steps, padded_cell cs rest)

-- the cell at a place is the line's own
cell_at : (bytes : List ℕ) (len at : ℕ) → at ≤ len → len < length bytes → slice_index bytes len ≡ 32
    → first_cell (drop at bytes) ≡ first_cell (drop at (take len bytes))
cell_at [] len at before within blank = absurd (omega (arith, within))
cell_at (b ∷ bs) zero zero before within blank = grind (arith, common_steps)
cell_at (b ∷ bs) zero (suc at) before within blank = absurd (omega (arith, before))
cell_at (b ∷ bs) (suc len) zero before within blank = grind (arith, common_steps, cell_at bs len 0)
cell_at (b ∷ bs) (suc len) (suc at) before within blank =
    cell_at bs len at (omega (arith, before)) (omega (arith, within)) blank

-- ---- the next cell is after its blank, or at the line's end

after_blank : (text : List ℕ) → drop (suc (length (first_cell text))) text ≡ after_cell text
after_blank [] = refl
after_blank (c ∷ cs) = grind (arith, common_steps, after_blank cs)

cell_within : (text : List ℕ) → length (first_cell text) ≤ length text
cell_within [] = omega arith
cell_within (c ∷ cs) = grind (arith, common_steps, cell_within cs)

module _ (line : List ℕ) (at n : ℕ) (counted : n ≡ length (first_cell (drop at line))) where
  long : length (drop at line) ≡ length line - at
  long = length-drop at line

  pub next_within : (more : Bool) → at ≤ length line
      → nat_lt (at + n) (length line) ≡ more → n + cond more 1 0 ≤ length (drop at line)
  next_within true before is = grind (arith, long)
  next_within false before is = omega (arith, counted, cell_within (drop at line))

  pub next_cell : (more : Bool) → nat_lt (at + n) (length line) ≡ more
      → drop (n + cond more 1 0) (drop at line) ≡ after_cell (drop at line)
  next_cell true is =
      let one : n + 1 ≡ suc (length (first_cell (drop at line))) = omega (arith, counted) in
      ap (λ k. drop k (drop at line)) one ∙ after_blank (drop at line)
  next_cell false is =
      grind (
        arith,
        common_steps,
        long,
        after_blank (drop at line),
        drop_all (suc (length (first_cell (drop at line)))) (drop at line),
        drop_all (n + 0) (drop at line),
      )

-- ---- among the first lanes

-- they hold the whole cell, or are all in it
cell_in_front : (n : ℕ) (text : List ℕ)
    → length (first_cell (take n text)) ≡ min (length (first_cell text)) n
cell_in_front (suc n) (c ∷ cs) = grind (arith, common_steps, cell_in_front n cs)
cell_in_front n text = grind (arith, common_steps)

before_blank : (text : List ℕ) → prefix_len (λ c. not (eqb c 32)) text ≡ length (first_cell text)
before_blank [] = refl
before_blank (c ∷ cs) = grind (arith, common_steps, before_blank cs)

-- a bit above the others is a blank after the lanes
blank_behind : (xs : List ℕ) → mask_l (map (λ c. eqb c 32) (xs ++ 32 ∷ []))
    ≡ 2 ^ length xs + mask_l (map (λ c. eqb c 32) xs)
blank_behind [] = refl
blank_behind (x ∷ xs) = grind (arith, common_steps, blank_behind xs)

abbrev pub blank_at : List ℕ → ℕ
blank_at xs = count_trailing_zeros 64 (bit_or (mask_l (map (top 7)
    (zip2 (λ a b. cond (eqb a b) 255 0) xs (replicate 16 32))) % 2 ^ 64) (2 ^ 16))

counted : (xs : List ℕ) → length xs ≡ 16 → blank_at xs ≡ length (first_cell xs)
counted xs long =
    let is : ℕ → Bool = λ c. eqb c 32 in
    let low : mask_l (map is xs) < 2 ^ 16 = subst (λ n. mask_l (map is xs) < 2 ^ n) long
    (subst (λ n. mask_l (map is xs) < 2 ^ n) (length-map xs is) (mask_l-lt (map is xs))) in
    let both : bit_or (mask_l (map is xs)) (2 ^ 16) ≡ mask_l (map is (xs ++ 32 ∷ [])) =
    or_shifted_r 1 16 _ low ∙ sym (blank_behind xs ∙ ap (λ n. 2 ^ n + mask_l (map is xs)) long) in
    let some : 0 < mask_l (map is (xs ++ 32 ∷ [])) = omega (arith, blank_behind xs, ap (λ n. 2 ^ n) long) in
    ap (λ m. count_trailing_zeros 64 (bit_or m (2 ^ 16))) (bitmask_splat w8 eqb xs 16 32 long (omega arith))
    ∙ ap (count_trailing_zeros 64) both
    ∙ trailing_mask_l is 64 (xs ++ 32 ∷ []) (omega (arith, length-append xs (32 ∷ []), long)) some
    ∙ before_blank (xs ++ 32 ∷ []) ∙ ap length (padded_cell xs [])

module _ (bytes line : List ℕ) (at : ℕ) (is : take (length line) bytes ≡ line)
    (blank : slice_index bytes (length line) ≡ 32) (room : length line + 64 ≤ length bytes)
    (within : at ≤ length line) where
  -- a slice up to the end is the part from its place on
  abbrev slice : List ℕ
  slice = take (length bytes - at) (drop at bytes)

  whole : slice ≡ drop at bytes
  whole = take_all (length bytes - at) (drop at bytes) (omega (arith, length-drop at bytes))

  pub behind : 16 ≤ length slice
  behind = omega (arith, ap length whole, length-drop at bytes, room, within)

  lanes : length (take 16 slice) ≡ 16
  lanes = length-take-le 16 slice behind

  pub same_cell : first_cell slice ≡ first_cell (drop at line)
  same_cell = grind (arith, common_steps, first_cell, whole, cell_at)

  pub first_blank : blank_at (take 16 slice) ≡ min (length (first_cell (drop at line))) 16
  first_blank =
      counted (take 16 slice) lanes ∙ cell_in_front 16 slice ∙ ap (λ t. min (length t) 16) same_cell
