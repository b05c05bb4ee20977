-- The lanes before the first one that is LF, from a mask's lowest bit.
use Rattle.std.proofs.Common.{◌≡◌, ℕ, suc, ◌+◌, ◌*◌, ◌%◌, ◌^◌, ◌<◌, ◌≤◌, Bool, cond, eqb, not}
use Rattle.std.proofs.Common.{List, [], ◌∷◌, map, length, replicate, w8, arith, sym, ◌∙◌}
use Rattle.std.proofs.lemmas.{Grind.common_steps, Simd.{bitmask_splat, leading_from_mask_l, length-chunk}}
use Rattle.std.{proofs.lemmas.Simd.trailing_mask_l, specs.List.prefix_len}
use lib.{Count.count_trailing_zeros, Lanes.{chunk, mask_l, top, zip2}}

stops : (b : Bool) (n m l : ℕ) → 0 < cond b 1 0 + 2 * n → (0 < n → m < l) → cond (not b) (1 + m) 0 < suc l
stops = grind arith

first_within : {X : Type 0} (p : X → Bool) (xs : List X) → 0 < mask_l (map p xs)
    → prefix_len (λ x. not (p x)) xs < length xs
first_within p [] some = absurd (omega (arith, some))
first_within p (x ∷ xs) some = grind (arith, common_steps, stops, first_within p xs)

-- the mask of 32 bytes from an index on
abbrev pub feeds_at : ℕ → List ℕ → ℕ
feeds_at at bytes = mask_l
    (map (top 7) (zip2 (λ a b. cond (eqb a b) 255 0) (chunk at 32 bytes) (replicate 32 10))) % 2 ^ 64

module _ (bytes : List ℕ) (at : ℕ) (room : at + 32 ≤ length bytes) where
  long : length (chunk at 32 bytes) ≡ 32
  long = length-chunk at 32 bytes room

  hits : feeds_at at bytes ≡ mask_l (map (λ b. eqb b 10) (chunk at 32 bytes))
  hits = bitmask_splat w8 eqb _ 32 10 long (omega arith)

  pub none_of_all : feeds_at at bytes ≡ 0 → 32 ≡ prefix_len (λ b. not (eqb b 10)) (chunk at 32 bytes)
  none_of_all none = sym (leading_from_mask_l (λ b. eqb b 10) _ (sym hits ∙ none) ∙ long)

  pub before_first : 0 < feeds_at at bytes → (count_trailing_zeros 64 (feeds_at at bytes) < 32) ×
      (count_trailing_zeros 64 (feeds_at at bytes) ≡ prefix_len (λ b. not (eqb b 10)) (chunk at 32 bytes))
  before_first = grind (arith, common_steps, hits, trailing_mask_l, long, first_within)
