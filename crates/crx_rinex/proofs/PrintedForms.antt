-- The form of fields, by lanes.
use Rattle.std.proofs.Common.{◌≡◌, ℕ, ◌^◌, suc, Bool, true, false, not, cond, ◌&&◌, ◌||◌, eqb, ◌%◌}
use Rattle.std.proofs.Common.{bit_and, bit_or, List, [], ◌∷◌, ◌++◌, map}
use Rattle.std.proofs.Common.{length, replicate, drop, get_or, subst, refl}
use Rattle.std.proofs.{Common.{sym, ap, ◌∙◌, arith}, lemmas.Grind.common_steps}
use Rattle.std.specs.List.{list_any, range_with_len}
use lib.Lanes.{pick_l, mask_l, top, zip2}
use Rattle.crx_text.proofs.LaneBits.{sixteen, no_bit}
use Rattle.std.proofs.Common.{Option, Some, ℤ}
use Rattle.std.proofs.lemmas.{Bool.{OnTrue_from, and_from, not-true, not-false}, Simd.mask_l-mod}
use Rattle.std.specs.Bool.{OnTrue}
use Rattle.crx_text.{proofs.Sizes.number_of_width, specs.meaning.Numbers.{observation_of, observation_text}}
use Rattle.crx_rinex.proofs.PrintedNumbers.{is_formed, field_printed}

-- the odd columns, as the code finds them
abbrev pub odd : List ℕ → List ℕ
odd v =
    let before = pick_l 0 (v ++ replicate 16 0)
    (16 ∷ 16 ∷ 2 ∷ 2 ∷ 3 ∷ 4 ∷ 5 ∷ 6 ∷ 7 ∷ 8 ∷ 9 ∷ 10 ∷ 11 ∷ 16 ∷ 16 ∷ 16 ∷ []) in
    let behind = zip2 bit_or (zip2 (λ a b. cond (eqb a b) 255 0) before
    (45 ∷ 45 ∷ 48 ∷ 32 ∷ 32 ∷ 32 ∷ 32 ∷ 32 ∷ 32 ∷ 32 ∷ 32 ∷ 45 ∷ 32 ∷ 45 ∷ 45 ∷ 45 ∷ []))
    (zip2 (λ a b. cond (eqb a b) 255 0) before (replicate 16 45)) in
    zip2 bit_and behind (zip2 (λ a b. cond (eqb a b) 255 0) v
    (48 ∷ 48 ∷ 48 ∷ 48 ∷ 48 ∷ 48 ∷ 48 ∷ 48 ∷ 48 ∷ 48 ∷ 48 ∷ 48 ∷ 46 ∷ 48 ∷ 48 ∷ 48 ∷ []))

-- the lane of a column that isn't odd
even_lane : (a b c : Bool) → top 7 (bit_and (bit_or (cond a 255 0) (cond b 255 0)) (cond c 255 0)) ≡ false
    → not ((a || b) && c) ≡ true
even_lane = grind (arith, common_steps)

first_lane : (a b : Bool) → not ((a || b) && a) ≡ true → not a ≡ true
first_lane = grind (arith, common_steps)

minus_lane : (a b : Bool) → not ((a || a) && b) ≡ true → not (a && b) ≡ true
minus_lane = grind (arith, common_steps)

none_at : (lanes : List ℕ) (i : ℕ) → list_any (top 7) lanes ≡ false → top 7 (get_or lanes i 0) ≡ false
none_at (x ∷ xs) (suc i) none = grind (arith, common_steps, none_at xs i)
none_at lanes i none = grind (arith, common_steps)

-- the value that a field spells is printed as the field
abbrev pub Prints : List ℕ → Type 0
Prints field = (value : Option ℤ) → observation_of field ≡ Some value → observation_text value ≡ field

module _ (c : ℕ → ℕ) where
  abbrev row : List ℕ
  row = map c (range_with_len 0 16)

  abbrev lane : ℕ → ℕ → ℕ → ℕ → ℕ
  lane before after one what =
      bit_and (bit_or (cond (eqb before after) 255 0) (cond (eqb before 45) 255 0))
      (cond (eqb one what) 255 0)

  module _ (none : list_any (top 7) (odd row) ≡ false) where
    even : (i before after what : ℕ) → get_or (odd row) i 0 ≡ lane before after (c i) what
        → not ((eqb before after || eqb before 45) && eqb (c i) what) ≡ true
    even i before after what is = even_lane (eqb before after) (eqb before 45) (eqb (c i) what)
        (ap (top 7) (sym is) ∙ none_at (odd row) i none)

    formed : is_formed 10 32 (drop 2 row) ≡ true
    formed = grind (arith, common_steps, and_from, first_lane, even, minus_lane)

    prints : Prints (drop 2 row)
    prints value reads = field_printed (drop 2 row) value (omega arith, λ some. formed)
        (sym (number_of_width 14 3 (drop 2 row) refl) ∙ reads)

  form : OnTrue (not (not (eqb (mask_l (map (top 7) (odd row)) % 2 ^ 64) 0))) (Prints (drop 2 row))
  form = grind (arith, common_steps, OnTrue_from, prints, not-true, no_bit, mask_l-mod, not-false)

pub form_from_lanes : (v : List ℕ) → length v ≡ 16
    → OnTrue (not (not (eqb (mask_l (map (top 7) (odd v)) % 2 ^ 64) 0))) (Prints (drop 2 v))
form_from_lanes v long =
    subst (λ (w : List ℕ).
    OnTrue (not (not (eqb (mask_l (map (top 7) (odd w)) % 2 ^ 64) 0))) (Prints (drop 2 w)))
    (sym (sixteen v long)) (form (λ (i : ℕ). get_or v i 0))
