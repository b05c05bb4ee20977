-- The test of a field's columns by lanes: the bit of each lane, and all of them together.
use Rattle.std.proofs.lemmas.Grind.{common_steps}
use Rattle.std.proofs.Common.{◌≡◌, ℕ, suc, ◌+◌, ◌-◌, ◌%◌, ◌<◌, Bool, true, cond, ◌&&◌, ◌||◌, ltb}
use Rattle.std.proofs.Common.{eqb, bit_and, bit_or, List, [], ◌∷◌, ◌++◌, map, length, replicate, get_or}
use Rattle.std.proofs.{Common.{subst, Fits, w8, refl, sym, ◌∙◌, eqb-true, arith}, lemmas.Bool.and_from}
use Rattle.std.specs.{Char.is_ascii_digit, List.{list_all, range_with_len}}
use lib.Lanes.{Each1, pick_l, fold_l, sel_l, top, zip2}
use Rattle.crx_text.proofs.{LaneBits.sixteen, LaneWords.none_in_fold}
use Rattle.crx_text.specs.{Fields.IsPlain, meaning.Texts.is_kept}

pub lane_fits : (v : List ℕ) (i : ℕ) → Each1 (Fits w8) v → get_or v i 0 < 256
lane_fits (x ∷ xs) (suc i) h = lane_fits xs i h.1
lane_fits v i h = grind (arith, common_steps)

-- how far a byte is above the `most` bytes after a first one
abbrev far : ℕ → ℕ → ℕ → ℕ
far start most c =
    let up : ℕ = (c + (256 - start)) % 256 in
    (cond (top 7 (cond (ltb up most) 255 0)) most up + (256 - most)) % 256

-- a byte at most `most` above a first one, or a blank or a minus after the required byte
abbrev pub lane : ℕ → ℕ → ℕ → ℕ → ℕ → Bool
lane start most before needed c = eqb (cond (top 7 (bit_and (cond (eqb before needed) 255 0)
    (bit_or (cond (eqb c 32) 255 0) (cond (eqb c 45) 255 0)))) 0 (far start most c)) 0

abbrev pub allowed : ℕ → ℕ → Bool
allowed before c = is_ascii_digit c || (eqb before 32 && (eqb c 32 || eqb c 45))

-- the lane of a column before the point
whole_lane : (before c : ℕ) → c < 256 → lane 48 9 before 32 c ≡ allowed before c
whole_lane before c small = grind arith

-- the lane of the first column, which holds no digit
first_lane : (c : ℕ) → c < 256 → lane 45 0 c 32 c ≡ (eqb c 32 || eqb c 45)
first_lane c small = grind arith

first_allowed : (c : ℕ) → (eqb c 32 || eqb c 45) ≡ true → allowed 32 c ≡ true
first_allowed c either = grind arith

point_lane : (c : ℕ) → c < 256 → lane 46 0 0 32 c ≡ eqb c 46
point_lane c small = grind arith

fraction_lane : (c : ℕ) → c < 256 → lane 48 9 0 32 c ≡ is_ascii_digit c
fraction_lane c small = grind arith

indicator_lane : (c : ℕ) → c < 256 → lane 48 9 0 0 c ≡ allowed 32 c
indicator_lane c small = grind arith

indicator_kept : (c : ℕ) → allowed 32 c ≡ true → is_kept c ≡ true
indicator_kept c is = grind (arith, common_steps)

all_at : (bits : List Bool) (i : ℕ) → list_all (λ b. b) bits ≡ true → get_or bits i true ≡ true
all_at (true ∷ bits) (suc i) all = all_at bits i all
all_at bits i all = grind (arith, common_steps)

-- the bits of the lanes of a field
abbrev pub lanes : (ℕ → ℕ) → List Bool
lanes c = lane 45 0 (c 0) 32 (c 0) ∷ lane 48 9 (c 0) 32 (c 1) ∷ lane 48 9 (c 1) 32 (c 2)
    ∷ lane 48 9 (c 2) 32 (c 3) ∷ lane 48 9 (c 3) 32 (c 4) ∷ lane 48 9 (c 4) 32 (c 5)
    ∷ lane 48 9 (c 5) 32 (c 6) ∷ lane 48 9 (c 6) 32 (c 7) ∷ lane 48 9 (c 7) 32 (c 8)
    ∷ lane 48 9 (c 8) 32 (c 9) ∷ lane 46 0 0 32 (c 10) ∷ lane 48 9 0 32 (c 11)
    ∷ lane 48 9 0 32 (c 12) ∷ lane 48 9 0 32 (c 13) ∷ lane 48 9 0 0 (c 14) ∷ lane 48 9 0 0 (c 15) ∷ []

module _ (c : ℕ → ℕ) (small : (i : ℕ) → c i < 256) (all : list_all (λ b. b) (lanes c) ≡ true) where
  first : (eqb (c 0) 32 || eqb (c 0) 45) ≡ true
  first = sym (first_lane (c 0) (small 0)) ∙ all_at (lanes c) 0 all

  whole_at : (i : ℕ) → get_or (lanes c) (suc i) true ≡ lane 48 9 (c i) 32 (c (suc i))
      → allowed (c i) (c (suc i)) ≡ true
  whole_at i is = sym (whole_lane (c i) (c (suc i)) (small (suc i))) ∙ sym is ∙ all_at (lanes c) (suc i) all

  fraction_at : (i : ℕ) → get_or (lanes c) i true ≡ lane 48 9 0 32 (c i) → is_ascii_digit (c i) ≡ true
  fraction_at i is = sym (fraction_lane (c i) (small i)) ∙ sym is ∙ all_at (lanes c) i all

  kept_at : (i : ℕ) → get_or (lanes c) i true ≡ lane 48 9 0 0 (c i) → is_kept (c i) ≡ true
  kept_at i is = indicator_kept (c i)
      (sym (indicator_lane (c i) (small i)) ∙ sym is ∙ all_at (lanes c) i all)

  plain_lanes : IsPlain (map c (range_with_len 0 16))
  plain_lanes = record {
    first = first;
    whole = and_from _ _ (first_allowed (c 0) first) (and_from _ _ (whole_at 0 refl)
        (and_from _ _ (whole_at 1 refl) (and_from _ _ (whole_at 2 refl) (and_from _ _ (whole_at 3 refl)
        (and_from _ _ (whole_at 4 refl) (and_from _ _ (whole_at 5 refl) (and_from _ _ (whole_at 6 refl)
        (and_from _ _ (whole_at 7 refl) (and_from _ _ (whole_at 8 refl) refl)))))))));
    point = eqb-true _ _ (sym (point_lane (c 10) (small 10)) ∙ all_at (lanes c) 10 all);
    fraction = grind (arith, common_steps, and_from, fraction_at);
    kept = and_from _ _ (kept_at 14 refl) (and_from _ _ (kept_at 15 refl) refl);
  }

-- the lanes of a row that aren't allowed, as the code makes them
abbrev pub refused : List ℕ → List ℕ
refused v =
    let blanks = zip2 (λ a b. cond (eqb a b) 255 0) (pick_l 0 (v ++ replicate 16 0)
    (0 ∷ 0 ∷ 1 ∷ 2 ∷ 3 ∷ 4 ∷ 5 ∷ 6 ∷ 7 ∷ 8 ∷ 16 ∷ 16 ∷ 16 ∷ 16 ∷ 16 ∷ 16 ∷ []))
    (32 ∷ 32 ∷ 32 ∷ 32 ∷ 32 ∷ 32 ∷ 32 ∷ 32 ∷ 32 ∷ 32 ∷ 32 ∷ 32 ∷ 32 ∷ 32 ∷ 0 ∷ 0 ∷ []) in
    let firsts = zip2 (λ a b. (a + (256 - b)) % 256) v
    (45 ∷ 48 ∷ 48 ∷ 48 ∷ 48 ∷ 48 ∷ 48 ∷ 48 ∷ 48 ∷ 48 ∷ 46 ∷ 48 ∷ 48 ∷ 48 ∷ 48 ∷ 48 ∷ []) in
    let most = 0 ∷ 9 ∷ 9 ∷ 9 ∷ 9 ∷ 9 ∷ 9 ∷ 9 ∷ 9 ∷ 9 ∷ 0 ∷ 9 ∷ 9 ∷ 9 ∷ 9 ∷ 9 ∷ [] in
    let above = zip2 (λ a b. (a + (256 - b)) % 256)
    (sel_l (map (top 7) (zip2 (λ a b. cond (ltb a b) 255 0) firsts most)) most firsts) most in
    let prefix = zip2 bit_or (zip2 (λ a b. cond (eqb a b) 255 0) v (replicate 16 32))
    (zip2 (λ a b. cond (eqb a b) 255 0) v (replicate 16 45)) in
    sel_l (map (top 7) (zip2 bit_and blanks prefix)) (replicate 16 0) above

explicit : (c : ℕ → ℕ) → ((i : ℕ) → c i < 256)
    → eqb (fold_l bit_or 0 (refused (map c (range_with_len 0 16)))) 0 ≡ true
    → IsPlain (map c (range_with_len 0 16))
explicit c small none = plain_lanes c small
    (sym (none_in_fold (refused (map c (range_with_len 0 16))) 0) ∙ none)

pub plain_from_fold : (v : List ℕ)
    → length v ≡ 16 → Each1 (Fits w8) v → eqb (fold_l bit_or 0 (refused v)) 0 ≡ true → IsPlain v
plain_from_fold v long fits =
    subst (λ (w : List ℕ). eqb (fold_l bit_or 0 (refused w)) 0 ≡ true → IsPlain w)
    (sym (sixteen v long)) (explicit (λ (i : ℕ). get_or v i 0) (λ (i : ℕ). lane_fits v i fits))
