-- From operations on vectors of characters to each character.
use Rattle.std.proofs.Common.{rules, true, ℕ, suc, ◌≡◌, ◌+◌, ◌-◌, ◌%◌, ◌^◌, ◌&&◌, cond, eqb, ltb}
use Rattle.std.proofs.Common.{bit_or, Bool, List, [], ◌∷◌, length, map, replicate, Fits, w8, arith, refl, ap}
use Rattle.std.proofs.{Common.{sym, ◌∙◌}, lemmas.Bool.{agree_below, agree_below_at, ne_eqb}}
use Rattle.std.proofs.lemmas.{Grind.common_steps, Nat.le_or_l, Simd.{map-map, splat_is_map, tops_compared}}
use Rattle.std.{proofs.lemmas.Simd.{zip2_of_maps, zip2_splat}, specs.List.list_all}
use mir.Val.{bits, hbits}
use lib.Lanes.{fold_l, zip2, sel_l, top, Each1}
use Rattle.crx_text.specs.{Texts.character_of, meaning.Texts.{mark_of, is_kept}}
use Rattle.crx_base.specs.meaning.Lines.{is_printable}

-- ---- marks and the characters that they leave

lanes-mark_of : (n : ℕ) (olds news : List ℕ) → length olds ≡ n → length news ≡ n → sel_l (zip2 eqb olds news)
    (replicate n 32) (sel_l (zip2 eqb news (replicate n 32)) (replicate n 38) news) ≡ zip2 mark_of olds news
lanes-mark_of (suc n) (a ∷ as') (b ∷ bs) first second = grind (arith, common_steps, lanes-mark_of n as' bs)
lanes-mark_of n olds bs first second = grind (arith, common_steps)

lanes-character_of : (n : ℕ) (olds marks : List ℕ) → length olds ≡ n → length marks ≡ n → sel_l
    (zip2 eqb marks (replicate n 32)) olds (sel_l (zip2 eqb marks (replicate n 38)) (replicate n 32) marks)
    ≡ zip2 character_of olds marks
lanes-character_of (suc n) (a ∷ as') (b ∷ bs) first second =
    grind (arith, common_steps, lanes-character_of n as' bs)
lanes-character_of n olds bs first second = grind (arith, common_steps)

-- which lanes of two vectors are equal
abbrev equals : List ℕ → List ℕ → List Bool
equals xs ys = map (top (hbits w8)) (zip2 (λ a b. cond (eqb a b) (2 ^ bits w8 - 1) 0) xs ys)

pub mark_lanes : (olds news : List ℕ) → length olds ≡ 16 → length news ≡ 16 → sel_l (equals olds news)
    (replicate 16 32) (sel_l (equals news (replicate 16 32)) (replicate 16 38) news) ≡ zip2 mark_of olds news
mark_lanes olds news first second =
    ap (λ ms. sel_l ms (replicate 16 32) (sel_l (equals news (replicate 16 32)) (replicate 16 38) news))
    (tops_compared w8 eqb olds news) ∙ ap
    (λ ms. sel_l (zip2 eqb olds news) (replicate 16 32) (sel_l ms (replicate 16 38) news))
    (tops_compared w8 eqb news _) ∙ lanes-mark_of 16 olds news first second

pub character_lanes : (olds marks : List ℕ) → length olds ≡ 16 → length marks ≡ 16 → sel_l
    (equals marks (replicate 16 32)) olds (sel_l (equals marks (replicate 16 38)) (replicate 16 32) marks)
    ≡ zip2 character_of olds marks
character_lanes olds marks first second =
    ap (λ ms. sel_l ms olds (sel_l (equals marks (replicate 16 38)) (replicate 16 32) marks))
    (tops_compared w8 eqb marks _) ∙ ap
    (λ ms. sel_l (zip2 eqb marks (replicate 16 32)) olds (sel_l ms (replicate 16 32) marks))
    (tops_compared w8 eqb marks (replicate 16 38)) ∙ lanes-character_of 16 olds marks first second

-- ---- tests

or_none : (a b : ℕ) → eqb (bit_or a b) 0 ≡ (eqb a 0 && eqb b 0)
or_none = grind (arith, common_steps, le_or_l, ne_eqb)

abbrev unset : ℕ → Bool
unset lane = eqb lane 0

pub none_in_fold : (v : List ℕ) (a : ℕ) → eqb (fold_l bit_or a v) 0 ≡ (eqb a 0 && list_all unset v)
none_in_fold [] a = grind (arith, common_steps, eqb)
none_in_fold (x ∷ xs) a = grind (arith, common_steps, or_none, none_in_fold xs (bit_or a x))

crossed : (a b c d : Bool) → ((a && b) && (c && d)) ≡ ((a && c) && (b && d))
crossed = grind (arith, common_steps)

-- no lane is set if and only if none was set and each character passes
none_more : (q : ℕ → Bool) (f : ℕ → ℕ)
    → agree_below (λ x. unset (f x)) q 256 ≡ true → (others v : List ℕ) → length others ≡ length v
    → Each1 (Fits w8) v
    → list_all unset (zip2 bit_or others (map f v)) ≡ (list_all unset others && list_all q v)
none_more q f agree (o ∷ os) (x ∷ xs) same fits =
    let here = agree_below_at (λ y. unset (f y)) q 256 x agree fits.0.fits in
    let both = or_none o (f x) ∙ ap (λ b. unset o && b) here in
    (λ i. both i && none_more q f agree os xs (omega (arith, same)) fits.1 i) ∙ crossed _ (q x) _ _
none_more q f agree _ _ same fits = grind (arith, common_steps)

chosen : (p : ℕ → Bool) (f g : ℕ → ℕ) (v : List ℕ)
    → sel_l (map p v) (map f v) (map g v) ≡ map (λ x. cond (p x) (f x) (g x)) v
chosen p f g [] = refl
chosen p f g (x ∷ xs) = ap (λ t. cond (p x) (f x) (g x) ∷ t) (chosen p f g xs)

-- how far a character is above 126, counted from 32 on
abbrev from_blank : ℕ → ℕ
from_blank x = (x + (256 - 32)) % 256

abbrev too_far : ℕ → ℕ
too_far x = (cond (top 7 (cond (ltb (from_blank x) 94) 255 0)) 94 (from_blank x) + (256 - 94)) % 256

-- the same for a vector
abbrev unprintable : List ℕ → List ℕ
unprintable v =
    let r = zip2 (λ a b. (a + (256 - b)) % 256) v (replicate 16 32) in
    zip2 (λ a b. (a + (256 - b)) % 256) (sel_l
    (map (top 7) (zip2 (λ a b. cond (ltb a b) 255 0) r (replicate 16 94))) (replicate 16 94) r)
    (replicate 16 94)

module _ (v : List ℕ) (long : length v ≡ 16) (others : List ℕ) (same : length others ≡ 16) where
  -- which lanes are below a splat
  lanes_below : (f : ℕ → ℕ) (r : List ℕ) (k : ℕ) → r ≡ map f v → map (top 7)
      (zip2 (λ a b. cond (ltb a b) 255 0) r (replicate 16 k)) ≡ map (λ x. top 7 (cond (ltb (f x) k) 255 0)) v
  lanes_below f r k is = ap (map (top 7)) (zip2_of_maps (λ a b. cond (ltb a b) 255 0) f
      (λ _. k) v is (splat_is_map v 16 k long)) ∙ map-map (top 7) (λ x. cond _ 255 0) v

  unprintable_each : unprintable v ≡ map too_far v
  unprintable_each =
      let r_is = zip2_splat (λ a b. (a + (256 - b)) % 256) v 16 32 long in
      let limit = splat_is_map v 16 94 long in
      let selected = (λ i. sel_l (lanes_below _ (zip2 (λ a b. (a + (256 - b)) % 256) v (replicate 16 32)) 94
      r_is i) (limit i) (r_is i)) ∙ chosen (λ x. top 7 (cond _ 255 0)) (λ _. 94) from_blank v in
      zip2_of_maps (λ a b. (a + (256 - b)) % 256)
      (λ x. cond (top 7 _) 94 (from_blank x)) (λ _. 94) v selected limit

  pub printable_lanes : Each1 (Fits w8) v → list_all unset (zip2 bit_or others (unprintable v)) ≡
      (list_all unset others && list_all is_printable v)
  printable_lanes fits = search (rules, list_all, unset, zip2, bit_or, unprintable_each, none_more, too_far)

  ampersands_each : sel_l {A = ℕ} (equals v (replicate 16 38)) (replicate 16 255) (replicate 16 0)
      ≡ map (λ x. cond (eqb x 38) 255 0) v
  ampersands_each =
      let are = tops_compared w8 eqb v _ ∙ zip2_splat eqb v 16 38 long in
      (λ i. sel_l {A = ℕ} (are i) (splat_is_map v 16 255 long i) (splat_is_map v 16 0 long i)) ∙ chosen
      (λ x. eqb x 38) (λ _. 255) (λ _. 0) v

  pub kept_lanes : Each1 (Fits w8) v → list_all unset (zip2 bit_or others
      (zip2 bit_or (unprintable v) (sel_l {A = ℕ} (equals v (replicate 16 38)) (replicate 16 255)
      (replicate 16 0)))) ≡ (list_all unset others && list_all is_kept v)
  kept_lanes fits =
      ap (λ t. list_all unset (zip2 bit_or others t))
      (zip2_of_maps bit_or too_far (λ x. cond (eqb x 38) 255 0) v unprintable_each ampersands_each)
      ∙ none_more is_kept (λ x. bit_or (too_far x) (cond _ 255 0)) refl others v (same ∙ sym long) fits
