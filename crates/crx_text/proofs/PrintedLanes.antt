-- The lanes of a printed observation: three digits of each group, and the bytes that make text of them.
use Rattle.std.proofs.Common.{◌≡◌, ℕ, zero, suc, ◌+◌, ◌-◌, ◌*◌, ◌/◌, ◌%◌, ◌^◌, ◌<◌, ◌≤◌, Bool, true, false}
use Rattle.std.proofs.Common.{bit_and, List, [], ◌∷◌, ◌++◌, map, length}
use Rattle.std.proofs.Common.{if◌then◌else◌, replicate, take, drop, subst, refl, sym, arith}
use Rattle.std.proofs.lemmas.{Grind.common_steps}
use Rattle.std.proofs.lemmas.{Simd.{pick_l_whole}}
use Rattle.std.specs.List.{range_with_len}
use lib.{Lanes.{Each1, chunk, pick_l, zip2, digits_l, number_l}}
use Rattle.crx_text.specs.{FieldTexts.group_digits, declared.field_text.TheConstants.BASES}

-- ---- a group's digits

-- the three digits in the bytes of one lane
abbrev small_word : ℕ → ℕ
small_word g = (g + (g * 205 % 2 ^ 32 / 2 ^ 11 + g * 41 % 2 ^ 32 / 2 ^ 12 * 2 ^ 8 % 2 ^ 32) % 2 ^ 32
    * 246 % 2 ^ 32) % 2 ^ 32

abbrev pub group_word : ℕ → ℕ
group_word g = small_word (bit_and g 1023)

abbrev quadruple : ℕ → ℕ
quadruple zero = zero
quadruple (suc n) = suc (suc (suc (suc (quadruple n))))

digits_of_groups : (gs : List ℕ) → Each1 (λ g. g < 1000) gs
    → digits_l 256 (quadruple (length gs)) (number_l (2 ^ 32) (map group_word gs)) ≡ group_digits gs
digits_of_groups [] small = refl
digits_of_groups (g ∷ gs) small = grind (arith, common_steps, digits_of_groups gs small.1)

-- the words that the code makes from the groups
abbrev pub words_of : List ℕ → List ℕ
words_of groups =
    let times = zip2 (λ a b. a * b % 2 ^ 32) in
    let plus = zip2 (λ a b. (a + b) % 2 ^ 32) in
    let down = zip2 (λ a b. a / 2 ^ b) in
    let up = zip2 (λ a b. a * 2 ^ b % 2 ^ 32) in
    let small = zip2 bit_and groups (replicate 4 1023) in
    let tenths = down (times small (replicate 4 205)) (replicate 4 11) in
    let hundredths = down (times small (replicate 4 41)) (replicate 4 12) in
    plus small (times (plus tenths (up hundredths (replicate 4 8))) (replicate 4 246))

pub digits_of_words : (groups : List ℕ) → length groups ≡ 4 → Each1 (λ g. g < 1000) groups
    → digits_l 256 16 (number_l (2 ^ 32) (words_of groups)) ≡ group_digits groups
digits_of_words groups long small =
    let whole = pick_l_whole 0 groups 4 long in
    subst (λ w. digits_l 256 16 (number_l (2 ^ 32) (words_of w)) ≡ group_digits w) whole
    (digits_of_groups (pick_l 0 groups (range_with_len 0 4))
    (subst (Each1 (λ g. g < 1000)) (sym whole) small))

-- ---- the bases of the columns

-- blanks, a sign or one more blank, and then the bases of digits
pub base_row : (is_below : Bool) (start : ℕ) → 1 ≤ start → start ≤ 9 → chunk {A = ℕ} 0 16
    (take (64 - ((if is_below then 48 else 16) - start)) (drop ((if is_below then 48 else 16) - start) BASES))
    ≡ replicate (start - 1) 32 ++ (if is_below then 45 else 32) ∷ replicate (16 - start) 48
base_row false (suc zero) some few = refl
base_row false (suc (suc zero)) some few = refl
base_row false (suc (suc (suc zero))) some few = refl
base_row false (suc (suc (suc (suc zero)))) some few = refl
base_row false (suc (suc (suc (suc (suc zero))))) some few = refl
base_row false (suc (suc (suc (suc (suc (suc zero)))))) some few = refl
base_row false (suc (suc (suc (suc (suc (suc (suc zero))))))) some few = refl
base_row false (suc (suc (suc (suc (suc (suc (suc (suc zero)))))))) some few = refl
base_row false (suc (suc (suc (suc (suc (suc (suc (suc (suc zero))))))))) some few = refl
base_row true (suc zero) some few = refl
base_row true (suc (suc zero)) some few = refl
base_row true (suc (suc (suc zero))) some few = refl
base_row true (suc (suc (suc (suc zero)))) some few = refl
base_row true (suc (suc (suc (suc (suc zero))))) some few = refl
base_row true (suc (suc (suc (suc (suc (suc zero)))))) some few = refl
base_row true (suc (suc (suc (suc (suc (suc (suc zero))))))) some few = refl
base_row true (suc (suc (suc (suc (suc (suc (suc (suc zero)))))))) some few = refl
base_row true (suc (suc (suc (suc (suc (suc (suc (suc (suc zero))))))))) some few = refl
base_row is_below zero some few = absurd (omega (arith, some))
base_row is_below (suc (suc (suc (suc (suc (suc (suc (suc (suc (suc start)))))))))) some few =
    absurd (omega (arith, few))
