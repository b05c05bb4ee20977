-- Blanks at the end of texts, and held indicators.
use Rattle.crx_compact.proofs.Vocabulary.{◌≡◌, patched, columns, few_kept, list_all, ◌≤◌, ℕ, ◌*◌, ◌∷◌, ap, ◌∙◌}
use Rattle.crx_compact.proofs.Vocabulary.{◌<◌, ◌+◌, ◌-◌, at, refl, true, List, length, take, arith, is_kept, Bool}
use Rattle.crx_compact.proofs.Vocabulary.{get_or_past, drop, [], replicate, IsAllowedCount, length-columns}
use Rattle.crx_compact.proofs.Vocabulary.{flags_held}
use Rattle.crx_compact.proofs.Vocabulary.{common_steps, ◌++◌, list_all-from_at, at-drop}
use Rattle.crx_compact.proofs.Vocabulary.{at-without_end_blanks, columns-are, without_end_blanks, text_difference}
use Rattle.crx_compact.proofs.Characters.{all-take, list_all-at, at-take_past, at-by_position}
use Rattle.crx_compact.proofs.{Vocabulary.{cases_lt, rules, AreHeldFlags}, PlaceByPlace.{at-padded, at-take}}
use Rattle.crx_compact.proofs.Characters.{same_characters}
use Rattle.std.proofs.{lemmas.Bool.Decides.Decides-eqb, lemmas.List.length-take}

-- ---- blanks at the end

pub trimmed-again : (text : List ℕ) → without_end_blanks (without_end_blanks text) ≡ without_end_blanks text
trimmed-again text = search (rules, same_characters, at-without_end_blanks)

-- a difference doesn't depend on the blanks at the end of the new text
pub difference-trimmed : (old new : List ℕ)
    → text_difference old (without_end_blanks new) ≡ text_difference old new
difference-trimmed old new = search (rules, same_characters, at-by_position, at-without_end_blanks)

-- ---- the first characters of texts

-- texts with the same first characters are the same up to them
pub same-cut : (n : ℕ) (xs ys : List ℕ) → ((p : ℕ) → p < n → at xs p ≡ at ys p)
    → without_end_blanks (take n xs) ≡ without_end_blanks (take n ys)
same-cut n xs ys h = grind (arith, common_steps, same_characters, cases_lt, at-take, at-take_past)

-- a text with only blanks from a place on is its part before, except the blanks at its end
pub cut-all : (n : ℕ) (text : List ℕ) → ((p : ℕ) → at text (n + p) ≡ 32)
    → without_end_blanks (take n text) ≡ without_end_blanks text
cut-all n text h = same_characters (take n text) text (λ p. grind (arith, at-take, at-take_past, h (p - n)))

-- and without them it is no longer than that part
pub ends-within : (n : ℕ) (text : List ℕ) → ((p : ℕ) → at text (n + p) ≡ 32)
    → length (without_end_blanks text) ≤ n
ends-within n text h = omega (arith, ap length (cut-all n text h), few_kept (take n text), length-take n text)

pub first-columns : (n : ℕ) (text given : List ℕ) → length given ≡ n
    → ((p : ℕ) → p < n → at text p ≡ at given p) → columns text 1 n ≡ given
first-columns n text given long h = columns-are text 1 n given long
    (λ p less. let place : 1 - 1 + p ≡ p = omega arith in ap (at text) place ∙ h p less)

pub same-columns : (n : ℕ) (xs ys : List ℕ) → ((p : ℕ) → p < n → at xs p ≡ at ys p)
    → columns xs 1 n ≡ columns ys 1 n
same-columns n xs ys h = search (rules, first-columns, columns, length-columns, at-take, at-padded)

-- a test that a blank passes, of all characters of columns
pub all-columns : (p : ℕ → Bool) (text : List ℕ) (first width : ℕ)
    → p 32 ≡ true → list_all p text ≡ true → list_all p (columns text first width) ≡ true
all-columns p text first width e h = all-take p width (drop (first - 1) text ++ replicate width 32)
    (list_all-from_at p _ (λ k. grind (arith, at-padded, at-drop, list_all-at p e text h (first - 1 + k))))

-- ---- indicators

pub same-text : (text : List ℕ) → text_difference text text ≡ []
same-text [] = refl
same-text (c ∷ cs) = grind (arith, Decides-eqb, same-text cs)

-- ---- held indicators by the number of types

pub length-held : (count : ℕ) (flags : List ℕ) → length (flags_held count flags) ≤ 2 * count
length-held count flags = omega (arith, few_kept (take (2 * count) flags), length-take (2 * count) flags)

-- the columns of indicators, without blanks at the end, are the held indicators
pub held-columns : (count : ℕ) (flags : List ℕ) → without_end_blanks (columns flags 1 (2 * count))
    ≡ flags_held count flags
held-columns count flags = search (rules, same-cut, at-padded)

pub columns-held : (count : ℕ) (flags : List ℕ) → IsAllowedCount count → AreHeldFlags flags
    → AreHeldFlags (columns flags 1 (2 * count))
columns-held count flags few h = search (rules, length-columns, all-columns, is_kept)

-- blanks at the end of indicators don't count

pub columns-trimmed : (width : ℕ) (flags : List ℕ)
    → columns (without_end_blanks flags) 1 width ≡ columns flags 1 width
columns-trimmed width flags = search (rules, same-columns, without_end_blanks, at-without_end_blanks)

pub patched-trimmed : (flags marks : List ℕ) → patched (without_end_blanks flags) marks ≡ patched flags marks
patched-trimmed flags marks = search (rules, same_characters, at-by_position, at-without_end_blanks)

pub before-trimmed : (old new : List ℕ)
    → text_difference (without_end_blanks old) new ≡ text_difference old new
before-trimmed old new = search (rules, same_characters, at-by_position, at-without_end_blanks)

-- ---- lengths

pub difference-length : (n : ℕ) (old new : List ℕ)
    → length old ≤ n → length new ≤ n → length (text_difference old new) ≤ n
difference-length n old new h k = grind (arith, common_steps, ends-within, at-by_position, get_or_past)
