-- Texts by their characters, with blanks after them: a reader of columns doesn't depend on the blanks at a
-- text's end.
use Rattle.std.proofs.{Common.{rules, ◌∙◌, ap, arith}, lemmas.Grind.common_steps}
use Rattle.std.{proofs.lemmas.List.{length-append, length-take, length-replicate}, specs.List.list_all}
use Rattle.std.specs.Prelude.{◌≡◌, refl, ℕ, suc, ◌+◌, ◌-◌, ◌<◌, ◌≤◌, Bool, true, ◌&&◌, List, [], ◌∷◌}
use Rattle.std.specs.Prelude.{◌++◌, length, take, drop, replicate, slice_index_or}
use Rattle.crx_text.specs.meaning.Columns.{before_end_blanks, without_end_blanks, columns}

-- the character at a position, from 0
abbrev pub at : List ℕ → ℕ → ℕ
at text position = slice_index_or text position 32

pub at-before_end_blanks : (c : ℕ) (text : List ℕ) (p : ℕ) → at (before_end_blanks c text) p ≡ at (c ∷ text) p
at-before_end_blanks = grind (arith, common_steps)

pub at-without_end_blanks : (text : List ℕ) (p : ℕ) → at (without_end_blanks text) p ≡ at text p
at-without_end_blanks (c ∷ cs) (suc p) = at-before_end_blanks c _ (suc p) ∙ at-without_end_blanks cs p
at-without_end_blanks text p = grind (arith, common_steps)

pub at-drop : (k : ℕ) (text : List ℕ) (p : ℕ) → at (drop k text) p ≡ at text (k + p)
at-drop = grind (arith, common_steps)

pub at-append : (xs ys : List ℕ) (p : ℕ) → p < length xs → at (xs ++ ys) p ≡ at xs p
at-append (x ∷ xs) ys (suc p) h = at-append xs ys p (omega (arith, h))
at-append xs ys p h = grind (arith, common_steps)

pub at-append_past : (xs ys : List ℕ) (n p : ℕ) → length xs ≡ n → at (xs ++ ys) (n + p) ≡ at ys p
at-append_past [] ys n p e = ap (at ys) (omega (arith, e))
at-append_past (x ∷ xs) ys n p e = grind (arith, common_steps, at, at-append_past xs ys _ p refl)

-- a text followed by blanks, cut at a width
take-padded : (n k : ℕ) (text want : List ℕ)
    → n ≤ k → length want ≡ n → ((p : ℕ) → p < n → at text p ≡ at want p) → take n (text ++ replicate k 32)
    ≡ want
take-padded (suc n) (suc k) [] (w ∷ ws) le e h =
    let same = h 0 (omega arith) in
    ap (λ c. c ∷ take n (replicate k 32)) same ∙ ap (λ r. w ∷ r) (take-padded n k [] ws (omega (arith, le))
    (omega (arith, e)) (λ p less. h (suc p) (omega (arith, less))))
take-padded (suc n) (suc k) (c ∷ cs) (w ∷ ws) le e h =
    let same : c ≡ w = h 0 (omega arith) in
    ap (λ d. d ∷ take n (cs ++ replicate (suc k) 32)) same ∙ ap (λ r. w ∷ r) (take-padded n (suc k) cs ws
    (omega (arith, le)) (omega (arith, e)) (λ p less. h (suc p) (omega (arith, less))))
take-padded n k text want le e h = grind (arith, common_steps)

-- ---- columns

pub length-columns : (line : List ℕ) (first width : ℕ) → length (columns line first width) ≡ width
length-columns line first width = grind (arith, common_steps, length-take, length-append, length-replicate)

-- columns by their characters
pub columns-are : (text : List ℕ) (first width : ℕ) (want : List ℕ) → length want ≡ width
    → ((p : ℕ) → p < width → at text (first - 1 + p) ≡ at want p) → columns text first width ≡ want
columns-are text first width want e h = search (rules, take-padded, at-drop)

pub list_all-from_at : (p : ℕ → Bool) (text : List ℕ) → ((k : ℕ) → p (at text k) ≡ true) → list_all p text
    ≡ true
list_all-from_at p [] h = refl
list_all-from_at p (c ∷ cs) h = ap (λ b. b && list_all p cs) (h 0) ∙ list_all-from_at p cs (λ k. h (suc k))
