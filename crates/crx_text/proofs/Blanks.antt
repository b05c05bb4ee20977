-- Blanks at the ends of texts, and the columns of a line that ends before them.
use Rattle.std.proofs.Common.{◌≡◌, ℕ, ◌-◌, ◌≤◌, List, [], ◌∷◌, ◌++◌, length, take, drop}
use Rattle.std.proofs.{Common.{replicate, refl, ap, arith, suc, zero}, lemmas.Grind.common_steps}
use Rattle.std.proofs.lemmas.List.{take-replicate}
use Rattle.crx_text.specs.meaning.Columns.{columns, before_end_blanks, without_end_blanks}
use Rattle.crx_text.specs.meaning.Columns.{without_first_blanks, without_blanks}

end_blanks_none : (n : ℕ) → without_end_blanks (replicate n 32) ≡ []
end_blanks_none zero = refl
end_blanks_none (suc n) = ap (before_end_blanks 32) (end_blanks_none n)

first_blanks_none : (n : ℕ) → without_first_blanks (replicate n 32) ≡ []
first_blanks_none zero = refl
first_blanks_none (suc n) = first_blanks_none n

-- more blanks at the end make no difference
pub end_blanks-more : (xs : List ℕ) (n : ℕ)
    → without_end_blanks (xs ++ replicate n 32) ≡ without_end_blanks xs
end_blanks-more [] n = end_blanks_none n
end_blanks-more (x ∷ xs) n = ap (before_end_blanks x) (end_blanks-more xs n)

pub blanks-more : (xs : List ℕ) (n : ℕ) → without_blanks (xs ++ replicate n 32) ≡ without_blanks xs
blanks-more [] n = ap without_end_blanks (first_blanks_none n)
blanks-more (x ∷ xs) n = grind (arith, common_steps, end_blanks-more, blanks-more xs n)

padded_more : (w n : ℕ) (s : List ℕ)
    → w ≤ n → take w (s ++ replicate n 32) ≡ take w s ++ replicate (w - length (take w s)) 32
padded_more zero n s h = refl
padded_more (suc w) n [] h = let e : suc w - 0 ≡ suc w = omega arith in rw e
    (take-replicate {X = ℕ} (suc w) n 32 h)
padded_more (suc w) n (x ∷ s) h = grind (arith, common_steps, padded_more w n s (omega arith))

-- columns are the part inside the line, and blanks after it
pub columns_are : (line : List ℕ) (first width : ℕ) → columns line first width ≡ take width
    (drop (first - 1) line) ++ replicate (width - length (take width (drop (first - 1) line))) 32
columns_are line first width = padded_more width width _ (omega arith)

-- so a function that ignores blanks at the ends needs only this part
pub end_blanks_columns : (line : List ℕ) (first width : ℕ)
    → without_end_blanks (columns line first width) ≡ without_end_blanks (take width (drop (first - 1) line))
end_blanks_columns line first width = grind (arith, common_steps, columns_are, end_blanks-more)

pub blanks_columns : (line : List ℕ) (first width : ℕ)
    → without_blanks (columns line first width) ≡ without_blanks (take width (drop (first - 1) line))
blanks_columns line first width = grind (arith, common_steps, columns_are, blanks-more)
