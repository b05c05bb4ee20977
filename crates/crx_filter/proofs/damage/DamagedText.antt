-- Damaged compact text, cut into lines: those that the compaction wrote before and after the block, and the lines
-- that replace the block's.
use Rattle.crx_filter.proofs.Vocabulary
use Vocabulary.{common_steps, arith, ℕ, ◌≡◌, true, cond, List, [], ◌∷◌, ◌++◌, map}
use Vocabulary.{refl, list_all, eqb_tells}
use Vocabulary.{map-append, flat_map-append, and_parts, Piece, InputLine, pieces_of, onto_first, lines_of}
use Vocabulary.{Content, as_read, lines_text, not-true}
use Rattle.crx_filter.proofs.{reading.ListsOfUnits.contents}
pub use Rattle.crx_filter.proofs.wayback.LinesCutAgain.{front-cut}
use Rattle.crx_filter.specs.Damage.{may_replace}
use Rattle.crx_lines.proofs.PieceLemmas.{EachEnded}

-- ---- pieces of two texts, one after the other

pub each-ended : (ps : List Piece) → list_all (λ (piece : Piece). piece.is_ended) ps ≡ true → EachEnded ps
each-ended [] e = tt
each-ended (p ∷ ps) e = grind (arith, and_parts, each-ended ps (and_parts p.is_ended _ e).1)

pieces-append : (one two : List ℕ) → EachEnded (pieces_of one) → pieces_of (one ++ two)
    ≡ pieces_of one ++ pieces_of two
pieces-append [] two e = refl
pieces-append (b ∷ one) two e =
    grind (arith, common_steps, cond, pieces_of, onto_first, eqb_tells, pieces-append one two)

pub lines-append : (one two : List ℕ) → EachEnded (pieces_of one) → map as_read (lines_of (one ++ two))
    ≡ map as_read (lines_of one) ++ map as_read (lines_of two)
lines-append one two e = search (pieces-append, map-append)

-- ---- the lines that replace the block's

-- none of them is too long
pub instead-read : (lines : List InputLine) → list_all may_replace lines ≡ true
    → map as_read lines ≡ map Content (contents lines)
instead-read [] e = refl
instead-read (line ∷ lines) e =
    grind (arith, common_steps, and_parts, instead-read lines (and_parts (may_replace line) _ e).1, not-true)

-- ---- texts of lines

pub text-append : (one two : List (List ℕ)) → lines_text (one ++ two) ≡ lines_text one ++ lines_text two
text-append one two = flat_map-append (λ (line : List ℕ). line ++ 10 ∷ []) one two
