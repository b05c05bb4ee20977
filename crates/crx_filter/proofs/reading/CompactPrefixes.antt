-- The reading of the first two lines of compact text.
use Rattle.crx_filter.proofs.Vocabulary.{ℕ, ◌≡◌, ◌+◌, List, [], ◌++◌, length, drop, refl, Bool, ReadLine, Place}
use Rattle.crx_filter.proofs.Vocabulary.{Done}
use Rattle.crx_filter.proofs.Vocabulary.{Remains, reading_from, whole_reading, first_lines, compact_place}
use Rattle.crx_filter.proofs.Vocabulary.{whole_compact, compact_reading}
use Rattle.crx_filter.proofs.reading.ForwardCompact.{steady-first_lines}

pub remains : (lines more : List ReadLine) (p : Place (List (List ℕ)))
    → first_lines lines ≡ p → Remains (length lines) p (first_lines (lines ++ more))
remains lines more p e = rw e at (steady-first_lines lines more)

pub reading-at : (skip : Bool) (lines : List ReadLine) (two : List (List ℕ)) (count : ℕ) → first_lines lines
    ≡ Done two count → compact_reading skip lines ≡ reading_from compact_place skip [] (count + 1)
    (drop count lines)
reading-at skip lines two count e = rw (e, compact_reading) refl

pub whole-at : (skip : Bool) (lines : List ReadLine) (two : List (List ℕ)) (count : ℕ) → first_lines lines
    ≡ Done two count → whole_compact skip lines ≡ whole_reading compact_place skip (count + 1)
    (drop count lines)
whole-at skip lines two count e = rw (e, whole_compact) refl
