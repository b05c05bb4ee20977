-- A standard file is restored byte for byte: nothing of it is skipped, no line of it ends in CR, and its lines are as
-- RINEX prints them.
use Rattle.crx_filter.proofs.Vocabulary
use Vocabulary.{common_steps, arith, ℕ, zero, suc, ◌≡◌, ◌+◌, Bool, true, false, List, []}
use Vocabulary.{◌∷◌, map, length, Option, Some, None, refl, ap, ◌∙◌, AllByRecursion, list_all}
use Vocabulary.{eqb_tells, and_parts, Piece, InputLine, pieces_of, ends_with_return, line_of, lines_of}
use Vocabulary.{ReadLine, as_read, Fault, At, Place, FileUnit, Item, WholeReading}
use Vocabulary.{after_fault, reading_within, ended_with, ended_reading, lines_text, rinex_place}
use Vocabulary.{whole_rinex, not-true, by_bool}
use Rattle.crx_filter.proofs.{wayback.LinesCutAgain.{OfContent, return-kept}}
use Rattle.crx_lines.proofs.PieceLemmas.{EachEnded}

-- ---- without a fault nothing is skipped

pub not-ended : {X : Type 0} (at : At) → ◌≡◌ {A = Option At} (Some at) None → X
not-ended at e = absurd (cc)

ended-same : {E : Type 0} (skip : Bool) (items : List (Item E)) (number : ℕ) (o : Option Fault)
    → WholeReading.fault (ended_with false items number o) ≡ None → ended_with skip items number o
    ≡ ended_with false items number o
ended-same skip items number v1 f = grind (arith, not-ended)

within-same : {E : Type 0} (place : List (Item E) → List ReadLine → Place (FileUnit E)) (skip : Bool) (units :
    ℕ) (items : List (Item E)) (number : ℕ) (lines : List ReadLine) → WholeReading.fault (ended_reading false
    (reading_within place false units items number lines)) ≡ None → ended_reading skip (reading_within place
    skip units items number lines) ≡ ended_reading false (reading_within place false units items number lines)
within-same place skip zero items number lines f = ended-same skip items _ _ f
within-same place skip (suc units) items number lines f =
    grind
    (arith, common_steps, reading_within, after_fault, ended-same, not-ended, within-same place skip units)

pub same-reading : (skip : Bool) (lines : List ReadLine)
    → WholeReading.fault (whole_rinex false lines) ≡ None → whole_rinex skip lines ≡ whole_rinex false lines
same-reading skip lines f = within-same rinex_place skip (length lines + 1) [] 1 lines f

-- ---- no line ends in CR

abbrev pub NoReturn : List ℕ → Type 0
NoReturn line = ends_with_return line ≡ false

abbrev are_plain : List Piece → Bool
are_plain ps = list_all (λ (line : InputLine). line.is_plain) (map line_of ps)

-- of the first piece, and of the others
plain-parts : (p : Piece) (ps : List Piece) → are_plain (p ∷ ps) ≡ true
    → (p.is_ended ≡ true) × NoReturn p.bytes × (are_plain ps ≡ true)
plain-parts p ps e = grind (arith, common_steps, and_parts, not-true)

-- so they end with LF, their contents are their bytes, and none ends in CR
plain-pieces : (ps : List Piece) → are_plain ps ≡ true → EachEnded ps
    × (map (λ (line : InputLine). line.content) (map line_of ps) ≡ map (λ (p : Piece). p.bytes) ps)
    × AllByRecursion (OfContent NoReturn) (map as_read (map line_of ps))
plain-pieces [] e = (tt, refl, tt)
plain-pieces (p ∷ ps) e =
    let others = plain-pieces ps (plain-parts p ps e).2 in
    grind (arith, common_steps, plain-parts p ps e, return-kept, by_bool)

pub plain-no_return : (ps : List Piece) → list_all (λ (line : InputLine). line.is_plain)
    (map line_of ps) ≡ true
    → AllByRecursion (OfContent NoReturn) (map as_read (map line_of ps))
plain-no_return ps e = (plain-pieces ps e).2

-- ---- the text of an input's plain lines is the input

pieces-text : (input : List ℕ)
    → EachEnded (pieces_of input) → lines_text (map (λ (p : Piece). p.bytes) (pieces_of input)) ≡ input
pieces-text [] e = refl
pieces-text (b ∷ bs) e = grind (arith, common_steps, pieces_of, eqb_tells, pieces-text bs)

pub plain-text : (input : List ℕ) → list_all (λ (line : InputLine). line.is_plain) (lines_of input) ≡ true
    → lines_text (map (λ (line : InputLine). line.content) (lines_of input)) ≡ input
plain-text input e = let plain = plain-pieces (pieces_of input) e in ap lines_text plain.1
    ∙ pieces-text input plain.0
