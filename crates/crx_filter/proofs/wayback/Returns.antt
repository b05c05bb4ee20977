-- The bytes 13 of a file on the way to compact text and back: their number never rises, and it falls if a copied line
-- ends in CR. So a restored file has no such line.
use Rattle.crx_filter.proofs.Vocabulary
use Vocabulary.{ℕ, ◌≡◌, ◌+◌, ◌<◌, ◌≤◌, true, cond, List, [], ◌∷◌, ◌++◌, map, take, drop, refl, arith}
use Vocabulary.{◌==◌, AllByRecursion, list_all, and_parts, Piece, pieces_of, ends_with_return}
use Vocabulary.{without_return, line_of, lines_of, is_long, HasNoFeed, ReadLine, Content, Overlong, as_read}
use Vocabulary.{is_printable, lines_text, by_bool}
use Rattle.crx_filter.proofs.wayback.{LinesCutAgain.first-cut, FirstTwoLines.printable-other}
use Vocabulary.{common_steps}
use Rattle.std.proofs.lemmas.List.{take-append-drop}

-- the sum of `f` over a list
abbrev pub total : {X : Type 0} → (X → ℕ) → List X → ℕ
total f [] = 0
total f (x ∷ xs) = f x + total f xs

pub total-append : {X : Type 0} (f : X → ℕ) (xs ys : List X) → total f (xs ++ ys) ≡ total f xs + total f ys
total-append f [] ys = omega arith
total-append f (x ∷ xs) ys = omega (arith, total-append f xs ys)

-- ---- of a text

abbrev pub returns : List ℕ → ℕ
returns = total (λ b. cond (b == 13) 1 0)

-- one CR at the end is taken off
pub returns-kept : (text : List ℕ) → returns (without_return text) ≤ returns text
returns-kept [] = omega arith
returns-kept (b ∷ []) = grind (arith, common_steps)
returns-kept (b ∷ c ∷ bs) = omega (arith, returns-kept (c ∷ bs))

pub returns-fewer : (text : List ℕ) → ends_with_return text ≡ true → returns (without_return text)
    < returns text
returns-fewer [] e = absurd (cc)
returns-fewer (b ∷ []) e = rw e (omega arith)
returns-fewer (b ∷ c ∷ bs) e = omega (arith, returns-fewer (c ∷ bs) e)

pub printable-none : (text : List ℕ) → list_all is_printable text ≡ true → returns text ≡ 0
printable-none [] h = refl
printable-none (c ∷ cs) h = grind (arith, common_steps, and_parts, printable-other, printable-none cs)

-- ---- of written lines

abbrev pub returns_in : List (List ℕ) → ℕ
returns_in = total returns

pub in-text : (lines : List (List ℕ)) → returns (lines_text lines) ≡ returns_in lines
in-text [] = refl
in-text (line ∷ lines) = grind (arith, in-text lines, total-append)

pub in-printable : (lines : List (List ℕ))
    → AllByRecursion (λ (line : List ℕ). list_all is_printable line ≡ true) lines → returns_in lines ≡ 0
in-printable [] h = refl
in-printable (line ∷ lines) h = omega (arith, printable-none line h.0, in-printable lines h.1)

-- ---- of read lines

abbrev returns_line : ReadLine → ℕ
returns_line Overlong = 0
returns_line (Content line) = returns line

abbrev pub returns_read : List ReadLine → ℕ
returns_read = total returns_line

pub read-append : (front rest : List ReadLine) → returns_read
    (front ++ rest) ≡ returns_read front + returns_read rest
read-append = total-append returns_line

pub read-cut : (n : ℕ) (lines : List ReadLine)
    → returns_read lines ≡ returns_read (take n lines) + returns_read (drop n lines)
read-cut n lines = cc (take-append-drop n lines, read-append (take n lines) (drop n lines))

-- the bytes 13 of pieces
abbrev returns_of : List Piece → ℕ
returns_of = total (λ (p : Piece). returns p.bytes)

read-pieces : (ps : List Piece) → returns_read (map as_read (map line_of ps)) ≤ returns_of ps
read-pieces [] = omega arith
read-pieces (p ∷ ps) = grind (arith, read-pieces ps, by_bool, is_long, returns-kept)

of-pieces : (input : List ℕ) → returns_of (pieces_of input) ≤ returns input
of-pieces [] = omega arith
of-pieces (b ∷ bs) = grind (arith, of-pieces bs)

-- the lines read from an input have no more than the input
pub read-input : (input : List ℕ) → returns_read (map as_read (lines_of input)) ≤ returns input
read-input input = omega (arith, read-pieces (pieces_of input), of-pieces input)

-- lines without their last CR
abbrev pub returns_left : List (List ℕ) → ℕ
returns_left = total (λ line. returns (without_return line))

pub left-kept : (lines : List (List ℕ)) → returns_left lines ≤ returns_in lines
left-kept [] = omega arith
left-kept (line ∷ lines) = omega (arith, returns-kept line, left-kept lines)

-- lines that are written and read again have lost one CR if one ended them
pub read-written : (lines : List (List ℕ)) → AllByRecursion HasNoFeed lines
    → returns_read (map as_read (lines_of (lines_text lines))) ≤ returns_left lines
read-written [] h = omega arith
read-written (line ∷ lines) h = grind (arith, read-written lines h.1, by_bool, is_long, first-cut)
