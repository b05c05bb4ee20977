-- The pieces of an input, from its front.
use Rattle.std.proofs.lemmas.Grind.{common_steps}
use Rattle.std.proofs.Common.{◌≡◌, ◌≢◌, ℕ, ◌<◌, Bool, true, false, cond, eqb, ◌⊎◌, inl, inr, List, [], ◌∷◌}
use Rattle.std.proofs.{Common.{◌++◌, length, refl, sym, ap, subst, arith}, lemmas.Bool.ne_eqb}
use Rattle.std.proofs.lemmas.{Bool.Decides.eqb_tells, List.Elements.{All-head, All-tail, All-cons}}
use Rattle.crx_base.specs.meaning.{Lines.{Piece, pieces_of, onto_first}, AsRead.ended_pieces}
use Rattle.crx_lines.specs.Reading.{HasNoFeed}

abbrev pub NoFeed : ℕ → Type 0
NoFeed b = b ≢ 10

-- the first piece of an input, if an LF ends it
pub pieces-first : (piece rest : List ℕ) → HasNoFeed piece
    → pieces_of (piece ++ 10 ∷ rest) ≡ record { bytes = piece; is_ended = true } ∷ pieces_of rest
pieces-first [] rest none = refl
pieces-first (b ∷ bs) rest none =
    let test = ne_eqb b 10 (All-head NoFeed b bs none) in
    rw test (ap (onto_first b) (pieces-first bs rest (All-tail NoFeed b bs none)))

-- an input that no LF ends is one piece
pub pieces-last : (piece : List ℕ) → HasNoFeed piece → 0 < length piece
    → pieces_of piece ≡ record { bytes = piece; is_ended = false } ∷ []
pieces-last (b ∷ c ∷ cs) none some =
    let test = ne_eqb b 10 (All-head NoFeed b (c ∷ cs) none) in
    rw test (ap (onto_first b) (pieces-last _ (All-tail NoFeed b (c ∷ cs) none) (omega arith)))
pieces-last piece none some = grind (arith, common_steps, All-head)

-- without an LF no piece is ended
pub ended-none : (bytes : List ℕ) → HasNoFeed bytes → ended_pieces (pieces_of bytes) ≡ []
ended-none bytes none = grind (arith, common_steps, pieces-last)

-- each piece is ended
abbrev pub EachEnded : List Piece → Type 0
EachEnded [] = Unit {0}
EachEnded (p ∷ ps) = (p.is_ended ≡ true) × EachEnded ps

-- the pieces of an input whose first bytes are known: those that end there, then those of a rest without LF and
-- of the bytes after it
abbrev pub Splits : (List ℕ → List Piece) → List Piece → Type 0
Splits pieces before = (rest : List ℕ)
    × HasNoFeed rest × ((more : List ℕ) → pieces more ≡ before ++ pieces_of (rest ++ more))

splits-none : (b : ℕ) → b ≢ 10
    → (F : List ℕ → List Piece) → Splits F [] → Splits (λ more. onto_first b (F more)) []
splits-none b other F s =
    let test = ne_eqb b 10 other in
    (b ∷ s.0, All-cons NoFeed b s.0 other s.1, λ more. rw test (ap (onto_first b) (s.2 more)))

splits-onto : (b : ℕ) → b ≢ 10
    → (F : List ℕ → List Piece) (bytes : List ℕ) (is_ended : Bool) (ps : List Piece)
    → Splits F (ended_pieces (record { bytes = bytes; is_ended = is_ended } ∷ ps))
    → Splits (λ more. onto_first b (F more))
    (ended_pieces (onto_first b (record { bytes = bytes; is_ended = is_ended } ∷ ps)))
splits-onto b other F bytes true ps s = (s.0, s.1, λ more. ap (onto_first b) (s.2 more))
splits-onto b other F bytes false ps s = splits-none b other F s

splits-other : (b : ℕ) → b ≢ 10 → (F : List ℕ → List Piece) (ps : List Piece) → Splits F (ended_pieces ps)
    → Splits (λ more. onto_first b (F more)) (ended_pieces (onto_first b ps))
splits-other b other F [] s = splits-none b other F s
splits-other b other F (p ∷ ps) s = splits-onto b other F p.bytes _ ps s

by-byte : (b : ℕ) (bs : List ℕ) → Splits (λ more. pieces_of (bs ++ more)) (ended_pieces (pieces_of bs))
    → ((eqb b 10 ≡ true) × (b ≡ 10)) ⊎ ((eqb b 10 ≡ false) × (b ≢ 10))
    → Splits (λ more. pieces_of ((b ∷ bs) ++ more)) (ended_pieces (pieces_of (b ∷ bs)))
by-byte b bs s (inl is) = grind arith
by-byte b bs s (inr is) =
    let P : Bool → Type 0 = λ t. Splits (λ more. cond t
    (record { bytes = []; is_ended = true } ∷ pieces_of (bs ++ more)) (onto_first b (pieces_of (bs ++ more))))
    (ended_pieces (cond t (record { bytes = []; is_ended = true } ∷ pieces_of bs)
    (onto_first b (pieces_of bs)))) in
    subst P (sym is.0) (splits-other b is.1 (λ more. pieces_of (bs ++ more)) (pieces_of bs) s)

pub pieces-split : (given : List ℕ)
    → Splits (λ more. pieces_of (given ++ more)) (ended_pieces (pieces_of given))
pieces-split [] = grind arith
pieces-split (b ∷ bs) = by-byte b bs (pieces-split bs) (eqb_tells b 10)
