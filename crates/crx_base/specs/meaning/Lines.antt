-- The lines of an input: RINEX files are text, and a line ends with LF, or with CR and LF.
use Rattle.std.specs.Prelude.{ℕ, Bool, true, false, not, List, [], ◌∷◌, ◌==◌, ◌&&◌, if◌then◌else◌, nat_le, nat_lt, length, map, ◌++◌}
use Rattle.std.specs.List.{flat_map}
use Rattle.crx_base.specs.declared.limits.TheConstants.{LINE_LIMIT}

-- the bytes between two line ends, and whether an LF follows them
pub record Piece : Type 0 where
  pub bytes : List ℕ
  pub is_ended : Bool

-- a byte before the first of some pieces; without pieces it begins a last one
abbrev pub onto_first : ℕ → List Piece → List Piece
onto_first b [] = record { bytes = b ∷ []; is_ended = false } ∷ []
onto_first b (p ∷ ps) = record { bytes = b ∷ p.bytes; is_ended = p.is_ended } ∷ ps

-- the bytes cut at LF; the rest after the last LF is a piece if it isn't empty
abbrev pub pieces_of : List ℕ → List Piece
pieces_of [] = []
pieces_of (b ∷ bs) = if b == 10 then record { bytes = []; is_ended = true } ∷ pieces_of bs
    else onto_first b (pieces_of bs)

-- whether a text ends with CR
abbrev pub ends_with_return : List ℕ → Bool
ends_with_return [] = false
ends_with_return (b ∷ []) = b == 13
ends_with_return (b ∷ c ∷ bs) = ends_with_return (c ∷ bs)

-- a text without one CR at its end
abbrev pub without_return : List ℕ → List ℕ
without_return [] = []
without_return (b ∷ []) = if b == 13 then [] else b ∷ []
without_return (b ∷ c ∷ bs) = b ∷ without_return (c ∷ bs)

-- a line: its content, and whether only an LF ends it
pub record InputLine : Type 0 where
  pub content : List ℕ
  pub is_plain : Bool

abbrev pub line_of : Piece → InputLine
line_of p = record { content = without_return p.bytes; is_plain = p.is_ended && not (ends_with_return p.bytes) }

-- the lines of an input, in order; a line's number is its place, from 1
abbrev pub lines_of : List ℕ → List InputLine
lines_of input = map line_of (pieces_of input)

-- whether a line's content is longer than the limit
abbrev pub is_long : InputLine → Bool
is_long l = nat_lt LINE_LIMIT (length l.content)

-- lines, each followed by LF
abbrev pub lines_text : List (List ℕ) → List ℕ
lines_text lines = flat_map (λ (line : List ℕ). line ++ 10 ∷ []) lines

-- a printable character: only these are allowed in marks, and in the date that a user chooses
abbrev pub is_printable : ℕ → Bool
is_printable c = nat_le 32 c && nat_le c 126
