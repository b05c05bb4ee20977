-- An input as a reader of lines reads it: RINEX files are text, read line by line.
use Rattle.std.specs.Prelude.{ℕ, List, [], ◌∷◌, if◌then◌else◌, map}
use Rattle.crx_base.specs.meaning.Lines.{InputLine, Piece, pieces_of, line_of, is_long}

-- a line as it is read: its content, or that it is longer than the limit
pub data ReadLine : Type 0 where
  Content : List ℕ → ReadLine
  Overlong : ReadLine

-- a line of an input, as it is read
abbrev pub as_read : InputLine → ReadLine
as_read l = if is_long l then Overlong else Content l.content

-- the pieces that an LF follows
abbrev pub ended_pieces : List Piece → List Piece
ended_pieces [] = []
ended_pieces (p ∷ ps) = if p.is_ended then p ∷ ended_pieces ps else []

-- the lines whose LF is among the bytes
abbrev pub ended_lines_of : List ℕ → List InputLine
ended_lines_of input = map line_of (ended_pieces (pieces_of input))
