-- The columns of lines: they count from 1, and blanks without end follow a line.
-- RINEX 3.05, appendix A (its tables of line formats count columns so).
use Rattle.std.specs.Prelude.{ℕ, Bool, List, [], ◌∷◌, ◌++◌, ◌-◌, ◌==◌, if◌then◌else◌, take, drop, replicate}
use Rattle.std.specs.Prelude.{slice_index_or}

-- a blank is only the byte 32
abbrev pub is_blank : ℕ → Bool
is_blank c = c == 32

-- the character in a column; after the line's end it is a blank
abbrev pub character_at : List ℕ → ℕ → ℕ
character_at line column = slice_index_or line (column - 1) 32

-- `width` columns of a line, from column `first` on
abbrev pub columns : List ℕ → ℕ → ℕ → List ℕ
columns line first width = take width (drop (first - 1) line ++ replicate width 32)

-- a character before a text whose blanks at the end are dropped
abbrev pub before_end_blanks : ℕ → List ℕ → List ℕ
before_end_blanks c [] = if is_blank c then [] else c ∷ []
before_end_blanks c (d ∷ ds) = c ∷ d ∷ ds

-- a text without the blanks at its end
abbrev pub without_end_blanks : List ℕ → List ℕ
without_end_blanks [] = []
without_end_blanks (c ∷ cs) = before_end_blanks c (without_end_blanks cs)

-- a text without the blanks at its beginning
abbrev pub without_first_blanks : List ℕ → List ℕ
without_first_blanks [] = []
without_first_blanks (c ∷ cs) = if is_blank c then without_first_blanks cs else c ∷ cs

-- a text without the blanks at both ends
abbrev pub without_blanks : List ℕ → List ℕ
without_blanks text = without_end_blanks (without_first_blanks text)
