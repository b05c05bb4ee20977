-- Position-wise differences of texts: Hatanaka's Compact RINEX 3.0, epoch lines and indicators.
use Rattle.std.specs.Prelude.{ℕ, Bool, not, List, [], ◌∷◌, ◌==◌, ◌&&◌, if◌then◌else◌}
use Rattle.crx_base.specs.meaning.Lines.{is_printable}
use Rattle.crx_text.specs.meaning.Columns.{is_blank, without_end_blanks}

-- f of the characters of two texts, position by position, with blanks after the shorter text
abbrev pub by_position : (ℕ → ℕ → ℕ) → List ℕ → List ℕ → List ℕ
by_position f [] [] = []
by_position f (a ∷ as') [] = f a 32 ∷ by_position f as' []
by_position f [] (b ∷ bs) = f 32 b ∷ by_position f [] bs
by_position f (a ∷ as') (b ∷ bs) = f a b ∷ by_position f as' bs

-- a blank if nothing changed, & if a character became blank, otherwise the new character
abbrev pub mark_of : ℕ → ℕ → ℕ
mark_of old new = if old == new then 32 else if is_blank new then 38 else new

-- the marks that lead from an old text to a new one
abbrev pub text_difference : List ℕ → List ℕ → List ℕ
text_difference old new = without_end_blanks (by_position mark_of old new)

-- a character that is allowed in epoch texts and indicators, from which marks are made: 32 to 126 other than
-- &, which is a blank in marks
abbrev pub is_kept : ℕ → Bool
is_kept c = is_printable c && not (c == 38)
