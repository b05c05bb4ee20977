-- In addition to meaning/Texts: how code and proofs see it.
use Rattle.std.specs.Prelude.{ℕ, Bool, List, ◌==◌, if◌then◌else◌}
use Rattle.crx_base.specs.meaning.Lines.{is_printable}
use Rattle.crx_text.specs.meaning.Columns.{is_blank, without_end_blanks}
use Rattle.crx_text.specs.meaning.Texts.{by_position, is_kept}

-- whether a character is allowed in a text from which marks are made (`is_text`), or in marks
abbrev pub is_allowed : Bool → ℕ → Bool
is_allowed is_text c = if is_text then is_kept c else is_printable c

-- the old character if the mark is blank, a blank if it is &, otherwise the mark itself
abbrev pub character_of : ℕ → ℕ → ℕ
character_of old mark = if is_blank mark then old else if mark == 38 then 32 else mark

-- the text that marks make from an old one
abbrev pub patched : List ℕ → List ℕ → List ℕ
patched old marks = without_end_blanks (by_position character_of old marks)
