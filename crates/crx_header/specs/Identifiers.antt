-- A set of identifiers as a table: whether each is in the set, at an index of its own.
use Rattle.std.specs.Prelude.{ℕ, Bool, false, ◌+◌, ◌-◌, ◌*◌, List, get_or, if◌then◌else◌}
use Rattle.crx_text.specs.meaning.Columns.{character_at, is_blank}
use Rattle.crx_header.specs.declared.identifiers.TheConstants.{FIRST_LETTER, TENS, UNITS}

-- the first of the two digits as a number, 10 for a blank
abbrev pub tens_of : ℕ → ℕ
tens_of digit = if is_blank digit then TENS - 1 else digit - 48

-- an identifier's index, from its letter and its digits
abbrev pub index_of : List ℕ → ℕ
index_of name = ((character_at name 1 - FIRST_LETTER) * TENS + tens_of (character_at name 2)) * UNITS
    + (character_at name 3 - 48)

-- whether a table has an identifier
abbrev pub has_identifier : List Bool → List ℕ → Bool
has_identifier table name = get_or table (index_of name) false
