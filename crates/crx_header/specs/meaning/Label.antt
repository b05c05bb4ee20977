-- Labels of header lines and numbers in columns: RINEX 3.05, table A2.
use Rattle.std.specs.Prelude.{ℕ, Bool, List, [], ◌∷◌, Option, Some, None, if◌then◌else◌}
use Rattle.std.specs.Char.{is_ascii_digit}
use Rattle.std.specs.List.{list_all}
use Rattle.std.specs.Str.{bytes_eq}
use Rattle.std.specs.Str.Parse.{digits_value}
use Rattle.crx_text.specs.meaning.Columns.{columns, without_blanks, without_end_blanks}

-- the label of a header line: columns 61 to 80 without the blanks at their end
abbrev pub label_of : List ℕ → List ℕ
label_of line = without_end_blanks (columns line 61 20)

-- whether a line has this label
abbrev pub has_label : List ℕ → List ℕ → Bool
has_label label line = bytes_eq (label_of line) label

-- the number that digits spell; without digits there is none
abbrev pub number_of_digits : List ℕ → Option ℕ
number_of_digits [] = None
number_of_digits (c ∷ cs) = if list_all is_ascii_digit (c ∷ cs) then Some (digits_value 10 (c ∷ cs)) else None

-- the number in some columns: digits, with blanks before or after them
abbrev pub number_in : List ℕ → Option ℕ
number_in field = number_of_digits (without_blanks field)
