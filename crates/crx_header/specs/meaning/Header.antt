-- The first line of a header: RINEX 3.05, table A2, RINEX VERSION / TYPE.
use Rattle.std.specs.Prelude.{ℕ, Bool, false, ◌||◌, ◌&&◌, List, [], ◌∷◌, ◌==◌, Option, Some, None}
use Rattle.std.specs.Prelude.{codes}
use Rattle.std.specs.Char.{is_ascii_digit}
use Rattle.std.specs.Str.{bytes_eq}
use Rattle.crx_text.specs.meaning.Columns.{columns, character_at, without_blanks}
use Rattle.crx_base.specs.declared.limits.TheConstants.{VERSION_WIDTH}
use Rattle.crx_base.specs.declared.fault.Fault.{Fault}
use Rattle.crx_base.specs.declared.fault.Fault.TheVariants.{MissingVersion, UnsupportedVersion, NotObservation}
use Rattle.crx_header.specs.declared.labels.TheConstants.{VERSION_LABEL, END_LABEL}
use Rattle.crx_header.specs.meaning.InOrder.{◌otherwise◌next◌}
use Rattle.crx_header.specs.meaning.Label.{has_label}

-- 3.0 and one digit
abbrev pub is_version_with_digit : List ℕ → Bool
is_version_with_digit (a ∷ b ∷ c ∷ d ∷ []) = bytes_eq (a ∷ b ∷ c ∷ []) (codes "3.0") && is_ascii_digit d
is_version_with_digit _ = false

-- the supported versions: 3, 3.0, and 3.0 with one more digit
abbrev pub is_supported : List ℕ → Bool
is_supported version = bytes_eq version (codes "3") || (bytes_eq version (codes "3.0") || is_version_with_digit version)

-- the fault of the first header line, if any: a wrong label, version in columns 1 to 9, or type in column 21
abbrev pub first_header_fault : List ℕ → Option Fault
first_header_fault line =
    has_label VERSION_LABEL line otherwise Some MissingVersion next
    is_supported (without_blanks (columns line 1 VERSION_WIDTH)) otherwise Some UnsupportedVersion next
    character_at line 21 == 79 otherwise Some NotObservation next
    None

-- the line that ends the header
abbrev pub is_end_of_header : List ℕ → Bool
is_end_of_header line = has_label END_LABEL line
