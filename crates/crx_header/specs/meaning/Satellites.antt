-- Satellites by their identifiers: RINEX 3.05, table A3, A1,I2.2.
use Rattle.std.specs.Prelude.{ℕ, Bool, true, ◌==◌, ◌||◌, ◌&&◌, List, [], ◌∷◌, Option, None, if◌then◌else◌, length, not}
use Rattle.std.specs.Char.{is_ascii_digit}
use Rattle.std.specs.List.{list_any}
use Rattle.std.specs.Str.{bytes_eq}
use Rattle.crx_text.specs.meaning.Columns.{character_at, is_blank}
use Rattle.crx_base.specs.declared.limits.TheConstants.{NAME_WIDTH}
use Rattle.crx_header.specs.meaning.ObservationTypes.{Count, count_of, is_system}

-- whether columns 2 and 3 of a satellite line continue an identifier: a digit or a blank, and a digit
abbrev pub has_number : List ℕ → Bool
has_number line = (is_ascii_digit (character_at line 2) || is_blank (character_at line 2))
    && is_ascii_digit (character_at line 3)

-- how many types the satellite of a line has, if it has an identifier of a system with types
abbrev pub types_of_satellite : List Count → List ℕ → Option ℕ
types_of_satellite types line = if has_number line then count_of types (character_at line 1) else None

-- an identifier: the letter of a system, a digit or a blank, and a digit
abbrev pub is_identifier : List ℕ → Bool
is_identifier name = (length name == NAME_WIDTH) && (is_system (character_at name 1) && has_number name)

-- whether one of `xs` has this identifier
abbrev pub is_among : {X : Type 0} → (X → List ℕ) → List ℕ → List X → Bool
is_among name_of name xs = list_any (λ x. bytes_eq (name_of x) name) xs

-- whether no two of them have the same identifier
abbrev pub are_apart : {X : Type 0} → (X → List ℕ) → List X → Bool
are_apart name_of [] = true
are_apart name_of (x ∷ xs) = not (is_among name_of (name_of x) xs) && are_apart name_of xs
