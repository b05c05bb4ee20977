-- Satellite lines: RINEX 3.05, table A3, OBSERVATION record, A1,I2.2,m(F14.3,I1,I1).
use Rattle.std.specs.Prelude.{◌≡◌, ℕ, ℤ, true, ◌+◌, ◌*◌, List, [], ◌∷◌, Option, Some, None}
use Rattle.std.specs.Prelude.{Result, Ok, Err, drop, length, All}
use Rattle.std.specs.List.{list_all, concat}
use Rattle.std.specs.Option.{option_and_then}
use Rattle.crx_text.specs.meaning.Columns.{columns, character_at, is_blank}
use Rattle.crx_text.specs.meaning.Numbers.{observation_of, IsValue}
use Rattle.crx_text.specs.meaning.EachPlace.{each_place}
use Rattle.crx_rinex.specs.meaning.Observations.{Row}
use Rattle.crx_base.specs.declared.limits.TheConstants.{OBSERVATION_WIDTH, NAME_WIDTH, CELL_WIDTH}
use Rattle.crx_base.specs.declared.fault.Fault.{Fault}
use Rattle.crx_base.specs.declared.fault.Fault.TheVariants.{BadSatellite, BadField, BadFlags}
use Rattle.crx_text.specs.meaning.Texts.{is_kept}
use Rattle.crx_header.specs.meaning.InOrder.{◌otherwise◌next◌, ◌or_else◌with◌}
use Rattle.crx_header.specs.meaning.ObservationTypes.{Count, IsAllowedCount}
use Rattle.crx_header.specs.meaning.Satellites.{is_identifier, types_of_satellite}

-- the field of type k, from 0
abbrev pub field : List ℕ → ℕ → List ℕ
field line k = columns line (CELL_WIDTH * k + NAME_WIDTH + 1) OBSERVATION_WIDTH

-- all of the values, if each text spells one or is missing
abbrev pub all_some : List (Option (Option ℤ)) → Option (List (Option ℤ))
all_some [] = Some []
all_some (None ∷ rest) = None
all_some (Some value ∷ rest) = option_and_then (λ values. Some (value ∷ values)) (all_some rest)

-- the values of m types, if each field is a number or blank
abbrev pub values_in : ℕ → List ℕ → Option (List (Option ℤ))
values_in m line = all_some (each_place m (λ k. observation_of (field line k)))

-- the two indicators of type k, from 0: loss of lock and signal strength
abbrev pub flags_at : List ℕ → ℕ → List ℕ
flags_at line k = character_at line (CELL_WIDTH * k + (NAME_WIDTH + OBSERVATION_WIDTH + 1))
    ∷ character_at line (CELL_WIDTH * k + (NAME_WIDTH + OBSERVATION_WIDTH + 2)) ∷ []

-- the indicators of each of m types
abbrev pub flags_in : ℕ → List ℕ → List ℕ
flags_in m line = concat (each_place m (flags_at line))

-- a row of m types, or its first fault: a field that is no number, or text after the last cell; then an indicator
abbrev pub row_with : ℕ → List ℕ → Option (List (Option ℤ)) → Result Row Fault
row_with m line fields =
    fields or_else Err BadField with λ values.
    list_all is_blank (drop (CELL_WIDTH * m + NAME_WIDTH) line) otherwise Err BadField next
    list_all is_kept (flags_in m line) otherwise Err BadFlags next
    Ok (record { name = columns line 1 NAME_WIDTH; values = values; flags = flags_in m line })

abbrev pub row_of_types : List ℕ → Option ℕ → Result Row Fault
row_of_types line types =
    types or_else Err BadSatellite with λ m.
    row_with m line (values_in m line)

-- a satellite's row, or the first fault of its line
abbrev pub row_of : List Count → List ℕ → Result Row Fault
row_of types line = row_of_types line (types_of_satellite types line)

-- true of every row: its identifier has the form of one; the number of its values is allowed for the types of a
-- system, and each value is within its columns; and it has two indicators for each value, of the allowed
-- characters
pub record IsSoundRow (row : Row) : Type 0 where
  pub named : is_identifier row.name ≡ true
  pub counted : IsAllowedCount (length row.values)
  pub ranged : All IsValue row.values
  pub paired : length row.flags ≡ 2 * length row.values
  pub kept : list_all is_kept row.flags ≡ true

-- a row has a value for each of its system's types
abbrev pub HasItsTypes : List Count → Row → Type 0
HasItsTypes types row = types_of_satellite types row.name ≡ Some (length row.values)
