-- In addition to meaning/SatelliteLines: how code and proofs see it.
use Rattle.std.specs.Prelude.{ℕ, ℤ, ◌≡◌, ◌≤◌, ◌+◌, ◌*◌, ◌-◌, ◌<◌, All, List, ◌++◌, Option, None, Some}
use Rattle.std.specs.Prelude.{Bool, Result, Ok, true}
use Rattle.std.specs.Prelude.{length, replicate, slice_set, take, drop}
use Rattle.std.specs.List.{list_all}
use Rattle.crx_text.specs.meaning.Columns.{columns, is_blank}
use Rattle.crx_text.specs.meaning.Texts.{is_kept}
use Rattle.crx_base.specs.declared.fault.Fault.{Fault}
use Rattle.crx_base.specs.declared.limits.TheConstants.{CELL_WIDTH, NAME_WIDTH, TYPES_LIMIT}
use Rattle.crx_rinex.specs.meaning.SatelliteLines.{flags_in, row_with, values_in}
use Rattle.crx_text.specs.meaning.Numbers.{IsValue}
use Rattle.crx_rinex.specs.meaning.Observations.{Row}

-- a row of m missing values with blank indicators
abbrev pub blank_row : List ℕ → ℕ → Row
blank_row name m = record { name = name; values = replicate m None; flags = replicate (2 * m) 32 }

-- a row with the value of type k, from 0, replaced
abbrev pub with_value : Row → ℕ → Option ℤ → Row
with_value row k value = record row { values = slice_set row.values k value }

-- a row with these indicators, the rest blank
abbrev pub with_flags : Row → List ℕ → Row
with_flags row flags = record row { flags = flags ++ replicate (2 * length row.values - length flags) 32 }

-- two indicators for each value, and no more values than a system may have types
abbrev pub ArePaired : List (Option ℤ) → List ℕ → Type 0
ArePaired values flags = (length flags ≡ 2 * length values) × (length values ≤ TYPES_LIMIT)

-- the values from `first` on are missing
abbrev pub AreMissingFrom : ℕ → List (Option ℤ) → Type 0
AreMissingFrom first values = (first ≤ length values) × (drop first values ≡ replicate (length values - first) None)

-- the cells from `first` on have no value, and blank indicators
pub record AreEmptyFrom (first : ℕ) (values : List (Option ℤ)) (flags : List ℕ) : Type 0 where
  pub pairs : ArePaired values flags
  pub within : first ≤ length values
  pub missing : drop first values ≡ replicate (length values - first) None
  pub blank : drop (2 * first) flags ≡ replicate (2 * (length values - first)) 32

-- cells that were empty from `first` on, or from any later one on, still are
abbrev pub KeepsEmptyFrom : ℕ → List (Option ℤ) → List ℕ → List (Option ℤ) → List ℕ → Type 0
KeepsEmptyFrom first values flags new_values new_flags =
    (n : ℕ) → first ≤ n → AreEmptyFrom n values flags → AreEmptyFrom n new_values new_flags

-- the first `count` cells of a line are read: their values, which fit their columns, and their indicators are
-- at their places
pub record AreCellsRead (count : ℕ) (line : List ℕ) (values : List (Option ℤ)) (flags : List ℕ) : Type 0 where
  pub pairs : ArePaired values flags
  pub within : count ≤ length values
  pub values_read : values_in count line ≡ Some (take count values)
  pub flags_read : take (2 * count) flags ≡ flags_in count line
  pub ranged : All IsValue (take count values)

-- if `is_seen`, the indicators of the first `count` cells are all allowed
abbrev pub AreSeen : Bool → ℕ → List ℕ → Type 0
AreSeen is_seen count flags = is_seen ≡ true → list_all is_kept (take (2 * count) flags) ≡ true

-- the first ones of the m cells of a line are read, the line reaches no other cell, and only blanks follow the
-- last of the m
pub record AreFirstRead (first m : ℕ) (line : List ℕ) (values : List (Option ℤ))
    (flags : List ℕ) : Type 0 where
  pub cells : AreCellsRead first line values flags
  pub within : first ≤ m
  pub ends : first < m → length line ≤ CELL_WIDTH * first + NAME_WIDTH
  pub ended : list_all is_blank (drop (CELL_WIDTH * m + NAME_WIDTH) line) ≡ true

-- the row that m cells of a line make, or its first fault
abbrev pub row_by_cells : ℕ → List ℕ → Result Row Fault
row_by_cells m line = row_with m line (values_in m line)

-- the values and the indicators of the row that m cells of a line make; each value fits its columns, and each
-- indicator is allowed
pub record IsRowOf (m : ℕ) (line : List ℕ) (values : List (Option ℤ)) (flags : List ℕ) : Type 0 where
  pub row : row_by_cells m line ≡ Ok (record {
    name = columns line 1 NAME_WIDTH;
    values = values;
    flags = flags;
  })
  pub ranged : All IsValue values
  pub kept : list_all is_kept flags ≡ true
