-- The observation types of the satellite systems: RINEX 3.05, table A2, SYS / # / OBS TYPES.
use Rattle.std.specs.Prelude.{ℕ, Bool, ◌≤◌, ◌&&◌, List, [], ◌∷◌, ◌==◌, Option, Some, None, if◌then◌else◌, nat_le}
use Rattle.std.specs.Prelude.{is_none, not, filter, codes}
use Rattle.std.specs.List.{filter_map, list_any}
use Rattle.std.specs.Option.{option_and_then}
use Rattle.crx_text.specs.meaning.Columns.{columns, character_at, is_blank}
use Rattle.crx_base.specs.declared.limits.TheConstants.{TYPES_LIMIT}
use Rattle.crx_header.specs.declared.labels.TheConstants.{TYPES_LABEL}
use Rattle.crx_header.specs.meaning.Label.{has_label, number_in}

-- the letters of the systems: GPS, GLONASS, Galileo, QZSS, BDS, NavIC/IRNSS, SBAS
abbrev pub system_letters : List ℕ
system_letters = codes "GREJCIS"

abbrev pub is_system : ℕ → Bool
is_system letter = list_any (λ c. c == letter) system_letters

-- a line that begins the list of a system's types; if column 1 is blank, it continues a list and declares no
-- count
abbrev pub is_types_line : List ℕ → Bool
is_types_line line = has_label TYPES_LABEL line && not (is_blank (character_at line 1))

-- a system's letter and how many types it has
abbrev pub Count : Type 0
Count = ℕ × ℕ

-- the count that a types line declares: the letter in column 1, and the number in columns 4 to 6, from 1 to the
-- limit
abbrev pub count_if_allowed : ℕ → ℕ → Option Count
count_if_allowed letter count =
    if is_system letter && (nat_le 1 count && nat_le count TYPES_LIMIT) then Some (letter, count) else None

abbrev pub count_in : List ℕ → Option Count
count_in line = option_and_then (count_if_allowed (character_at line 1)) (number_in (columns line 4 3))

-- the counts that the types lines among some lines declare, in order
abbrev pub count_of_types_line : List ℕ → Option Count
count_of_types_line line = if is_types_line line then count_in line else None

abbrev pub counts_in : List (List ℕ) → List Count
counts_in lines = filter_map count_of_types_line lines

-- the last count of a letter in a list, or `count` if the letter isn't in it
abbrev pub last_count : ℕ → ℕ → List Count → ℕ
last_count letter count [] = count
last_count letter count (c ∷ cs) = if c.0 == letter then last_count letter c.1 cs else last_count letter count cs

-- the counts of the other letters
abbrev pub without : ℕ → List Count → List Count
without letter counts = filter (λ c. not (c.0 == letter)) counts

-- each letter at its first appearance, with its last count
abbrev pub last_counts : List Count → List Count
last_counts [] = []
last_counts (c ∷ cs) = (c.0, last_count c.0 c.1 cs) ∷ without c.0 (last_counts cs)

-- the types that lines declare: the letters in order of first appearance, each with the count of its last types line
abbrev pub types_of : List (List ℕ) → List Count
types_of lines = last_counts (counts_in lines)

-- how many types a system has
abbrev pub count_of : List Count → ℕ → Option ℕ
count_of [] letter = None
count_of (c ∷ cs) letter = if c.0 == letter then Some c.1 else count_of cs letter

-- a types line whose letter belongs to no system, or whose count isn't allowed
abbrev pub is_bad_types_line : List ℕ → Bool
is_bad_types_line line = is_types_line line && is_none (count_in line)

-- a count is never zero, nor above the limit
abbrev pub IsAllowedCount : ℕ → Type 0
IsAllowedCount count = (1 ≤ count) × (count ≤ TYPES_LIMIT)
