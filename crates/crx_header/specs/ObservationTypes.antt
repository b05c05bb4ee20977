-- In addition to meaning/ObservationTypes: how code and proofs see it.
use Rattle.std.specs.Prelude.{ℕ, Bool, true, ◌≡◌, ◌≤◌, ◌+◌, ◌⊎◌, length, All, ◌&&◌, List, [], ◌∷◌, ◌==◌, Option, Some, None, if◌then◌else◌}
use Rattle.std.specs.Prelude.{is_none, ◌<◌, get_or, unwrap_or}
use Rattle.crx_header.specs.declared.types.TheConstants.{LETTERS, SYSTEMS}
use Rattle.crx_header.specs.meaning.ObservationTypes.{is_system, Count, count_of_types_line, count_of, IsAllowedCount}

-- the counts with a letter's new count: in the letter's place, or after the others if the letter is new
abbrev pub with_count : List Count → ℕ → ℕ → List Count
with_count [] letter count = (letter, count) ∷ []
with_count (c ∷ cs) letter count = if letter == c.0 then (c.0, count) ∷ cs else c ∷ with_count cs letter count

abbrev pub after_count : List Count → Option Count → List Count
after_count counts None = counts
after_count counts (Some c) = with_count counts c.0 c.1

-- the counts after an accepted line: a line that isn't a types line changes nothing
abbrev pub with_line : List Count → List ℕ → List Count
with_line counts line = after_count counts (count_of_types_line line)

abbrev pub IsCount : Count → Type 0
IsCount c = (is_system c.0 ≡ true) × IsAllowedCount c.1

-- whether no letter is in the list twice
abbrev pub letters_differ : List Count → Bool
letters_differ [] = true
letters_differ (c ∷ cs) = is_none (count_of cs c.0) && letters_differ cs

-- counts that types lines declare: each allowed and of a system, and no system twice
pub record AreCounts (counts : List Count) : Type 0 where
  pub allowed : All IsCount counts
  pub apart : letters_differ counts ≡ true

-- a table has the count of each letter at the letter's place, and 0 if the letter has no count
abbrev pub AreByLetter : List ℕ → List Count → Type 0
AreByLetter table counts = (letter : ℕ) → letter < LETTERS → get_or table letter 0 ≡ unwrap_or (count_of counts letter) 0

-- `spare` more counts can be added without reserving memory: all systems, once one has types
abbrev pub HasSystemRoom : List Count → ℕ → Type 0
HasSystemRoom counts spare = (counts ≡ []) ⊎ (SYSTEMS ≤ length counts + spare)
