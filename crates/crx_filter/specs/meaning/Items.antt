-- The items read from a file so far, and their consequences for the next line: RINEX 3.05, sections 5 and 6. Lists of
-- items have the newest first. E is the data of an observation epoch.
use Rattle.std.specs.Prelude.{ℕ, Bool, true, false, ◌||◌, ◌&&◌, ◌-◌, List, [], ◌∷◌, ◌++◌, if◌then◌else◌, nat_le}
use Rattle.std.specs.Prelude.{unwrap_or}
use Rattle.crx_base.specs.declared.fault.At.{At}
use Rattle.crx_text.specs.meaning.Columns.{character_at}
use Rattle.crx_rinex.specs.meaning.Units.{Unit, HeaderLine, EventLine, EventRecord, Observation}
use Rattle.crx_header.specs.meaning.Header.{is_end_of_header}
use Rattle.crx_header.specs.meaning.EpochColumns.{records_in}
use Rattle.crx_header.specs.meaning.ObservationTypes.{Count, types_of}

-- an accepted unit, or a warning instead of one
pub data Item (E : Type 0) : Type 0 where
  Accepted : Unit E → Item E
  Warned : At → Item E

-- whether nothing has been read yet
abbrev pub is_at_start : {E : Type 0} → List (Item E) → Bool
is_at_start [] = true
is_at_start (item ∷ before) = false

-- whether an item is the header's last line
abbrev pub ends_header : {E : Type 0} → Item E → Bool
ends_header (Accepted (HeaderLine line)) = is_end_of_header line
ends_header (Accepted (EventLine line)) = false
ends_header (Accepted (EventRecord line)) = false
ends_header (Accepted (Observation epoch)) = false
ends_header (Warned at) = false

-- whether the header has ended
abbrev pub header_has_ended : {E : Type 0} → List (Item E) → Bool
header_has_ended [] = false
header_has_ended (item ∷ before) = ends_header item || header_has_ended before

-- how many records an event's first line announces
abbrev pub records_announced : List ℕ → ℕ
records_announced line = unwrap_or (records_in line) 0

-- how many records of the last event are still to be read
abbrev pub records_left : {E : Type 0} → List (Item E) → ℕ
records_left [] = 0
records_left (Accepted (HeaderLine line) ∷ before) = 0
records_left (Accepted (EventLine line) ∷ before) = records_announced line
records_left (Accepted (EventRecord line) ∷ before) = records_left before - 1
records_left (Accepted (Observation epoch) ∷ before) = 0
records_left (Warned at ∷ before) = 0

-- whether types lines count among an event's records: they do for flags 2 to 5, and not for cycle slip records (flag
-- 6)
abbrev pub counts_types : List ℕ → Bool
counts_types event = nat_le 50 (character_at event 32) && nat_le (character_at event 32) 53

-- whether types lines count among the records that are read now
abbrev pub records_count_types : {E : Type 0} → List (Item E) → Bool
records_count_types [] = false
records_count_types (Accepted (HeaderLine line) ∷ before) = false
records_count_types (Accepted (EventLine line) ∷ before) = counts_types line
records_count_types (Accepted (EventRecord line) ∷ before) = records_count_types before
records_count_types (Accepted (Observation epoch) ∷ before) = false
records_count_types (Warned at ∷ before) = false

-- the lines that may declare observation types, in the order of the file
abbrev pub declaring_lines : {E : Type 0} → List (Item E) → List (List ℕ)
declaring_lines [] = []
declaring_lines (Accepted (HeaderLine line) ∷ before) = declaring_lines before ++ line ∷ []
declaring_lines (Accepted (EventLine line) ∷ before) = declaring_lines before
declaring_lines (Accepted (EventRecord line) ∷ before) =
    if records_count_types before then declaring_lines before ++ line ∷ [] else declaring_lines before
declaring_lines (Accepted (Observation epoch) ∷ before) = declaring_lines before
declaring_lines (Warned at ∷ before) = declaring_lines before

-- the observation types in force
abbrev pub types_in_force : {E : Type 0} → List (Item E) → List Count
types_in_force items = types_of (declaring_lines items)
