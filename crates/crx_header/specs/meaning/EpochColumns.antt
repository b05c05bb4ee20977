-- The columns of an epoch line before the clock: RINEX 3.05, table A3, EPOCH record.
use Rattle.std.specs.Prelude.{ℕ, Bool, ◌||◌, ◌&&◌, List, ◌==◌, Option, Some, None, if◌then◌else◌, nat_le, unwrap_or}
use Rattle.std.specs.List.{list_all}
use Rattle.std.specs.Option.{option_and_then}
use Rattle.crx_text.specs.meaning.Columns.{columns, character_at, is_blank}
use Rattle.crx_text.specs.meaning.Texts.{is_kept}
use Rattle.crx_base.specs.declared.limits.TheConstants.{SATELLITES_LIMIT}
use Rattle.crx_header.specs.meaning.Label.{number_in}

-- whether a line begins with >, as an epoch line does
abbrev pub begins_epoch : List ℕ → Bool
begins_epoch line = character_at line 1 == 62

-- the flag's digit in column 32: 2 to 5 are events, and 6 (cycle slip records) is read as one
abbrev pub is_event_flag : ℕ → Bool
is_event_flag flag = nat_le 50 flag && nat_le flag 54

-- the flags of observations: 0 good, 1 a power failure before
abbrev pub is_observation_flag : ℕ → Bool
is_observation_flag flag = (flag == 48) || (flag == 49)

-- whether a line begins an event
abbrev pub is_event_line : List ℕ → Bool
is_event_line line = begins_epoch line && is_event_flag (character_at line 32)

-- the count of an event's records in columns 33 to 35; blanks count 0
abbrev pub records_in : List ℕ → Option ℕ
records_in line = if list_all is_blank (columns line 33 3) then Some 0 else number_in (columns line 33 3)

abbrev pub count_within_limit : ℕ → Option ℕ
count_within_limit count = if nat_le count SATELLITES_LIMIT then Some count else None

-- the count of an observation epoch's satellites in columns 33 to 35
abbrev pub satellites_in : List ℕ → Option ℕ
satellites_in line = option_and_then count_within_limit (number_in (columns line 33 3))

-- the count that columns 1 to 41 announce if they are those of an observation epoch: >, a flag of 0 or 1, a
-- count, and only allowed characters
abbrev pub epoch_count : List ℕ → Option ℕ
epoch_count head = if begins_epoch head
    && is_observation_flag (character_at head 32) && list_all is_kept head then satellites_in head else None

-- how many satellites columns 1 to 41 announce
abbrev pub satellites_of : List ℕ → ℕ
satellites_of head = unwrap_or (epoch_count head) 0
