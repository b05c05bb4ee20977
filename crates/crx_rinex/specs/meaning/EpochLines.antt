-- Epoch lines: RINEX 3.05, table A3, EPOCH record.
use Rattle.std.specs.Prelude.{◌≡◌, ◌≤◌, ◌+◌, ℕ, ℤ, length, ◌-◌, List, Option, Some}
use Rattle.std.specs.Prelude.{Result, Ok, Err, if◌then◌else◌, drop}
use Rattle.std.specs.List.{list_all}
use Rattle.crx_text.specs.meaning.Columns.{columns, character_at, is_blank}
use Rattle.crx_text.specs.meaning.Numbers.{clock_of, IsMissingOrWithin}
use Rattle.crx_base.specs.declared.limits.TheConstants.{SATELLITES_LIMIT, HEAD_WIDTH, CLOCK_WIDTH}
use Rattle.crx_base.specs.declared.fault.Fault.{Fault}
use Rattle.crx_base.specs.declared.fault.Fault.TheVariants.{NotAnEpoch, BadEpoch, BadClock}
use Rattle.crx_header.specs.meaning.InOrder.{◌otherwise◌next◌, ◌or_else◌with◌}
use Rattle.crx_header.specs.meaning.EpochColumns.{begins_epoch, is_event_flag, records_in, epoch_count}

-- the meaning of a line that begins with >: an event with its flag and the count of its records, or an
-- observation epoch with columns 1 to 41, the count of its satellites, and the receiver clock offset
pub data HeadLine : Type 0 where
  EventHead : ℕ → ℕ → HeadLine
  EpochHead : List ℕ → ℕ → Option ℤ → HeadLine

abbrev pub event_head : ℕ → Option ℕ → Result HeadLine Fault
event_head flag records =
    records or_else Err BadEpoch with λ count.
    Ok (EventHead (flag - 48) count)

-- an observation epoch's line: columns 1 to 41 announce a count, only blanks follow column 56, and columns 42
-- to 56 have the clock
abbrev pub epoch_head : List ℕ → Option ℕ → Result HeadLine Fault
epoch_head line satellites =
    satellites or_else Err BadEpoch with λ count.
    list_all is_blank (drop (HEAD_WIDTH + CLOCK_WIDTH) line) otherwise Err BadEpoch next
    clock_of (columns line (HEAD_WIDTH + 1) CLOCK_WIDTH) or_else Err BadClock with λ clock.
    Ok (EpochHead (columns line 1 HEAD_WIDTH) count clock)

-- the meaning of a line where an epoch may begin, or its first fault: no >, then the flag, the count and the
-- columns, then the clock
abbrev pub head_of : List ℕ → Result HeadLine Fault
head_of line =
    begins_epoch line otherwise Err NotAnEpoch next
    if is_event_flag (character_at line 32) then event_head (character_at line 32) (records_in line)
    else epoch_head line (epoch_count (columns line 1 HEAD_WIDTH))

-- an observation epoch's line: columns 1 to 41, the count of satellites that they announce, and the receiver clock
-- offset
pub record ObservationHead : Type 0 where
  pub head : List ℕ
  pub count : ℕ
  pub clock : Option ℤ

-- a clock that fits its columns, or none
abbrev pub IsClockOffset : Option ℤ → Type 0
IsClockOffset clock = IsMissingOrWithin CLOCK_WIDTH clock

-- true of every observation epoch's line: its columns are those of one, and its clock fits its columns
pub record IsObservationHead (line : ObservationHead) : Type 0 where
  pub width : length line.head ≡ HEAD_WIDTH
  pub counted : epoch_count line.head ≡ Some line.count
  pub within : line.count ≤ SATELLITES_LIMIT
  pub ranged : IsClockOffset line.clock
