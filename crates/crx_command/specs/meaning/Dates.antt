-- The date in the second line of Compact RINEX 3.0, as `01-Jan-24 00:00`.
use Rattle.std.specs.Prelude.{◌≡◌, ◌⊎◌, ℕ, ℤ, ◌+◌, ◌-◌, ◌/◌, ◌%◌, List, [], ◌∷◌, ◌++◌, codes, unsigned_abs}
use Rattle.std.specs.Prelude.{Option, None, Some}
use Rattle.std.specs.List.{slice_index_or}
use Rattle.jiff.specs.Words.{civil_nanos}
use Rattle.jiff.specs.Types.{DateTime}
use Rattle.jiff.specs.declared.timestamp.Timestamp.{Timestamp}

abbrev pub months : List (List ℕ)
months = codes "Jan" ∷ codes "Feb" ∷ codes "Mar" ∷ codes "Apr" ∷ codes "May" ∷ codes "Jun"
    ∷ codes "Jul" ∷ codes "Aug" ∷ codes "Sep" ∷ codes "Oct" ∷ codes "Nov" ∷ codes "Dec" ∷ []

-- a number below 100, in two digits
abbrev pub two_digits : ℕ → List ℕ
two_digits n = (48 + n / 10) ∷ (48 + n % 10) ∷ []

-- the day, the month's name and the year's last two digits, without its sign; the hour and the minute
abbrev pub date_text_of : DateTime → List ℕ
date_text_of at = two_digits at.date.day ++ (codes "-" ++ (slice_index_or months (at.date.month - 1) [] ++ (codes "-"
    ++ (two_digits (unsigned_abs at.date.year % 100)
    ++ (codes " " ++ (two_digits at.time.hour ++ (codes ":" ++ two_digits at.time.minute)))))))

-- the date that a clock in UTC shows this number of nanoseconds after 1970 began (before it, if the number is
-- negative)
abbrev pub IsDateText : ℤ → List ℕ → Type 0
IsDateText nanoseconds text = (at : DateTime) × (civil_nanos at ≡ nanoseconds) × (text ≡ date_text_of at)

-- the date of the clock's moment, or none if it gave none
abbrev pub IsDateOf : Option Timestamp → List ℕ → Type 0
IsDateOf None date = date ≡ []
IsDateOf (Some moment) date = IsDateText moment.nanosecond date

-- the date of a run that has none among its arguments: the moment's, or none if no clock gives one
abbrev pub IsDefaultDate : List ℕ → Type 0
IsDefaultDate text = (text ≡ []) ⊎ ((nanoseconds : ℤ) × IsDateText nanoseconds text)
