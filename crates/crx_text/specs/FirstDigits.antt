-- The digits that begin a cell, read one after another.
use Rattle.std.specs.Prelude.{ℕ, Bool, false, ◌≡◌, ◌+◌, ◌<◌, ◌≤◌, ◌^◌, nat_lt, List, length, drop, slice_index, Option}
use Rattle.std.specs.Prelude.{None, Some, MatchOption}
use Rattle.std.specs.Char.{is_ascii_digit}
use Rattle.std.specs.Str.{all_ascii_digits}
use Rattle.std.specs.Str.Parse.{digits_value, digits_value_after}
use Rattle.crx_text.specs.Codes.{counted_digits}
use Rattle.crx_text.specs.meaning.Codes.{after_cell, first_cell}
use Rattle.crx_base.specs.declared.limits.TheConstants.{DIGITS_LIMIT}

-- a size and a count of digits at the beginning of a cell: all its digits continue them, and the character
-- after them is no digit, or they are too many
pub record HasFirstDigits (text : List ℕ) (size count : ℕ) : Type 0 where
  pub few : count ≤ DIGITS_LIMIT + 1
  pub within : count ≤ length text
  pub small : size < 10 ^ count
  pub digits : all_ascii_digits (first_cell (drop count text)) ≡ all_ascii_digits (first_cell text)
  pub value : digits_value_after 10 size (first_cell (drop count text)) ≡ digits_value 10 (first_cell text)
  pub long : length (first_cell text) ≡ count + length (first_cell (drop count text))
  pub after : after_cell (drop count text) ≡ after_cell text
  pub stops : count ≤ DIGITS_LIMIT → count < length text → is_ascii_digit (slice_index text count) ≡ false

-- ---- in a row of lanes

abbrev pub is_below_ten : ℕ → Bool
is_below_ten number = nat_lt number 10

-- the number of the digits before a text's first blank, or before its end, and the index after that blank, or
-- of the end
pub record IsDigitsCell (text : List ℕ) (cell : ℕ × ℕ) : Type 0 where
  pub value : counted_digits (first_cell text) ≡ Some cell.0
  pub next : drop cell.1 text ≡ after_cell text
  pub small : cell.0 < 10 ^ DIGITS_LIMIT
  pub within : cell.1 ≤ length text

-- they were read, or they make no number
abbrev pub ReadsDigits : List ℕ → Option (ℕ × ℕ) → Type 0
ReadsDigits text result =
    MatchOption result (counted_digits (first_cell text) ≡ None) (IsDigitsCell text)
