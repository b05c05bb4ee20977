-- In addition to meaning/Codes: how code and proofs see it.
use Rattle.std.specs.Prelude.{ℕ, ℤ, ◌&&◌, ◌<◌, ◌≤◌, ◌^◌, ⊤, unsigned_abs, if◌then◌else◌, List, length, Option, Some}
use Rattle.std.specs.Prelude.{None}
use Rattle.std.specs.Str.{all_ascii_digits}
use Rattle.std.specs.Str.Parse.{digits_value}
use Rattle.crx_text.specs.declared.code.Code.{Code}
use Rattle.crx_text.specs.declared.code.Code.TheVariants.{Missing, Start, Step}
use Rattle.crx_base.specs.declared.limits.TheConstants.{ORDER_LIMIT, DIGITS_LIMIT}
use Rattle.crx_text.specs.meaning.Codes.{is_count_of_digits}

-- ---- printing

-- a number of not too many digits
abbrev pub IsShort : ℤ → Type 0
IsShort number = unsigned_abs number < 10 ^ DIGITS_LIMIT

-- a code whose order and number are within the limits
abbrev pub IsPrintable : Code → Type 0
IsPrintable Missing = ⊤
IsPrintable (Start order value) = (order ≤ ORDER_LIMIT) × IsShort value
IsPrintable (Step difference) = IsShort difference

-- ---- reading

-- the number that at least one digit, but not too many, make
abbrev pub counted_digits : List ℕ → Option ℕ
counted_digits digits = if is_count_of_digits (length digits)
    && all_ascii_digits digits then Some (digits_value 10 digits) else None
