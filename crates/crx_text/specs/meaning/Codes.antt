-- Coded values of numbers, called codes here: Hatanaka's Compact RINEX 3.0, the codes of satellite lines and
-- of the clock line.
use Rattle.std.specs.Prelude.{ℕ, ℤ, Bool, ◌&&◌, ◌-◌, ◌==◌, nat_lt, nat_le, if◌then◌else◌, List, [], ◌∷◌, ◌++◌, length}
use Rattle.std.specs.Prelude.{Option, Some, None, decimal}
use Rattle.std.specs.Fmt.{signed_decimal}
use Rattle.std.specs.Option.{option_map}
use Rattle.std.specs.Str.{all_ascii_digits}
use Rattle.std.specs.Char.{is_ascii_digit}
use Rattle.std.specs.Str.Parse.{digits_value, starts_with_minus}
use Rattle.crx_text.specs.meaning.Columns.{is_blank}
use Rattle.crx_text.specs.meaning.Numbers.{without_minus, signed_number}
use Rattle.crx_text.specs.declared.code.Code.{Code}
use Rattle.crx_text.specs.declared.code.Code.TheVariants.{Missing, Start, Step}
use Rattle.crx_base.specs.declared.limits.TheConstants.{ORDER_LIMIT, DIGITS_LIMIT}

-- ---- printing

-- a code's one printed text: no leading zeros, and no minus before 0; & follows an order
abbrev pub code_text : Code → List ℕ
code_text Missing = []
code_text (Start order value) = decimal order ++ 38 ∷ signed_decimal value
code_text (Step difference) = signed_decimal difference

-- ---- reading

-- whether a number may have `count` digits
abbrev pub is_count_of_digits : ℕ → Bool
is_count_of_digits count = nat_lt 0 count && nat_le count DIGITS_LIMIT

-- an optional minus and one digit or more, but not too many; -0 is 0, and leading zeros are read
unfoldable pub coded_number : List ℕ → Option ℤ
coded_number text =
    let digits = without_minus text in
    if is_count_of_digits (length digits) && all_ascii_digits digits
    then Some (signed_number (starts_with_minus text) (digits_value 10 digits))
    else None

-- one digit up to the highest order
abbrev pub is_order : ℕ → Bool
is_order c = is_ascii_digit c && nat_le (c - 48) ORDER_LIMIT

-- the first value of an arc, after the character of its order
abbrev pub start_of : ℕ → List ℕ → Option Code
start_of c text = if is_order c then option_map (Start (c - 48)) (coded_number text) else None

-- a next difference
abbrev pub step_of : List ℕ → Option Code
step_of text = option_map Step (coded_number text)

-- the code that a text spells: a missing value if it is empty; an order, & and a number for an arc's first
-- value; a number for the next difference; `None` for any other text
abbrev pub code_of : List ℕ → Option Code
code_of [] = Some Missing
code_of (c ∷ []) = step_of (c ∷ [])
code_of (c ∷ d ∷ cs) = if d == 38 then start_of c cs else step_of (c ∷ d ∷ cs)

-- ---- codes one after another in a line, each with a blank after it

-- the text before a line's first blank
abbrev pub first_cell : List ℕ → List ℕ
first_cell [] = []
first_cell (c ∷ cs) = if is_blank c then [] else c ∷ first_cell cs

-- the text after a line's first blank
abbrev pub after_cell : List ℕ → List ℕ
after_cell [] = []
after_cell (c ∷ cs) = if is_blank c then cs else after_cell cs
