-- Numbers in columns: RINEX 3.05, table A3, an observation in format F14.3 (in thousandths) and the receiver
-- clock offset in format F15.12 (in units of 10^-12 s). A number is an integer here: its digits without the
-- point.
use Rattle.std.specs.Prelude.{ℕ, ℤ, pos, negsuc, neg_ℤ, Bool, ◌&&◌, ◌<ℤ◌, ◌+◌, ◌-◌, ◌/◌, ◌%◌, ◌^◌, ◌==◌, nat_lt}
use Rattle.std.specs.Prelude.{if◌then◌else◌, List, [], ◌∷◌, ◌++◌, length, take, drop, replicate, slice_index, Option}
use Rattle.std.specs.Prelude.{Some, None, IfSome, decimal}
use Rattle.std.specs.Option.{option_map}
use Rattle.std.specs.Str.{all_ascii_digits}
use Rattle.std.specs.Str.Parse.{digits_value, starts_with_minus}
use Rattle.crx_text.specs.meaning.Columns.{without_first_blanks}
use Rattle.crx_base.specs.declared.limits.TheConstants.{OBSERVATION_WIDTH, OBSERVATION_DECIMALS, CLOCK_WIDTH}
use Rattle.crx_base.specs.declared.limits.TheConstants.{CLOCK_DECIMALS}

-- ---- reading

-- a text without the minus that it begins with, if any
abbrev pub without_minus : List ℕ → List ℕ
without_minus [] = []
without_minus (c ∷ cs) = if c == 45 then cs else c ∷ cs

-- a number of this size, below zero if it has a minus; so -0 is 0
abbrev pub signed_number : Bool → ℕ → ℤ
signed_number is_below size = if is_below then neg_ℤ (pos size) else pos size

-- any number of digits, a point, and exactly `decimals` digits: the number that all these digits make
unfoldable pub size_of : ℕ → List ℕ → Option ℕ
size_of decimals text =
    let point = length text - (decimals + 1) in
    let whole = take point text in
    let fraction = drop (point + 1) text in
    if nat_lt decimals (length text)
    && slice_index text point == 46 && all_ascii_digits whole && all_ascii_digits fraction
    then Some (digits_value 10 (whole ++ fraction))
    else None

-- an optional minus before that
abbrev pub decimal_number : ℕ → List ℕ → Option ℤ
decimal_number decimals text =
    option_map (signed_number (starts_with_minus text)) (size_of decimals (without_minus text))

-- the number that a text spells after its blanks: the empty text is a missing number
abbrev pub missing_or_number : ℕ → List ℕ → Option (Option ℤ)
missing_or_number decimals [] = Some None
missing_or_number decimals (c ∷ cs) = option_map Some (decimal_number decimals (c ∷ cs))

-- the number that a text of `width` columns spells, after blanks and up to the last column: `None` if it
-- spells none, and `Some None` if it is blank, so that the number is missing
unfoldable pub number_of : ℕ → ℕ → List ℕ → Option (Option ℤ)
number_of width decimals text =
    if length text == width then missing_or_number decimals (without_first_blanks text) else None

-- an observation, in thousandths
abbrev pub observation_of : List ℕ → Option (Option ℤ)
observation_of text = number_of OBSERVATION_WIDTH OBSERVATION_DECIMALS text

-- a receiver clock offset, in units of 10^-12 seconds
abbrev pub clock_of : List ℕ → Option (Option ℤ)
clock_of text = number_of CLOCK_WIDTH CLOCK_DECIMALS text

-- ---- range

-- a number that fits `width` columns: the point takes one of them, and a minus another
pub record IsWithin (width : ℕ) (number : ℤ) : Type 0 where
  pub low : neg_ℤ (pos (10 ^ (width - 2))) <ℤ number
  pub high : number <ℤ pos (10 ^ (width - 1))

-- a number that is missing or fits `width` columns
abbrev pub IsMissingOrWithin : ℕ → Option ℤ → Type 0
IsMissingOrWithin width number = IfSome number (IsWithin width)

-- an observation that fits its columns, or none
abbrev pub IsValue : Option ℤ → Type 0
IsValue value = IsMissingOrWithin OBSERVATION_WIDTH value

-- ---- printing

-- a number's digits, with zeros before them up to `digits` digits
abbrev pub zero_padded : ℕ → ℕ → List ℕ
zero_padded digits number = replicate (digits - length (decimal number)) 48 ++ decimal number

-- at least one digit, no other leading zero, then the point and `decimals` digits
abbrev pub size_text : ℕ → ℕ → List ℕ
size_text decimals size = decimal (size / 10 ^ decimals) ++ 46 ∷ zero_padded decimals (size % 10 ^ decimals)

-- a minus directly before the digits if the number is below zero
abbrev pub spelling : ℕ → ℤ → List ℕ
spelling decimals (pos size) = size_text decimals size
spelling decimals (negsuc less) = 45 ∷ size_text decimals (less + 1)

-- a text with blanks before it, up to `width` columns
abbrev pub right_justified : ℕ → List ℕ → List ℕ
right_justified width text = replicate (width - length text) 32 ++ text

-- the one text that is printed in `width` columns; a missing number is printed as blanks
unfoldable pub number_text : ℕ → ℕ → Option ℤ → List ℕ
number_text width decimals None = replicate width 32
number_text width decimals (Some number) = right_justified width (spelling decimals number)

abbrev pub observation_text : Option ℤ → List ℕ
observation_text value = number_text OBSERVATION_WIDTH OBSERVATION_DECIMALS value

abbrev pub clock_text : Option ℤ → List ℕ
clock_text value = number_text CLOCK_WIDTH CLOCK_DECIMALS value
