-- Reading the numbers of codes.
use Rattle.std.proofs.Common.{ℕ, ◌≡◌, ◌<◌, ◌≤◌, List, length, Some, None, if◌then◌else◌, arith}
use Rattle.std.specs.Str.{all_ascii_digits, Parse.{digits_value_after, starts_with_minus}}
use Rattle.crx_text.specs.meaning.{Codes.coded_number, Numbers.{signed_number, without_minus}}
use Rattle.crx_base.specs.declared.limits.TheConstants.{DIGITS_LIMIT}

-- if the count fits, the digits decide
pub coded_number_fitting : (text digits : List ℕ)
    → digits ≡ without_minus text → 0 < length digits → length digits ≤ DIGITS_LIMIT →
    coded_number text ≡ (if all_ascii_digits digits
    then Some (signed_number (starts_with_minus text) (digits_value_after 10 0 digits)) else None)
unfolding coded_number
coded_number_fitting text digits is some few = grind arith
