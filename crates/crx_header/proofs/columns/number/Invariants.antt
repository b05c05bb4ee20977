use Rattle.std.{proofs.Common.{◌≡◌, ◌<◌, drop}, specs.{Char.is_ascii_digit, List.list_all}}
use Rattle.std.specs.Str.Parse.{digits_value_after, digits_value}
use Rattle.crx_header.proofs.columns.number.Given as goal

-- the remaining digits decide, and continue the number so far, which has a digit for each one passed
abbrev pub invariant-loop-c : goal.invariant-loop-c
invariant-loop-c l =
    (list_all is_ascii_digit (drop l.c-index l.digits) ≡ list_all is_ascii_digit l.digits)
    × (digits_value_after 10 l.number (drop l.c-index l.digits) ≡ digits_value 10 l.digits)
    × (l.c-index < 1 → l.number < 1)
    × (l.c-index < 2 → l.number < 10) × (l.c-index < 3 → l.number < 100) × (l.number < 1000)
