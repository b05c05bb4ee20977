use Rattle.std.{proofs.Common.{◌≡◌, ◌+◌, ◌-◌, ◌*◌, ◌≤◌, ◌^◌, length, drop}, specs.Str.all_ascii_digits}
use Rattle.std.specs.Str.Parse.{digits_value_after}
use Rattle.crx_text.proofs.digits.digits_read.Given as goal

-- the remaining digits decide, and continue the number so far
abbrev pub invariant-loop-digit : goal.invariant-loop-digit
invariant-loop-digit l =
    (all_ascii_digits (drop l.digit-index l.digits) ≡ all_ascii_digits l.digits)
    × (digits_value_after 10 l.size (drop l.digit-index l.digits) ≡ digits_value_after 10 l.before l.digits)
    × ((l.size + 1) * 10 ^ (length l.digits - l.digit-index) ≤ (l.before + 1) * 10 ^ length l.digits)
