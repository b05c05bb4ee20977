use Rattle.std.{proofs.Common.{◌≡◌, ◌+◌, ◌-◌, ◌<◌, ◌≤◌, ◌^◌, length, drop}, specs.Str.all_ascii_digits}
use Rattle.std.specs.Str.Parse.{digits_value_after}
use Rattle.crx_text.specs.meaning.Codes.{after_cell, first_cell}
use Rattle.crx_base.specs.declared.limits.TheConstants.{DIGITS_LIMIT}
use Rattle.crx_text.proofs.code_digits.first_digits.Given as goal

-- the rest of the cell decides, and continues the number so far
abbrev pub invariant-loop-count : goal.invariant-loop-count
invariant-loop-count l = record {
  few : l.count ≤ DIGITS_LIMIT + 1;
  within : l.count ≤ length l.text;
  small : l.size < 10 ^ l.count;
  digits : all_ascii_digits (first_cell (drop l.count l.text)) ≡ all_ascii_digits (first_cell l.text);
  value : digits_value_after 10 l.size (first_cell (drop l.count l.text))
      ≡ digits_value_after 10 0 (first_cell l.text);
  long : length (first_cell l.text) ≡ l.count + length (first_cell (drop l.count l.text));
  after : after_cell (drop l.count l.text) ≡ after_cell l.text;
}

abbrev pub decreases-loop-count : goal.decreases-loop-count
decreases-loop-count l = length l.text - l.count
