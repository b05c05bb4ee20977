use Rattle.std.proofs.Common.{arith, get_or, ◌-◌, ◌*◌, ◌+◌, ℕ}
use Rattle.std.specs.Int.Count.{count_leading_zeros}
use Rattle.crx_text.proofs.DigitCounts.{digits_counted, has_bits, row_at, text_counted}
use Rattle.crx_text.specs.declared.field_text.TheConstants.{COUNTS}
use Rattle.crx_text.proofs.field_text.count_digits.Goals as goal

pub overflow_sub-result : goal.overflow_sub-result
overflow_sub-result c = (has_bits c.args.size c.requires.short).0

pub offset_bounds-zeros : goal.offset_bounds-zeros
offset_bounds-zeros c = omega (arith, (has_bits c.args.size c.requires.short).1)

pub bounds-zeros : goal.bounds-zeros
bounds-zeros c = (has_bits c.args.size c.requires.short).1

pub overflow_add-result : goal.overflow_add-result
overflow_add-result c =
    let row = row_at _ (has_bits c.args.size c.requires.short).1 in
    omega (arith, row.few, c.requires.short)

pub returns : goal.returns
returns c =
    let has = has_bits c.args.size c.requires.short in
    let row : ℕ = count_leading_zeros 64 (2 * c.args.size + 1) - 23 in
    record {
      counted = text_counted c.args.size _ c.requires.short
          (digits_counted c.args.size (40 - row) (get_or COUNTS row 0) c.requires.short has.2 has.3
          (row_at row has.1));
    }
