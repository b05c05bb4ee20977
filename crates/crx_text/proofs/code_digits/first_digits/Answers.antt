use Rattle.std.proofs.Common.{get_or, arith, sym, ◌∙◌}
use Rattle.crx_text.proofs.PowersOfTen.{digit_range, small_number}
use Rattle.crx_text.proofs.code_digits.first_digits.Goals as goal

pub overflow_mul-size : goal.overflow_mul-size
overflow_mul-size c =
    let small = small_number _ _ 18
    (omega (arith, c.loop-count-test.true, c.min-limit.ensures)) c.loop-count.invariant.small in
    omega (arith, small)

pub overflow_add-size : goal.overflow_add-size
overflow_add-size c =
    let small = small_number _ _ 18
    (omega (arith, c.loop-count-test.true, c.min-limit.ensures)) c.loop-count.invariant.small in
    let range = digit_range (get_or c.args.text.now c.loop-count.count 0)
    (sym c.is_ascii_digit.ensures.value ∙ c.if-not-is_ascii_digit.false) in
    omega (arith, small, range, c.from.ensures)
