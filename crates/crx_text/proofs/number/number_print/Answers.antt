use Rattle.std.proofs.Common.{◌≡◌, ◌-◌, ◌<◌, ◌^◌, length, ℕ, w64, arith, rules, ap}
use Rattle.std.proofs.{Common.◌∙◌, lemmas.{Grind.common_steps, Int.to_z-of_z}}
use lib.IntN.{nat_abs}
use Rattle.crx_text.proofs.Spellings.{size_text_fits, abs_within_below}
use Rattle.crx_text.proofs.Spellings.{printed_number_below}
use Rattle.crx_text.proofs.number.number_print.Goals as goal

pub overflow_sub-field : goal.overflow_sub-field
overflow_sub-field c =
    let number = c.in-Some.number in
    let width : ℕ = length c.args.field.now in
    let held = to_z-of_z w64 number (search rules) in
    let size_is : c.unsigned_abs.result ≡ nat_abs number = c.unsigned_abs.ensures.value ∙ ap nat_abs held in
    let small : c.unsigned_abs.result < 10 ^ (width - 1 - 1) = rw size_is
    (grind (arith, common_steps, abs_within_below, c.requires.in_range number c.in-Some.is)) in
    let short = size_text_fits c.args.decimals c.unsigned_abs.result (width - 1) c.requires.shape.0
    (omega (arith, c.requires.shape.1)) (omega (arith, c.requires.shape.2)) small in
    omega (arith, short, c.size_print-start.ensures.start, c.fill.ensures.len, c.requires.shape.1)

pub returns-then-number-lt0 : goal.returns-then-number-lt0
returns-then-number-lt0 c = grind (arith, common_steps, printed_number_below, w64, overflow_sub-field c)
