use Rattle.std.proofs.Common.{◌+◌, ◌-◌, ◌^◌, ◌<◌, ℕ, length, arith}
use Rattle.std.proofs.lemmas.{Grind.common_steps, List.{length-take, length-drop}}
use Rattle.crx_text.proofs.{PowersOfTen.more_digits_fit, Sizes.{signed_is_within, size_fits}}
use Rattle.crx_text.proofs.number.number_read.Goals as goal

pub digits_read-requires : goal.digits_read-requires
digits_read-requires c = grind (arith, common_steps, more_digits_fit 0 0, length-take)

pub digits_read-requires-2 : goal.digits_read-requires-2
digits_read-requires-2 c =
    let text = c.split_minus-is_below.result.1.now in
    let point : ℕ = length text - c.args.decimals - 1 in
    more_digits_fit _ _ _ 18 c.in-Some.ensures.fits (omega (
      arith,
      length-take point text,
      length-drop (point + 1) text,
    ))

pub with_sign-requires : goal.with_sign-requires
with_sign-requires c =
    let text = c.split_minus-is_below.result.1.now in
    let fits : c.in-Some-digits_read.size < 10 ^ (length text - 1) =
    grind (arith, common_steps, more_digits_fit, length-take, length-drop) in
    size_fits _ (length text) (omega arith) fits

pub returns-clause-in_range : goal.returns-clause-in_range
returns-clause-in_range c = grind (arith, common_steps, more_digits_fit, signed_is_within)
