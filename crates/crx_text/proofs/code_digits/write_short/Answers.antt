use Rattle.std.proofs.Common.{rules, ◌<◌, ◌^◌, ◌+◌, ◌/◌, ◌++◌, ◌-◌, ◌≡◌, bit_and, ℕ, List, take, drop, ap}
use Rattle.std.proofs.Common.{◌∙◌}
use Rattle.std.proofs.{Common.arith, lemmas.Grind.common_steps}
use lib.Count.{count_trailing_zeros}
use Rattle.crx_text.proofs.DigitPairs.{bytes_shifted, digits_last, few_zeros, first_written, zeros_counted}
use Rattle.crx_text.proofs.DigitPairs.{zeros_found, zeros_of}
use Rattle.crx_text.proofs.code_digits.write_short.Goals as goal

pub overflow_shr-columns : goal.overflow_shr-columns
overflow_shr-columns c =
    grind (arith, common_steps, zeros_found, few_zeros c.args.size)

pub returns-clause-within : goal.returns-clause-within
returns-clause-within c =
    omega (
      arith,
      zeros_found _ _ c.requires.small c.four_digits-columns.type_inv c.four_digits-columns.ensures,
      zeros_counted _ c.requires.small,
    )

pub returns-clause-written : goal.returns-clause-written
returns-clause-written c =
    let word = c.four_digits-columns.result in
    let small = c.requires.small in
    let z : ℕ = count_trailing_zeros 32 (bit_and word 521080591) / 8 in
    let zeros : z ≡ zeros_of c.args.size =
    zeros_found c.args.size word small c.four_digits-columns.type_inv c.four_digits-columns.ensures in
    let few = few_zeros c.args.size in
    let fits : word < 2 ^ 32 = search rules in
    let end : c.args.at + 4 - z ≡ c.args.at + (4 - z) = omega (arith, zeros, few) in
    rw end (
    first_written c.args.buffer.now c.write_word.new.buffer _ c.args.at 4 (4 - z)
    (omega (arith, c.requires.room)) (omega arith) c.write_word.ensures ∙ ap
    (λ (t : List ℕ). take c.args.at c.args.buffer.now ++ t) (
    bytes_shifted word z (omega (arith, zeros, few)) fits ∙ ap (drop z) c.four_digits-columns.ensures
    ∙ digits_last c.args.size z small (omega (arith, zeros, zeros_counted c.args.size small))))
