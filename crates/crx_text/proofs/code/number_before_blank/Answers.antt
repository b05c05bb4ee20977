use Rattle.std.proofs.{Common.{rules, w64, ap, sym, ◌∙◌}, lemmas.Int.to_z-of_z}
use Rattle.std.specs.Option.{option_map}
use mir.Val.{SFits}
use Rattle.crx_text.proofs.CellNumbers.{coded_number-cell}
use Rattle.crx_text.specs.meaning.Numbers.{signed_number}
use Rattle.crx_text.proofs.code.number_before_blank.Goals as goal

pub returns-in_err-size-clause-value : goal.returns-in_err-size-clause-value
returns-in_err-size-clause-value c =
    rw c.from_residual.ensures (sym (coded_number-cell c.args.text.now c.split_minus-is_below.result.1.now
    c.split_minus-is_below.ensures.rest ∙ ap (option_map _) c.in_err-size.ensures))

pub returns-clause-value : goal.returns-clause-value
returns-clause-value c =
    let fits : SFits w64 c.with_sign.result = search rules in
    let number = c.with_sign.ensures ∙ ap (λ b. signed_number b c.in_ok-size.size)
    c.split_minus-is_below.ensures.sign in
    rw (to_z-of_z w64 _ fits, number) (sym (coded_number-cell c.args.text.now
    c.split_minus-is_below.result.1.now c.split_minus-is_below.ensures.rest
    ∙ ap (option_map _) c.in_ok-size.ensures.value))
