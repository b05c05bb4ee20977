use Rattle.std.proofs.{Common.{◌≡◌, refl, Option, None, Result, Ok, Err}, lemmas.Result.err_from_is_err_and}
use Rattle.crx_base.specs.declared.fault.At.{At}
use Rattle.crx_lines.specs.{declared.line.Line.Line}
use Rattle.crx_lines.proofs.line.LineReader.next_held.Goals as goal
use Rattle.std.proofs.Common.{arith}
use Rattle.std.proofs.lemmas.Grind.{common_steps}

err-not-none : (at : At) → ◌≡◌ {A = Result (Option Line) At} (Err at) (Ok None) → ⊥
err-not-none at e = cc

pub returns-in_err-cut : goal.returns-in_err-cut
returns-in_err-cut c =
    let p = err_from_is_err_and c.from_residual.result c.from_residual.ensures.1 in
    let found = c.in_err-cut.ensures.answers in
    rw (p.1, p.2) (
      (refl, (λ _. tt), found),
      grind (arith, common_steps, found, err-not-none),
    )
