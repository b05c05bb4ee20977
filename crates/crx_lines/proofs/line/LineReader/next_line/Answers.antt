use Rattle.std.proofs.{Common.{refl}, lemmas.Result.err_from_is_err_and}
use Rattle.crx_lines.proofs.line.LineReader.next_line.Goals as goal
use Rattle.std.proofs.Common.{arith}
use Rattle.std.proofs.lemmas.Grind.{common_steps}

pub returns-in_err-cut : goal.returns-in_err-cut
returns-in_err-cut g c =
    let p = err_from_is_err_and c.from_residual.result c.from_residual.ensures.1 in
    let found = c.in_err-cut.ensures.answers in
    rw (p.1, p.2) (
      (refl, (λ _. tt), ((λ _. found), λ closed. absurd (closed c.in-Open.is))),
      grind (arith, common_steps, found),
    )
