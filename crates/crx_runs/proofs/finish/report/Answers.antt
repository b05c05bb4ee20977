use Rattle.std.proofs.Common.{arith, inr}
use Rattle.crx_runs.proofs.finish.report.Goals as goal

pub returns-in-Err-clause-reported : goal.returns-in-Err-clause-reported
returns-in-Err-clause-reported g c =
    let n = c.in-Err.field-0.0 in
    inr ((n, grind arith, grind arith), grind arith)
