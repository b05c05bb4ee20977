use Rattle.std.proofs.Common.{arith}
use Rattle.crx_runs.proofs.one_line.write_step.Goals as goal

pub returns-in-Err-clause-settled : goal.returns-in-Err-clause-settled
returns-in-Err-clause-settled = grind arith
