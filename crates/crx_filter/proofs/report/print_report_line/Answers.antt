use Rattle.crx_filter.proofs.Vocabulary.{common_steps, arith}
use Rattle.crx_filter.proofs.report.print_report_line.Goals as goal

pub returns-in-0 : goal.returns-in-0
returns-in-0 c = grind (arith, common_steps)
