use Rattle.crx_filter.proofs.{Reports.{counts-more, one-there}}
use Rattle.crx_filter.proofs.{Vocabulary.arith}
use Rattle.crx_filter.proofs.report.put_systems.Goals as goal
use Rattle.std.proofs.lemmas.Grind.{common_steps}

pub loop-index-preserved : goal.loop-index-preserved
loop-index-preserved c = grind (arith, common_steps, counts-more, one-there)
