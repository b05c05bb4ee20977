use Rattle.std.proofs.Common.{arith}
use Rattle.crx_compact.proofs.PaddedColumns.{left_justified-is}
use Rattle.crx_compact.proofs.encoder.Encoder.put_first_lines.Goals as goal
use Rattle.std.proofs.lemmas.Grind.{common_steps}

pub returns : goal.returns
returns c = grind (arith, common_steps, left_justified-is)
