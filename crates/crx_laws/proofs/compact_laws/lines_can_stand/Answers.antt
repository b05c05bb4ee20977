use Rattle.crx_compact.proofs.wayback.LinesInFiles.{lines-stand}
use Rattle.crx_laws.proofs.compact_laws.lines_can_stand.Goals as goal

pub returns : goal.returns
returns c = record { law = λ types m older h. lines-stand types m.in_full m.epoch older h }
