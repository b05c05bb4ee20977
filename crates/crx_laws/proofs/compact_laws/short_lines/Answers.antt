use Rattle.crx_compact.proofs.wayback.LinesInFiles.{lines-short}
use Rattle.crx_laws.proofs.compact_laws.short_lines.Goals as goal

pub returns : goal.returns
returns c = record { law = λ types m older h. lines-short types m.in_full m.epoch older h }
