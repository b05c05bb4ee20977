use Rattle.crx_laws.proofs.EpochLines.{of-file, of-text}
use Rattle.crx_laws.proofs.fate.the_lines_of_an_epoch.Goals as goal

pub returns : goal.returns
returns c = record { file = of-file; text = of-text }
