use Rattle.crx_filter.proofs.anywriter.RestoredFiles.{texts-of_units}
use Rattle.crx_laws.proofs.units.units_and_text.Goals as goal

pub returns : goal.returns
returns c = record { law = texts-of_units }
