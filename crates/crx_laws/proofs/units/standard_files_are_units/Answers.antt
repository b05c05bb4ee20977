use Rattle.crx_filter.proofs.wayback.Units.{standard-by_units}
use Rattle.crx_laws.proofs.units.standard_files_are_units.Goals as goal

pub returns : goal.returns
returns c = record { law = standard-by_units }
