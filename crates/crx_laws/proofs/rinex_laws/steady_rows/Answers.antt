use Rattle.crx_rinex.specs.meaning.EpochPlaces.{next_row}
use Rattle.crx_rinex.proofs.SteadyPlaces.{steady-first_line}
use Rattle.crx_rinex.proofs.OpenEpochs.{steady-rest}
use Rattle.crx_laws.proofs.rinex_laws.steady_rows.Goals as goal

pub returns-clause-row : goal.returns-clause-row
returns-clause-row c = λ so_far. steady-first_line (next_row so_far)

pub returns-clause-rest : goal.returns-clause-rest
returns-clause-rest c = steady-rest
