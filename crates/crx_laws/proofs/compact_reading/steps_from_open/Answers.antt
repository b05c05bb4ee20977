use Rattle.crx_compact.proofs.reading.LineByLine.{steps-from_open}
use Rattle.crx_laws.proofs.compact_reading.steps_from_open.Goals as goal

pub returns : goal.returns
returns c = record { law = steps-from_open }
