use Rattle.crx_program.proofs.program.filter.Goals as goal

pub returns-in-Expand : goal.returns-in-Expand
returns-in-Expand g c = rw c.in-Expand.is
    (c.expand.result.fault, c.expand.ensures.runs.0, c.expand.ensures.runs.1, c.expand.ensures.runs.2)

pub returns-in-Compact : goal.returns-in-Compact
returns-in-Compact g c = rw c.in-Compact.is
    (c.compact.result.fault, c.compact.ensures.runs.0, c.compact.ensures.runs.1, c.compact.ensures.runs.2)

pub returns-in-Check : goal.returns-in-Check
returns-in-Check g c = rw c.in-Check.is
    (c.check.result.fault, c.check.ensures.runs.0, c.check.ensures.runs.1, c.check.ensures.runs.2)
