use Rattle.crx_filter.proofs.{Vocabulary.ap, steps.CheckerEnds.found-at-end}
use Rattle.crx_filter.specs.meaning.Standard.{Findings, report_lines}
use Rattle.crx_filter.proofs.checking.CheckingDirection.conclude.Goals as goal

pub returns-clause-closing : goal.returns-clause-closing
returns-clause-closing c =
    let before = c.self.inside in
    let running = rw (← c.self.view_is) at c.requires.running in
    let good = rw (← c.self.view_is) at c.requires.good in
    rw (← c.self.view_is) (λ choices lines come known.
    let found = found-at-end choices before.reader before.noted.totals before.noted.not_standard lines
    come.taken_as come.is_state known running good in
    (ap report_lines found, ap (λ (f : Findings). f.not_standard) found))
