use Rattle.crx_filter.proofs.{following.CheckByFilter.check-goes, steps.CheckerSteps.passes-nothing}
use Rattle.crx_filter.proofs.checking.CheckingDirection.stage.Goals as goal

pub returns-clause-lawful : goal.returns-clause-lawful
returns-clause-lawful c = check-goes

pub returns-clause-passes : goal.returns-clause-passes
returns-clause-passes c = rw (← c.self.view_is) (λ choices lines line given known passed.
    passes-nothing choices lines line _ given passed)
