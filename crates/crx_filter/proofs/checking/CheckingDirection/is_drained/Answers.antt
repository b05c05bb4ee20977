use Rattle.{crx_filter.proofs.{Vocabulary.rules, steps.CheckerSteps.all-out}, std.proofs.lemmas.List.drop_all}
use Rattle.crx_filter.proofs.checking.CheckingDirection.is_drained.Goals as goal

pub returns : goal.returns
returns c = rw (← c.self.view_is) (record {
  value = (
    λ is. drop_all c.self.inside.handed_out _ (search (rules, is)),
    λ none. search (rules, all-out c.self.inside.handed_out _ none),
  );
})
