use Rattle.std.proofs.Common.{arith}
use Rattle.rnxcmp_c.proofs.HandleLemmas.{ended-by_none, runs-where_none}
use Rattle.rnxcmp_c.proofs.ReaderLemmas.{all-over, ended-as, stops-over}
use Rattle.rnxcmp_c.proofs.Vocabulary.{inl, inr, ⊎_elim, ap, sym, ◌∙◌, Some, None, Reader}
use Rattle.rnxcmp_c.proofs.reader.Reader.take_end.Goals as goal
use Rattle.std.proofs.lemmas.Grind.{common_steps}

pub end_engine-requires : goal.end_engine-requires
end_engine-requires c = grind (arith, common_steps, runs-where_none)

pub returns-in-Ok : goal.returns-in-Ok
returns-in-Ok c = λ task fed taken stands.
    let none = sym c.is_some.ensures ∙ c.if-is_some.false in
    let runs = runs-where_none task _ fed taken _ none stands in
    let new : Reader = record c.args.self.now {
      engine = c.end_engine.new.engine;
      held = c.end_engine.new.held;
      outcome = Some (record { status = c.status_at_end.result; fault = None });
    } in
    let all = (c.in-Ok.ensures.ends task fed taken runs.is_of runs.going).0 in
    ended-by_none task _ new fed taken _ _ none (all-over task new.held fed taken _ _
    (c.end_engine.ensures.keeps task runs.is_of) all.0 all.1 (ap
    (λ status. record { status = status; fault = None }) c.status_at_end.ensures)) c.answer.ensures

pub returns-in-Err : goal.returns-in-Err
returns-in-Err c = λ task fed taken stands.
    let none = sym c.is_some.ensures ∙ c.if-is_some.false in
    let runs = runs-where_none task _ fed taken _ none stands in
    let new : Reader = record c.args.self.now {
      engine = c.end_engine.new.engine;
      held = c.outcome_of.new.held;
      outcome = Some c.outcome_of.result;
    } in
    ended-by_none task _ new fed taken _ _ none (ended-as (stops-over task _ fed _
    (c.in-Err.ensures.ends task fed taken runs.is_of runs.going).1 c.outcome_of.ensures)
    (λ result is. ⊎_elim (λ whole. inl whole.0) (λ early. inr early) is)) c.answer-in-Err.ensures
