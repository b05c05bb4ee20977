use Rattle.std.proofs.lemmas.{Grind.common_steps, List.take-take}
use Rattle.rnxcmp_c.proofs.{FedLemmas.{takes-all, takes-some}, HandleLemmas.{fed-by, runs-where_none}}
use Rattle.rnxcmp_c.proofs.{PieceLemmas.first-allowed, ReaderLemmas.{passed-over, stops-over}}
use Rattle.rnxcmp_c.proofs.Vocabulary.{take, sym, ap, ◌∙◌, arith, length, ◌≡◌, ◌<◌, ◌≤◌, ◌-◌, INPUT_LIMIT, None}
use Rattle.rnxcmp_c.proofs.Vocabulary.{length-take, ℕ}
use Rattle.rnxcmp_c.proofs.reader.Reader.read_bytes.Goals as goal

pub feed_engine-requires : goal.feed_engine-requires
feed_engine-requires c = grind (arith, common_steps, runs-where_none)

pub returns-then-not-is_empty : goal.returns-then-not-is_empty
returns-then-not-is_empty c = λ task fed taken stands.
    let old = c.args.self.now in
    let none = sym c.is_some.ensures ∙ c.if-is_some.false in
    let runs = runs-where_none task old fed taken _ none stands in
    let first = first-allowed _ _ _ c.min-count.ensures ∙ ap (λ n. take (INPUT_LIMIT - n) c.args.bytes.now)
    runs.counted in
    let is_full : (length (take c.min-count.result c.args.bytes.now) ≡ 0) × (0 < length c.args.bytes.now) =
    grind arith in
    fed-by task old _ fed taken _ 0 _ _ none (record {
      answers = c.answer.ensures;
      takes = takes-all task fed taken _ _ first old.held c.outcome_of.new.held 0 (sym is_full.0)
          (λ more. absurd (omega (arith, more, is_full.0)));
      over = λ more all. passed-over task fed runs.going.after (grind (arith, common_steps))
          c.outcome_of.ensures;
      fed_on = λ some. absurd (omega (arith, some is_full.1, ap length first, is_full.0));
      still = λ more. absurd (omega (arith, more, ap length first, is_full.0));
    })

pub returns-in-Ok : goal.returns-in-Ok
returns-in-Ok c = λ task fed taken stands.
    let old = c.args.self.now in
    let none = sym c.is_some.ensures ∙ c.if-is_some.false in
    let is_none : old.outcome ≡ None = grind arith in
    let runs = runs-where_none task old fed taken _ none stands in
    let first = first-allowed _ _ _ c.min-count.ensures ∙ ap (λ n. take (INPUT_LIMIT - n) c.args.bytes.now)
    runs.counted in
    let went = (c.in-Ok.ensures.fed task fed taken runs.is_of runs.going).0 in
    let count = c.in-Ok.ensures.count in
    let used : ℕ = c.in-Ok.used in
    let most : ℕ = INPUT_LIMIT - length fed in
    let few : used ≤ most = omega (arith, count.within, ap length first, length-take most c.args.bytes.now) in
    fed-by task old _ fed taken _ _ _ _ none (record {
      answers = c.answer-in-Ok.ensures;
      takes = rw is_none (takes-some task fed taken _ _ first old.held _ _ (λ more. grind arith)
          count went.1);
      over = λ more all. absurd (grind arith);
      fed_on = λ some. rw is_none (record {
        is_of = c.feed_engine.ensures.keeps task runs.is_of;
        going = rw (ap (take used) first, take-take used most c.args.bytes.now few) at went.0;
        counted = grind (arith, common_steps);
        within = grind (arith, common_steps);
      });
      still = λ some high. (count.still high).1;
    })

pub returns-in-Err : goal.returns-in-Err
returns-in-Err c = λ task fed taken stands.
    let old = c.args.self.now in
    let none = sym c.is_some.ensures ∙ c.if-is_some.false in
    let runs = runs-where_none task old fed taken _ none stands in
    let first = first-allowed _ _ _ c.min-count.ensures ∙ ap (λ n. take (INPUT_LIMIT - n) c.args.bytes.now)
    runs.counted in
    fed-by task old _ fed taken _ _ _ _ none (record {
      answers = c.answer-in-Err.ensures;
      takes = takes-all task fed taken _ _ first old.held c.outcome_of-in-Err.new.held _ (grind (
        arith,
        common_steps,
      )) (λ _. c.in-Err.ensures.low);
      over = λ more all. absurd (grind arith);
      fed_on = λ some more. stops-over task _ _ _
          ((c.in-Err.ensures.fed task fed taken runs.is_of runs.going).1 more)
          c.outcome_of-in-Err.ensures;
      still = λ some high. absurd (grind arith);
    })
