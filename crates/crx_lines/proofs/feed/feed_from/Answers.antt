use Rattle.std.proofs.{Common.{eqb, arith, ⊎_elim}, lemmas.Bool.{eqb-true, eqb-false, cases_lt}}
use Rattle.std.proofs.lemmas.{Grind.common_steps, Simd.{run_in_chunk_fails, run_in_chunk_stops}}
use Rattle.crx_lines.proofs.FeedLemmas.{before_first, none_of_all}
use Rattle.crx_lines.proofs.feed.feed_from.Goals as goal

pub returns-then-feeds-ne0-clause-within : goal.returns-then-feeds-ne0-clause-within
returns-then-feeds-ne0-clause-within c = grind (arith, common_steps, before_first)

pub returns-then-feeds-ne0-clause-found : goal.returns-then-feeds-ne0-clause-found
returns-then-feeds-ne0-clause-found c =
    let found = before_first _ c.loop-at.at (omega arith) (omega arith) in
    eqb-true _ _ (run_in_chunk_stops (λ b. eqb b 10) _ _ 32 _ 0 (omega arith) found.1 found.0)

pub returns-then-feeds-ne0-clause-first : goal.returns-then-feeds-ne0-clause-first
returns-then-feeds-ne0-clause-first c k low high =
    let found = before_first _ c.loop-at.at (omega arith) (omega arith) in
    ⊎_elim (λ below. c.loop-at.invariant.2 k low below) (λ above. eqb-false _ _ (run_in_chunk_fails
    (λ b. eqb b 10) _ _ 32 _ 0 (omega arith) found.1 k above high)) (cases_lt k _)

pub loop-at-preserved : goal.loop-at-preserved
loop-at-preserved c =
    let none = none_of_all _ c.loop-at.at (omega arith) (omega arith) in (
      omega arith,
      omega arith,
      λ k low high. ⊎_elim (λ below. c.loop-at.invariant.2 k low below)
          (λ above. eqb-false _ _ (run_in_chunk_fails (λ b. eqb b 10) _ _ 32 32 0 (omega arith) none k above
          high)) (cases_lt k _),
    )
