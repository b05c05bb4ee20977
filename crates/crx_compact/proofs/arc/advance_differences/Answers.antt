use Rattle.std.proofs.Common.{rules, ◌≡◌, ◌<◌, ℤ, List, ℕ, length, pos, take}
use Rattle.std.proofs.Common.{slice_index_or, arith, length-take-le}
use Rattle.std.proofs.{lemmas.List.{length-set, get_or-take, take_more_set}, Math.Seq.take-set-lt}
use Rattle.crx_compact.proofs.arcs.Running.{advance-step, advanced-all, difference-fits, first-fits}
use Rattle.crx_compact.proofs.arcs.Running.{highest-last, same-bits}
use Rattle.crx_compact.proofs.arc.advance_differences.Goals as goal
use Rattle.crx_compact.proofs.Vocabulary.{common_steps}

-- the difference at an index below the order
before : (order index : ℕ) (ds : List ℤ) → index < order
    → slice_index_or (take order ds) index (pos 0) ≡ slice_index_or ds index (pos 0)
before order index ds less = get_or-take order ds index (pos 0) less

pub overflow_sub-next : goal.overflow_sub-next
overflow_sub-next c =
    search (rules, same-bits, first-fits, difference-fits, before, length-take-le)

pub loop-index-preserved : goal.loop-index-preserved
loop-index-preserved c =
    let order = c.args.order in
    let index : ℕ = c.loop-index.index in
    let ds : List ℤ = c.loop-index.differences in
    let made = c.loop-index.invariant.made in
    let less : index < order = c.loop-index-test.true in
    let many : length (take order ds) ≡ order = search (rules, length-take-le) in
    let here : index < length (take order ds) = omega (arith, many, less) in
    let same = before order index ds less in
    let step = advance-step index _ (take order ds) _ here made in
    search (rules, same-bits, take-set-lt, length-set, difference-fits)

pub returns-clause-after : goal.returns-clause-after
returns-clause-after c =
    grind (arith, common_steps, take_more_set, advanced-all, same-bits, length-take-le)

pub returns-clause-highest : goal.returns-clause-highest
returns-clause-highest c =
    grind (arith, common_steps, highest-last, advanced-all, same-bits, length-take-le)
