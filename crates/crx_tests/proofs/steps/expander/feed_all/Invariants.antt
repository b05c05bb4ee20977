use Rattle.std.proofs.Common.{◌≡◌, []}
use Rattle.crx_filter.specs.ExpanderState.{expander_ready, expander_state}
use Rattle.crx_tests.proofs.steps.expander.feed_all.Given as goal

-- all lines were taken, and `taken` of them count
abbrev pub invariant-loop-answer : goal.invariant-loop-answer
invariant-loop-answer g l = (expander_ready l.engine ≡ []) × ((expander_state l.engine).number ≡ l.taken)
