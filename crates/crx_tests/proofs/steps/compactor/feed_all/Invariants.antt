use Rattle.std.proofs.Common.{◌≡◌, []}
use Rattle.crx_filter.specs.CompactorState.{compactor_state, compactor_ready}
use Rattle.crx_tests.proofs.steps.compactor.feed_all.Given as goal

-- all lines were taken, and `taken` of them count
abbrev pub invariant-loop-answer : goal.invariant-loop-answer
invariant-loop-answer g l = (compactor_ready l.engine ≡ []) × ((compactor_state l.engine).number ≡ l.taken)
