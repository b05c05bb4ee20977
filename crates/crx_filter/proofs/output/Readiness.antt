-- The answer to a line is that lines are ready if and only if some are.
use Rattle.crx_filter.proofs.Vocabulary.{common_steps, arith, ◌≡◌, ReadLine, RunState, Made, Direction}
use Rattle.crx_filter.proofs.Vocabulary.{step_of_made, compaction, expansion, IsReadyWhereHandedOut}
use Rattle.crx_filter.proofs.following.Agreement.{failed-ends, failed-skipped}
use Rattle.crx_filter.specs.Laws.{is_ready, has_lines}

step-ready : {U O K : Type 0} (direction : Direction U O K) (state : RunState O K) (line : ReadLine)
    (made : Made U O) → is_ready (step_of_made direction state line made).answer
    ≡ has_lines (step_of_made direction state line made).handed_out
step-ready direction state line made = grind (arith, common_steps, failed-skipped, failed-ends)

pub compaction-ready : IsReadyWhereHandedOut compaction
compaction-ready = grind (arith, common_steps, step-ready)

pub expansion-ready : IsReadyWhereHandedOut expansion
expansion-ready = grind (arith, common_steps, step-ready)
