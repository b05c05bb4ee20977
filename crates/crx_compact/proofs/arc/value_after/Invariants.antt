use Rattle.crx_compact.specs.{meaning.Differences.newest, ArcSteps.differences_by}
use Rattle.crx_compact.proofs.arcs.Running.{Summed}
use Rattle.crx_compact.proofs.arc.value_after.Given as goal

abbrev pub invariant-loop-difference : goal.invariant-loop-difference
invariant-loop-difference l = Summed l.difference-index
    (newest (differences_by l.number l.differences)) l.value l.differences
