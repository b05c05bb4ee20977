use Rattle.rnxcmp_c.proofs.Vocabulary.{◌≡◌, ◌<◌, List, ℕ, ◌++◌, length, BothTexts, TaskRun}
use Rattle.rnxcmp_c.proofs.Vocabulary.{ready_in, READY_LIMIT}
use Rattle.rnxcmp_c.specs.{Going.{IsGoing, IsRunning}, Past.StopsSoon}
use Rattle.rnxcmp_c.proofs.lines.take_bytes.Given as goal

abbrev pub invariant-bytes : goal.invariant-bytes
invariant-bytes g l =
    (done : List ℕ) × (l.initial.left ≡ done ++ l.left)
    × ((run : TaskRun) (fed : List ℕ) (taken : BothTexts)
    → IsRunning g.E.Engine run l.initial.engine l.initial.held fed taken
    → IsGoing run (g.E.Engine.ready l.engine) (g.E.Engine.shows l.engine) l.held (fed ++ done) taken
    × (0 < length done → StopsSoon run fed taken l.initial.left (length done)))
    × (length done ≡ 0 → l.held ≡ l.initial.held) × (0 < length done → ready_in l.initial.held < READY_LIMIT)
    × (g.E.Engine.filter l.engine ≡ g.E.Engine.filter l.initial.engine)

abbrev pub decreases-bytes : goal.decreases-bytes
decreases-bytes g l = length l.left
