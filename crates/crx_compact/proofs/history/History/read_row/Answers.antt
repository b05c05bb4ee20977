use Rattle.crx_compact.proofs.Vocabulary.{arith}
use Rattle.crx_compact.proofs.Vocabulary.{same_Some}
use Rattle.crx_compact.proofs.RowByRow.{all-at}
use Rattle.std.proofs.lemmas.Result.{IfErr-weaker}
use Rattle.crx_compact.specs.Placing.{HasAllowedCount, IsLeftAt, IsStoredAt}
use Rattle.crx_compact.proofs.history.History.read_row.Goals.{After-unwrap}
use Rattle.crx_compact.proofs.history.History.read_row.Goals as goal
use Rattle.std.proofs.lemmas.Grind.{common_steps}

stored : (c : After-unwrap) → IsStoredAt c.args.index c.args.self.now.satellites c.unwrap.result.now
stored c = rw (← c.self.view_is) (rw (c.unwrap.ensures) at c.entry_mut.ensures.there)

pub read-requires-clause-allowed : goal.read-requires-clause-allowed
read-requires-clause-allowed c =
    all-at HasAllowedCount _ c.args.index _ c.requires.allowed
    (stored (goal.at.read-requires-clause-allowed c).After-unwrap).there

pub returns-clause-answer : goal.returns-clause-answer
returns-clause-answer c =
    let stored = stored (goal.at.returns-clause-answer c).After-unwrap in
    let name = stored.name in
    let satellite = c.unwrap.result.now in
    let at : IsLeftAt c.args.index c.args.self.now.satellites satellite c.read.new.self
    (c.entry_mut.follows.lender c.read.new.self) =
    rw (← c.self.view_is) (rw (c.unwrap.ensures) at c.entry_mut.follows.holds c.read.new.self) in
    let left = at (omega (arith, c.read.ensures.room)) name stored.there in
    grind (arith, common_steps, stored, name, satellite, left, IfErr-weaker c.read.result, same_Some)
