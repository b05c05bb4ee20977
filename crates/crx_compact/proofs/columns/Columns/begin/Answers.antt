use Rattle.crx_compact.proofs.Vocabulary.{rules, ◌≡◌, Some}
use Rattle.crx_compact.proofs.Vocabulary.{tail_for_line, tail_held}
use Rattle.crx_compact.proofs.{Vocabulary.tail_of_history, columns.Columns.begin.Goals.After-read_epoch_line}
use Rattle.crx_compact.proofs.columns.Columns.begin.Goals.{then-is_full, else-is_full+else-not-self}
use Rattle.crx_compact.proofs.{reading.Blocks.{begun-block, begun-refused}}
use Rattle.crx_compact.proofs.reading.Stages.{tail-idle}
use Rattle.crx_compact.proofs.columns.Columns.begin.Goals as goal

-- there is a history, after which the line is read
before-line : (c : After-read_epoch_line) → tail_for_line (tail_held c.args.self.now) c.args.line.now
    ≡ Some (tail_of_history c.if-is_full.self-inside.history)
before-line c = elim c.if-is_full.branch [
  | then-is_full w ↦ rw w.self-inside-is (search (rules, tail_for_line, tail-idle, tail_of_history))
  | else-is_full+else-not-self w ↦
      rw w.self-inside-is (search (rules, tail_for_line, tail-idle, tail_of_history))
]

pub returns-in-Ok-clause-made : goal.returns-in-Ok-clause-made
returns-in-Ok-clause-made c =
    let before = before-line (goal.at.returns-in-Ok-clause-made c).After-read_epoch_line in
    search (rules, before)

pub returns-in-Ok-clause-block : goal.returns-in-Ok-clause-block
returns-in-Ok-clause-block c = λ older e.
    begun-block c.args.types.now older c.args.line.now e (returns-in-Ok-clause-made c)

pub returns-in-Err-clause-block_fault : goal.returns-in-Err-clause-block_fault
returns-in-Err-clause-block_fault c = λ older e.
    begun-refused c.args.types.now older c.args.line.now e (search rules)
