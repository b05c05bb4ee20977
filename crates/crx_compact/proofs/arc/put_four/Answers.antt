use Rattle.crx_compact.proofs.arcs.Running.{same-bits, set-four}
use Rattle.crx_compact.proofs.arc.put_four.Goals as goal
use Rattle.crx_compact.proofs.Vocabulary.{rules}

pub returns : goal.returns
returns c = search (rules, same-bits, set-four)
