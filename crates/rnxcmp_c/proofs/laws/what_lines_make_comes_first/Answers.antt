use Rattle.std.proofs.{Common.arith, lemmas.Grind.common_steps}
use Rattle.rnxcmp_c.proofs.PromiseLemmas.{messages-own, output-first}
use Rattle.rnxcmp_c.proofs.Vocabulary.{◌++◌, lines_of, ended_lines-come_first}
use Rattle.rnxcmp_c.proofs.laws.what_lines_make_comes_first.Goals as goal

pub returns-clause-begun : goal.returns-clause-begun
returns-clause-begun c = grind (arith, common_steps, output-first, messages-own)

pub returns-clause-fed : goal.returns-clause-fed
returns-clause-fed c = λ fed more.
    let tail = ended_lines-come_first fed in (lines_of (tail.0 ++ more), tail.2 more)
