use Rattle.rnxcmp_c.proofs.TakenLemmas.{taken-stands}
use Rattle.rnxcmp_c.proofs.Vocabulary.{take, rules, sym, ap, ◌∙◌, ◌++◌, take-append-drop}
use Rattle.rnxcmp_c.proofs.reader.Reader.move_out.Goals as goal
use Rattle.std.proofs.Common.{arith}
use Rattle.std.proofs.lemmas.Grind.{common_steps}

pub returns-clause-taken : goal.returns-clause-taken
returns-clause-taken c = search (rules, c.move_out.ensures, c.move_out-2.ensures, c.answer.ensures)

pub returns-clause-stands : goal.returns-clause-stands
returns-clause-stands c = grind (arith, common_steps, taken-stands, take-append-drop)
