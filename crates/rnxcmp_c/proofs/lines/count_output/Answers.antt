use Rattle.std.proofs.lemmas.Grind.{common_steps}
use Rattle.rnxcmp_c.proofs.Vocabulary.{arith, inr, refl, rules}
use Rattle.rnxcmp_c.proofs.lines.count_output.Goals as goal

pub returns-in-Err-Unwritten-clause-stops : goal.returns-in-Err-Unwritten-clause-stops
returns-in-Err-Unwritten-clause-stops c =
    inr (
      search rules,
      c.no_memory_at.ensures,
      (
        record c.args.held.now { left = c.saturating_sub-held.result },
        record { same = refl; left = grind (arith, common_steps) },
        c.cut_back-in-Err-Unwritten.ensures,
      ),
    )
