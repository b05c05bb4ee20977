use Rattle.std.proofs.lemmas.Grind.{common_steps}
use Rattle.rnxcmp_c.proofs.{RunLemmas.{answers-alone, answers-within, take-enough}, Vocabulary.{refl, sym}}
use Rattle.rnxcmp_c.proofs.Vocabulary.{◌∙◌, arith, rooms, Check, what-passes}
use Rattle.rnxcmp_c.proofs.exports.rnxcmp_c_check.Goals as goal

pub answer_of-requires : goal.answer_of-requires
answer_of-requires c = take-enough Check c.check-outcome.ensures.runs.2 c.new-written.ensures
    c.new-reported.ensures refl refl

pub returns-clause-memory : goal.returns-clause-memory
returns-clause-memory c memory = answers-alone c.answer_of.ensures memory

pub returns-clause-runs : goal.returns-clause-runs
returns-clause-runs c within memory =
    let run = c.check-outcome.ensures.runs in
    (answers-within Check run.2 (sym c.new-reader.ensures ∙ run.1) within (rooms _ _) (rooms _ _)
    c.new-written.ensures c.new-reported.ensures c.answer_of.ensures memory).within
    (λ over. omega (arith, over.0))

pub returns-clause-lossless : goal.returns-clause-lossless
returns-clause-lossless c within memory = grind (arith, common_steps, what-passes, returns-clause-runs)
