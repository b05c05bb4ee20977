use Rattle.rnxcmp_c.proofs.RunLemmas.{answers-alone, answers-within, take-enough}
use Rattle.rnxcmp_c.proofs.Vocabulary.{refl, sym, ◌∙◌, subst}
use Rattle.rnxcmp_c.proofs.Vocabulary.{compacted, AnswersWithin, rooms, Compact}
use Rattle.crx_filter.proofs.accounts.ByResults.{compaction-keeps}
use Rattle.rnxcmp_c.proofs.exports.rnxcmp_c_compact.Goals as goal

pub answer_of-requires : goal.answer_of-requires
answer_of-requires c =
    take-enough (Compact c.in-Ok.options 0) c.compact-outcome.ensures.runs.2 c.new-written.ensures
    c.new-reported.ensures refl refl

pub returns-clause-memory : goal.returns-clause-memory
returns-clause-memory c memory = answers-alone c.answer_of.ensures memory

pub returns-clause-runs : goal.returns-clause-runs
returns-clause-runs c dated within memory =
    let run = c.compact-outcome.ensures.runs in
    let before = rooms _ _ in
    let after = rooms _ _ in
    subst (λ o. AnswersWithin c.args.max_output (compacted c.args.input.now o) c.answer_of.result
    before after) c.in-Ok.ensures.value.0
    (answers-within (Compact c.in-Ok.options 0) run.2 (sym c.new-reader.ensures ∙ run.1) within before after
    c.new-written.ensures c.new-reported.ensures c.answer_of.ensures memory)

pub returns-clause-keeps : goal.returns-clause-keeps
returns-clause-keeps c dated within memory =
    compaction-keeps
    (λ whole. AnswersWithin c.args.max_output whole c.answer_of.result (rooms _ _) (rooms _ _)) _ _
    (returns-clause-runs c dated within memory)
