-- The promises of calls about files follow from their answers, by the laws.
use Rattle.std.proofs.{Common.arith, lemmas.Grind.common_steps}
use Rattle.rnxcmp_c.proofs.Vocabulary.{ℕ, ◌≡◌, List, Choices, expanded, FilterResult}
use Rattle.rnxcmp_c.proofs.Vocabulary.{CallBringsBackWhatWasCompacted, AnswersWithin, Answer, BothTexts}
use Rattle.rnxcmp_c.proofs.Vocabulary.{length}
use Rattle.{crx_compact.proofs.Vocabulary.cases_lt}
use Rattle.crx_filter.proofs.anywriter.RestoredFiles.{normal-comes_back, standard-comes_back, comes-back}

-- ---- the way back

pub brings-back : (holds : FilterResult → Type 0) (expanding : Choices) (text : List ℕ)
    → holds (expanded text expanding) → CallBringsBackWhatWasCompacted holds text
brings-back holds expanding text answered file compacting dated same =
    grind (arith, common_steps, standard-comes_back, normal-comes_back, comes-back)

-- ---- status 0

-- a call with status 0 returns the whole result of a run
pub zero-answered : (most : ℕ) (whole : FilterResult) (answer : Answer) (before after : BothTexts)
    → AnswersWithin most whole answer before after → answer.status ≡ 0 → whole.status ≡ 0
zero-answered most whole answer before after h is =
    grind (arith, common_steps, cases_lt most (length whole.output), h.within, h.over)
