-- A file that passes a check is restored, in the caller's memory, by the law.
use Rattle.std.proofs.lemmas.Grind.{common_steps}
use Rattle.rnxcmp_c.proofs.Vocabulary.{ℕ, List, arith, Choices, expanded, FilterResult, what-passes}
use Rattle.rnxcmp_c.proofs.Vocabulary.{CallBringsBackWhatPasses}

pub brings-back_passed : (holds : FilterResult → Type 0) (expanding : Choices) (text : List ℕ)
    → holds (expanded text expanding) → CallBringsBackWhatPasses holds text
brings-back_passed holds expanding text answered file compacting dated passed same =
    grind (arith, common_steps, what-passes)
