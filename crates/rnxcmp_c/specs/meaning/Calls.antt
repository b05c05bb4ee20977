-- The common properties of calls over a whole input.
use Rattle.std.specs.Prelude.{◌<◌, ◌≤◌, ℕ, List, length}
use Rattle.crx_base.specs.declared.fault.Fault.TheVariants.{InputTooLong, OutOfMemory}
use Rattle.crx_base.specs.declared.limits.TheConstants.{INPUT_LIMIT}
use Rattle.crx_base.specs.meaning.Faults.{code_of_fault}
use Rattle.crx_runs.specs.meaning.Results.{FilterResult}
use Rattle.rnxcmp_c.specs.declared.answer.Answer.{Answer}
use Rattle.rnxcmp_c.specs.meaning.Answers.{AnswersAlone, AnswersWithin, BothTexts, HasNoMemory}

-- an input that is too long is refused, and the buffers are unchanged
abbrev pub RefusesLong : List ℕ → Answer → BothTexts → BothTexts → Type 0
RefusesLong input answer before after =
    INPUT_LIMIT < length input → AnswersAlone 1 0 (code_of_fault InputTooLong) answer before after

-- if memory was refused, the buffers are unchanged
abbrev pub RefusesForMemory : Answer → BothTexts → BothTexts → Type 0
RefusesForMemory answer before after =
    HasNoMemory answer → AnswersAlone 1 answer.line (code_of_fault OutOfMemory) answer before after

-- this is true if the input isn't too long and memory wasn't refused
abbrev pub WhereItRan : List ℕ → Answer → Type 0 → Type 0
WhereItRan input answer is_so = length input ≤ INPUT_LIMIT → (HasNoMemory answer → ⊥) → is_so

-- in this case the call keeps a promise about results, for the result that it returned
abbrev pub KeepsWhereItRan : ((FilterResult → Type 0) → List ℕ → Type 0)
    → List ℕ → ℕ → Answer → BothTexts → BothTexts → Type 0
KeepsWhereItRan promise input most answer before after =
    WhereItRan input answer (promise (λ whole. AnswersWithin most whole answer before after) input)
