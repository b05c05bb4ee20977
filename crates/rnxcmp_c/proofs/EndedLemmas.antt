-- The promises of a run about files follow from its result, by the laws.
use Rattle.std.proofs.{Common.{rules, arith}, lemmas.Grind.common_steps}
use Rattle.rnxcmp_c.proofs.Vocabulary.{◌≡◌, ◌⊎◌, ℕ, List, true, code_of_fault, InputTooLong, Choices, expanded}
use Rattle.rnxcmp_c.proofs.Vocabulary.{checked, what-passes, FilterResult, Answer, OUTPUT_LIMIT, BothTexts}
use Rattle.rnxcmp_c.proofs.Vocabulary.{HasNoMemory, RunHasEnded, RunHasResult, StopsAtLimit, StopsForMemory}
use Rattle.rnxcmp_c.proofs.Vocabulary.{StopsWhenFull, Task, Compact, Expand}
use Rattle.rnxcmp_c.proofs.Vocabulary.{Check, run_for, CallBringsBackWhatPasses}
use Rattle.rnxcmp_c.proofs.{PromisesOfCalls.brings-back, Lossless.brings-back_passed}
use Rattle.rnxcmp_c.proofs.Vocabulary.{CallBringsBackWhatWasCompacted, CallSavesAllElse}
use Rattle.rnxcmp_c.specs.meaning.Ended.{CheckPromises, ExpansionPromises}
use Rattle.rnxcmp_c.specs.meaning.Stretches.{CallKeepsUndamaged, CallWritesWholeUnits}
use Rattle.crx_filter.proofs.{damage.DamageStays.all-saved, standard.CheckStandard.named-where_not}
use Rattle.crx_filter.proofs.accounts.ByResults.{compaction-keeps, expansion-keeps}
use Rattle.crx_filter.specs.meaning.{ByResults.ExpansionKeeps, CompactText.ReadsAnyText}
use Rattle.rnxcmp_c.specs.meaning.Kept.{TaskKeeps}
use Rattle.crx_filter.proofs.stretches.StretchesSaved.{rest-kept}
use Rattle.crx_filter.proofs.anywriter.{RunsOfAnyText.reads-any, AnyText.first-units, AcceptedTexts.only-text}

-- the promises of an expansion follow from its result
pub record KeepsPromises (holds : FilterResult → Type 0) (choices : Choices) (text : List ℕ) : Type 0 where
  pub whole : holds (expanded text choices)
  pub lossless : CallBringsBackWhatPasses holds text
  pub any_writer : ReadsAnyText holds text
  pub way_back : CallBringsBackWhatWasCompacted holds text
  pub salvage : choices.skip ≡ true → CallSavesAllElse holds text
  pub damage : choices.skip ≡ true → CallKeepsUndamaged holds text
  pub whole_units : CallWritesWholeUnits holds text
  pub keeps : ExpansionKeeps holds choices.skip text

pub keeps-promises : (holds : FilterResult → Type 0) (choices : Choices) (text : List ℕ)
    → holds (expanded text choices) → KeepsPromises holds choices text
keeps-promises holds choices text whole =
    search (
      rules,
      brings-back_passed,
      brings-back,
      all-saved,
      rest-kept,
      first-units,
      expansion-keeps,
      reads-any,
    )

pub task-keeps : (task : Task) (holds : FilterResult → Type 0) (input : List ℕ)
    → holds ((run_for task).result input) → TaskKeeps task holds input
task-keeps (Compact choices limit) holds input ran = compaction-keeps holds choices input ran
task-keeps (Expand choices limit) holds input ran = expansion-keeps holds choices input ran
task-keeps Check holds input ran = tt

module _ (fed : List ℕ) (made kept : BothTexts) (answer : Answer) where
  abbrev Has : FilterResult → Type 0
  Has whole = RunHasResult whole made kept answer

  abbrev Early : (ℕ → Type 0) → Task → FilterResult → Type 0
  Early is_line task result = (result ≡ (run_for task).result fed)
      ⊎ (StopsAtLimit (run_for task) fed result ⊎ StopsForMemory is_line (run_for task) fed result)

  abbrev Late : (ℕ → Type 0) → Task → FilterResult → Type 0
  Late is_line task result = (result ≡ (run_for task).result fed) ⊎ (StopsAtLimit (run_for task) fed result
      ⊎ (StopsForMemory is_line (run_for task) fed result ⊎ StopsWhenFull (run_for task) fed result))

  module _ (is_line : ℕ → Type 0) (task : Task) (memory : HasNoMemory answer → ⊥) where
    -- a run has its result unless refused memory or a limit ended it
    pub result-where : (answer.status ≡ OUTPUT_LIMIT → ⊥) → RunHasEnded (Early is_line task) made kept answer
        → Has ((run_for task).result fed)
    result-where few ended = grind arith

    -- and unless its input was too long
    pub ended-where : (answer.code ≡ code_of_fault InputTooLong → ⊥)
        → RunHasEnded (Late is_line task) made kept answer → RunHasEnded (Early is_line task) made kept answer
    ended-where long ended = grind arith

  pub run-expansion : (choices : Choices) → Has (expanded fed choices)
      → ExpansionPromises choices fed made kept answer
  run-expansion choices whole = grind (arith, common_steps, keeps-promises Has choices fed whole, only-text)

  pub run-check : Has (checked fed) → CheckPromises fed answer
  run-check whole = grind (arith, common_steps, RunHasResult.answered whole, what-passes, named-where_not)
