-- The promises of a handle whose run has ended with its result, for the files from which the text fed to it was made.
use Rattle.std.specs.Prelude.{◌≡◌, ℕ, List, true}
use Rattle.crx_filter.specs.meaning.CompactText.{IsCompactText, ReadsAnyText}
use Rattle.crx_filter.specs.meaning.Lossless.{SaysThatItComesBack}
use Rattle.crx_base.specs.meaning.Choices.{Choices}
use Rattle.rnxcmp_c.specs.declared.answer.Answer.{Answer}
use Rattle.rnxcmp_c.specs.meaning.Answers.{BothTexts}
use Rattle.rnxcmp_c.specs.meaning.Handles.{RunHasResult}
use Rattle.rnxcmp_c.specs.meaning.Lossless.{CallBringsBackWhatPasses}
use Rattle.rnxcmp_c.specs.meaning.Promises.{CallBringsBackWhatWasCompacted, CallJudgesStandard}
use Rattle.rnxcmp_c.specs.meaning.Promises.{CallSavesAllElse}
use Rattle.rnxcmp_c.specs.meaning.Stretches.{CallKeepsUndamaged, CallWritesWholeUnits}

-- an expansion: a file that passes a check is restored; compact text is read with its meaning, whoever wrote it, and no
-- other text ends with status 0; compacted files are restored; if faults are skipped, everything except the damaged
-- parts is written; and everything that is whole before a cut is written
pub record ExpansionPromises (choices : Choices) (fed : List ℕ) (made kept : BothTexts) (answer : Answer)
    : Type 0 where
  pub lossless : CallBringsBackWhatPasses (λ whole. RunHasResult whole made kept answer) fed
  pub any_writer : ReadsAnyText (λ whole. RunHasResult whole made kept answer) fed
  pub no_other : answer.status ≡ 0 → IsCompactText fed
  pub way_back : CallBringsBackWhatWasCompacted (λ whole. RunHasResult whole made kept answer) fed
  pub salvage : choices.skip ≡ true → CallSavesAllElse (λ whole. RunHasResult whole made kept answer) fed
  pub damage : choices.skip ≡ true → CallKeepsUndamaged
      (λ whole. RunHasResult whole made kept answer) fed
  pub whole_units : CallWritesWholeUnits (λ whole. RunHasResult whole made kept answer) fed

-- a check: a file with status 0 can be restored, and these are the standard files
pub record CheckPromises (fed : List ℕ) (answer : Answer) : Type 0 where
  pub lossless : SaysThatItComesBack answer.status fed
  pub standard : CallJudgesStandard answer.status fed
