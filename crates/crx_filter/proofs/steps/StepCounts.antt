-- The number of lines taken after a step, and its ready lines.
use Rattle.crx_filter.proofs.Vocabulary.{common_steps, arith, ◌≡◌, inl, inr, ℕ}
use Rattle.crx_filter.proofs.Vocabulary.{false, List, [], Result, Some, length}
use Rattle.crx_filter.proofs.Vocabulary.{length-append, InputLine, ReadLine, At}
use Rattle.crx_filter.proofs.Vocabulary.{Choices, Direction, RunState, Made, ap}
use Rattle.crx_filter.proofs.Vocabulary.{made_in}
use Rattle.crx_filter.proofs.{Vocabulary.{Steps, answer_of_step, step_made, step_of_made}, ReadyLines.{quiet-next}}
use Rattle.crx_filter.specs.{Laws.is_ready, LineByLine.state_end_with}
use Rattle.crx_runs.specs.Engines.{Awaited, EngineAnswers, HasStepped, taken_after, IsDrainedAfter}
use Rattle.crx_runs.specs.{declared.engine.Step.Step, meaning.Filters.Filter}
use Rattle.std.proofs.Common.{IfOk, OnErr}

-- lines are ready only if the answer is that they are
drained-where : (ready : List (List ℕ)) (result : Result Step At) → (is_ready (answer_of_step result) ≡ false
    → ready ≡ []) → IfOk result (λ step. IsDrainedAfter step ready) × OnErr result (ready ≡ [])
drained-where ready result none = grind (arith, common_steps)

module _ {U O K : Type 0} (direction : Direction U O K) (before now : RunState O K) (line : ReadLine)
    (ready : List (List ℕ)) (result : Result Step At) where
  -- a line counts unless it is fed again
  made-counted : (made : Made U O) → step_made result ready now ≡ step_of_made direction before line made
      → IfOk result (λ s. now.number ≡ taken_after s before.number)
  made-counted made step = grind (arith, common_steps)

  made-choices : (made : Made U O) → step_made result ready now ≡ step_of_made direction before line made
      → now.choices ≡ before.choices
  made-choices made step = grind (arith, common_steps)

  pub steps-counted : Steps direction before line result ready now
      → IfOk result (λ s. now.number ≡ taken_after s before.number)
  steps-counted (inl step) = made-counted (made_in direction before.phase before.types before.kept line) step
  steps-counted (inr out) = grind (arith, common_steps, taken_after)

  pub steps-choices : Steps direction before line result ready now
      → now.choices ≡ before.choices
  steps-choices (inl step) = made-choices (made_in direction before.phase before.types before.kept line) step
  steps-choices (inr out) = grind (arith, common_steps)

  steps-drained : Steps direction before line result ready now
      → IfOk result (λ s. IsDrainedAfter s ready) × OnErr result (ready ≡ [])
  steps-drained (inl step) =
      drained-where ready result (quiet-next direction before line (step_made result ready now) step)
  steps-drained (inr out) = grind (arith, common_steps)

  -- so an engine has stepped by its filter
  pub has-stepped : (filter : Choices → Filter) → Steps direction before line result ready now
      → HasStepped (filter before.choices) (filter now.choices) ready result
  has-stepped filter steps =
      let drained = steps-drained steps in
      record { filter = ap filter (steps-choices steps); drained = drained.0; nothing = drained.1 }

-- an answer to a line shows how many lines were taken, if they were counted before it
pub answers-counted : (filter : Filter) (shows : List InputLine → List Awaited → Type 0)
    (has_ended : List InputLine → Type 0) (before after : ℕ)
    (ready : List (List ℕ)) (lines : List InputLine) (notices : List Awaited) (line : InputLine)
    (result : Result Step At) → before ≡ length lines → IfOk result (λ step. after ≡ taken_after step before)
    → EngineAnswers filter shows has_ended ready lines notices (Some line) result → EngineAnswers filter
    (λ ls ns. shows ls ns × (after ≡ length ls)) has_ended ready lines notices (Some line) result
answers-counted filter shows has_ended before after ready lines notices line result was counts answers =
    grind (arith, common_steps, length-append)

-- at the end, too, an engine steps by its filter
pub end-stepped : {U O K : Type 0} (direction : Direction U O K) (closing ready : List (List ℕ))
    (before now : RunState O K) (result : Result Step At) (filter : Choices → Filter)
    → step_made result ready now ≡ state_end_with direction closing before
    → HasStepped (filter before.choices) (filter now.choices) ready result
end-stepped direction closing ready before now result filter e = grind (arith, common_steps)
