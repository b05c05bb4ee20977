-- The steps of an engine of either direction.
use Rattle.std.specs.Prelude.{◌≡◌, ◌⊎◌, ℕ, ◌+◌, true, List, [], Result, Ok, Err}
use Rattle.crx_base.specs.meaning.AsRead.{ReadLine}
use Rattle.crx_base.specs.declared.fault.At.{At}
use Rattle.crx_base.specs.declared.fault.Fault.TheVariants.{OutOfMemory}
use Rattle.crx_filter.specs.LineByLine.{RunState, Direction, Answer, Quiet as LineQuiet, Ready as LineReady, Notice}
use Rattle.crx_filter.specs.LineByLine.{Ended, Failed, Step as LineStep, state_next, with_phase}
use Rattle.crx_filter.specs.Memory.{may_reserve}
use Rattle.crx_runs.specs.declared.engine.Step.{Step}
use Rattle.crx_runs.specs.declared.engine.Step.TheVariants.{Quiet, Ready, Warned}

abbrev pub answer_of_step : Result Step At → Answer
answer_of_step (Ok Quiet) = LineQuiet
answer_of_step (Ok Ready) = LineReady
answer_of_step (Ok (Warned notice again)) = Notice notice again
answer_of_step (Err at) = Failed at

-- an engine's answer, the lines that are then ready, and its state then
abbrev pub step_made : {O K : Type 0} → Result Step At → List (List ℕ) → RunState O K → LineStep O K
step_made result ready after = record { answer = answer_of_step result; handed_out = ready; next = after }

-- the step of a line at which memory ran out
abbrev pub out_of_memory : {U O K : Type 0} → Direction U O K → RunState O K → LineStep O K
out_of_memory direction before =
    let at : At = record { line = before.number + 1; fault = OutOfMemory } in
    record { answer = Failed at; handed_out = []; next = with_phase direction before (Ended at) }

-- an engine made the step of a line; or memory ran out at a line that may reserve some
abbrev pub Steps : {U O K : Type 0} → Direction U O K → RunState O K → ReadLine → Result Step At
    → List (List ℕ) → RunState O K → Type 0
Steps direction before line result ready after = (step_made result ready after ≡ state_next direction before line)
    ⊎ ((may_reserve direction.reserves_first direction.reserves_next before.phase line ≡ true)
    × (step_made result ready after ≡ out_of_memory direction before))
