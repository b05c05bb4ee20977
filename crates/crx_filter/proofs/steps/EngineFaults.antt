-- The answer of an engine to a line with a fault, to a line that is too long, and to the input's end.
use Rattle.crx_filter.proofs.Vocabulary
use Rattle.crx_filter.specs
use Vocabulary.{common_steps, arith, ◌≡◌, ℕ, ◌+◌, Bool, true, false, ◌&&◌, List, [], Option, Some, None, Result}
use Vocabulary.{Ok, Err, Content, Overlong, At, Fault, LineTooLong}
use Vocabulary.{OutOfMemory, Count, Choices, RunState, Direction}
use Vocabulary.{Rejects, made_in, is_skipped_in, may_skip, is_skippable, failed_step, state_next}
use Vocabulary.{begins_epoch, step_made, is_held, phase_of_stage, Stage, false≢true, InputLine}
use Vocabulary.{ReadLine, Steps, as_read, length, LINE_LIMIT, ◌≤◌, refl, sym, ap, ◌∙◌, inl, inr, step_of_made}
use specs.DirectionParts.{DirectionParts, state_by, Reads, AnswersToFault, handed_out_by}
use specs.{DirectionParts.{EngineParts, KnowsStill}, EngineState.{EngineGoes, TakesLine}}
use specs.{EngineState.{engine_ready, engine_state}, declared.direction.Direction.Ghosts}
use specs.{DirectionParts.hands_out, EngineSteps.answer_of_step, LineByLine.{end_step, answer_of_lines}}
use specs.{LineByLine.{Ended as EndedPhase, fault_at_end_in, state_end_with}, Stages.{bare_phase, is_settled}}
use specs.declared.stage.Stage.TheVariants.{Closed, Ended}
use Rattle.crx_filter.proofs.{following.Agreement.failed-ends, steps.EngineAnswers.as-read-within}
use Rattle.crx_runs.specs.declared.engine.Step.{Step, TheVariants.{Warned}}
use Rattle.std.proofs.Common.{IfErr, OnErr}
use Rattle.crx_runs.specs.Engines.{answer_given, lines_handed_out}
use Rattle.crx_runs.specs.declared.engine.LineOutput.{LineOutput}

-- a statement holds after an error if it holds anyway
pub after-error : {A B P : Type 0} (result : Result A B) → P → OnErr result P
after-error result is = grind (arith, common_steps)

module _ {U O K : Type 0} (direction : Direction U O K) where
  -- a line was taken, with output or without
  pub handed-line : (serves : Choices → Type 0) (choices : Choices) (last : ℕ)
      (before parts : DirectionParts O K) (line : List ℕ) (out : LineOutput)
      (stored : Result Step At) (ready : List (List ℕ)) → serves choices
      → Reads direction serves before line (hands_out (Ok out)) (handed_out_by (Ok out) line ready) parts
      → Steps direction (state_by choices last before) (Content line) (answer_given (Some out) stored)
      (lines_handed_out (Some out) line ready) (state_by choices (last + 1) parts)
  handed-line serves choices last before parts line out stored ready chosen reads =
      grind (arith, common_steps, reads.takes choices last chosen)

  never-skipped : (state : RunState O K) → is_skipped_in state OutOfMemory ≡ false
  never-skipped state = grind (arith, common_steps)

  -- at a fault no line is ready
  pub none-handed : (state : RunState O K) (line : ReadLine) (fault : Fault)
      → (failed_step direction state line fault).handed_out ≡ []
  none-handed state line fault = grind (arith, common_steps)

  -- a line was refused: with its fault, or because memory ran out
  refused-line : (choices : Choices) (last : ℕ) (fault : Fault) (serves : Choices → Type 0)
      (before parts : DirectionParts O K) (line : List ℕ) (result : Result Step At)
      (given ready : List (List ℕ)) (after : RunState O K) → step_made result ready after
      ≡ failed_step direction (state_by choices last before) (Content line) fault
      → Reads direction serves before line (Err fault) given parts
      → Steps direction (state_by choices last before) (Content line) result ready after
  refused-line choices last fault serves before parts line result given ready after stopped reads =
      let state : RunState O K = state_by choices last before in
      elim reads.refuses [
        | inl made ↦ inl (stopped ∙ sym (ap (step_of_made direction state (Content line)) made))
        | inr out ↦ inr (
          out.1,
          stopped ∙ ap (failed_step direction state (Content line)) out.0
              ∙ failed-ends direction state (Content line) OutOfMemory (never-skipped state),
        )
      ]

  -- a line that is too long is a fault wherever lines are read
  made-too_long : ((types : List Count) (kept : K) → direction.begins types kept Overlong ≡ Rejects
      LineTooLong) → ((so_far : O) → direction.continues so_far Overlong ≡ Rejects LineTooLong) → (stage :
      Stage) (begun : Option O) (types : List Count) (kept : K) → is_held stage begun ≡ true → is_settled
      stage ≡ false → made_in direction (phase_of_stage begun stage) types kept Overlong ≡ Rejects LineTooLong
  made-too_long first next stage begun types kept held going = grind (arith, common_steps)

  pub long-next : (first : (types : List Count) (kept : K) → direction.begins types kept Overlong ≡ Rejects
      LineTooLong) (next : (so_far : O) → direction.continues so_far Overlong ≡ Rejects LineTooLong)
      (choices : Choices) (last : ℕ) (stage : Stage) (parts : DirectionParts O K) → stage ≡ parts.stage
      → is_held stage parts.begun ≡ true → is_settled stage ≡ false
      → state_next direction (state_by choices last parts) Overlong
      ≡ failed_step direction (state_by choices last parts) Overlong LineTooLong
  long-next first next choices last stage parts was held going =
      grind (arith, common_steps, made-too_long first next parts.stage parts.begun parts.types parts.kept)

  -- a fault that is returned ends the run
  pub ended-by : (before after : RunState O K) (fault : Fault) (read : ReadLine) (result : Result Step At)
      (ready : List (List ℕ)) → step_made result ready after ≡ failed_step direction before read fault
      → IfErr result (λ at. after.phase ≡ EndedPhase at)
  ended-by before after fault read (Ok step) ready stopped = tt
  ended-by before after fault read (Err at) ready stopped = grind (arith, common_steps)

  -- ---- the end of the input

  module _ (choices : Choices) (number : ℕ) (before after : DirectionParts O K) (stage : Stage)
      (was : stage ≡ before.stage) (held : is_held stage before.begun ≡ true)
      (going : (at : At) → stage ≡ Ended at → ⊥) (typed : after.types ≡ before.types)
      (closing : List (List ℕ)) where
    ends : state_end_with direction closing (state_by choices number before)
        ≡ end_step direction closing (state_by choices number before) (fault_at_end_in (bare_phase stage))
    ends = grind (arith, common_steps)

    skips : (fault : Fault) (a b c : Bool) → a ≡ choices.skip → b ≡ may_skip (bare_phase stage)
        → c ≡ is_skippable fault → is_skipped_in (state_by choices number before) fault ≡ ((a && b) && c)
    skips fault a b c is-a is-b is-c = grind (arith, common_steps)

    -- an end without a fault: the answer depends on the lines that are ready
    pub ends-well : (result : Result Step At) (ready : List (List ℕ)) → answer_of_step result
        ≡ answer_of_lines closing → ready ≡ closing → after.stage ≡ Closed → after.kept ≡ before.kept
        → fault_at_end_in (bare_phase stage) ≡ None → step_made result ready (state_by choices number after)
        ≡ state_end_with direction closing (state_by choices number before)
    ends-well result ready answered handed_out staged kept none = grind (arith, common_steps, ends)

    module _ (fault : Fault) (a b c : Bool) (is-a : a ≡ choices.skip) (is-b : b ≡ may_skip (bare_phase stage))
        (is-c : c ≡ is_skippable fault) (some : fault_at_end_in (bare_phase stage) ≡ Some fault)
        (kept : after.kept ≡ direction.emptied before.kept) where
      pub ends-skipped : after.stage ≡ Closed → ((a && b) && c) ≡ true
          → step_made (Ok (Warned (record { line = number + 1; fault = fault }) false)) []
          (state_by choices number after) ≡ state_end_with direction closing (state_by choices number before)
      ends-skipped staged on = grind (arith, common_steps, ends, skips)

      pub ends-failed : after.stage ≡ Ended (record { line = number + 1; fault = fault }) → ((a && b) && c)
          ≡ false → step_made (Err (record { line = number + 1; fault = fault })) []
          (state_by choices number after) ≡ state_end_with direction closing (state_by choices number before)
      ends-failed staged off = grind (arith, common_steps, ends, skips)

-- ---- a refused line

module _ {D : Type 0} (d : Ghosts D) (before after : EngineParts D) (line : InputLine) (goes : EngineGoes d
    before) (past : KnowsStill d.by_line d.options_used d.state_after_lines (d.parts before.direction)
    (d.notes_are_right before.direction))
    (stays : (choices : Choices) (lines : List InputLine) → d.notes_are_right before.direction choices lines
    → d.notes_are_right after.direction choices lines) where
  -- the line was taken, and these are the notes after it
  pub refused-takes : (fault : Fault) (read : ReadLine) (result : Result Step At) (ready : List (List ℕ))
      → step_made result ready (engine_state d after) ≡ failed_step d.by_line (engine_state d before) read
      fault
      → as_read line ≡ read → Steps d.by_line (engine_state d before) read result ready (engine_state d after) → TakesLine d before line read result ready after
  refused-takes fault read result ready stopped is steps = record {
    goes = goes;
    steps = steps;
    ended = ended-by d.by_line _ _ fault read result ready stopped;
    notes = λ lines counted given known. grind (arith, common_steps, false≢true);
    stays = λ choices lines known. after-error result (stays choices lines known);
  }

  -- the same once its fault is answered
  pub refused-read : {stage : Stage} {fault : Fault} {goes_on : Bool} {parts : DirectionParts d.Open d.Kept}
      {serves : Choices → Type 0} {given : List (List ℕ)} → length line.content ≤ LINE_LIMIT
      → AnswersToFault d.by_line before.options (before.number + 1) stage fault goes_on parts after.answer
      (engine_ready d after) (engine_state d after) → (d.parts before.direction).stage ≡ stage
      → is_held stage (d.parts before.direction).begun ≡ true → begins_epoch line.content ≡ goes_on
      → Reads d.by_line serves (d.parts before.direction) line.content (Err fault) given parts
      → TakesLine d before line (Content line.content) after.answer (engine_ready d after) after
  refused-read {fault = fault} short fails was held goes_on reads =
      let stopped = fails (d.parts before.direction) (Content line.content) before.number
      (record { stage_was = was; held = held; types = reads.types; kept = reads.kept; goes = goes_on }) refl
      in
      refused-takes fault _ _ _ stopped (as-read-within line line.content short refl)
      (refused-line d.by_line before.options before.number fault _ (d.parts before.direction) _
      line.content _ _ _ _ stopped reads)
