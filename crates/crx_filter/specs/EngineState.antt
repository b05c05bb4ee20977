-- The state of an engine of a direction.
use Rattle.std.specs.Prelude.{◌≡◌, ⊤, ℕ, true, List, length, Result, Ok, Err}
use Rattle.std.specs.Prelude.{IfErr, IfOk, OnErr}
use Rattle.crx_base.specs.meaning.Choices.{Choices}
use Rattle.crx_base.specs.declared.fault.At.{At}
use Rattle.crx_base.specs.meaning.Lines.{InputLine}
use Rattle.crx_base.specs.meaning.AsRead.{ReadLine}
use Rattle.crx_filter.specs.EngineLines.{HasTaken}
use Rattle.crx_filter.specs.DirectionParts.{EngineParts, IsAfterLines, ComesAfter, state_by}
use Rattle.crx_filter.specs.LineByLine.{Ended, RunState, state_end_with}
use Rattle.crx_runs.specs.Engines.{Awaited}
use Rattle.crx_filter.specs.EngineLaws.{GoesLineByLine}
use Rattle.crx_filter.specs.EngineSteps.{Steps, step_made}
use Rattle.crx_runs.specs.declared.engine.Step.{Step}
use Rattle.crx_runs.specs.declared.engine.Step.TheVariants.{Warned}
use Rattle.crx_runs.specs.meaning.Filters.{with_next}
use Rattle.crx_filter.specs.declared.direction.Direction.{Ghosts}

-- the notes after the answer to a line: about the lines before it if it is to be fed again, and otherwise about it
-- too; after an error nothing more
abbrev pub KnowsAfter : (List InputLine → Type 0) → List InputLine → InputLine → Result Step At → Type 0
KnowsAfter knows lines line (Ok (Warned notice true)) = knows lines
KnowsAfter knows lines line (Ok step) = knows (with_next lines line)
KnowsAfter knows lines line (Err at) = ⊤

module _ {D : Type 0} (d : Ghosts D) where
  abbrev pub engine_state : EngineParts D → RunState d.Open d.Kept
  engine_state e = state_by e.options e.number (d.parts e.direction)

  -- the pending lines
  abbrev pub engine_ready : EngineParts D → List (List ℕ)
  engine_ready e = d.ready e.direction

  -- its state is the state after these lines; if one is to be fed again, it has returned this warning to it
  abbrev pub engine_seen : EngineParts D → List InputLine → List Awaited → Type 0
  engine_seen e lines notices =
      HasTaken d.by_line (d.state_after_lines e.options) (engine_state e) lines notices

  -- it has taken these lines, and the notes of its direction are right for them; if one is to be fed again, it has
  -- returned this warning to it
  abbrev pub engine_took : EngineParts D → List InputLine → List Awaited → Type 0
  engine_took e lines notices = engine_seen e lines notices × d.notes_are_right e.direction e.options lines

  -- it follows its filter line by line
  pub record EngineGoes (e : EngineParts D) : Type 0 where
    pub chosen : d.options_used e.options ≡ e.options
    pub lawful : GoesLineByLine d.by_line (d.lines_at_end_after e.options) (d.state_after_lines e.options)
        (d.filter e.options)

  -- if the notes of its direction are right for the lines taken, they are right with the next one too, once that
  -- counts
  abbrev pub EngineNotes : EngineParts D → InputLine → Result Step At → EngineParts D → Type 0
  EngineNotes before line result after = (lines : List InputLine) → before.number ≡ length lines
      → ComesAfter d.by_line d.options_used d.state_after_lines before.options lines line (d.parts before.direction)
      → d.notes_are_right before.direction before.options lines
      → KnowsAfter (d.notes_are_right after.direction before.options) lines line result

  -- it has taken a line, read as `read`, and these lines are ready then. It has made the line's step, or the step of
  -- memory that ran out; a fault that is returned has ended the run. The notes of its direction are right with this
  -- line too; after a fault they are right for the same lines
  pub record TakesLine (before : EngineParts D) (line : InputLine) (read : ReadLine) (result : Result Step At)
      (ready : List (List ℕ)) (after : EngineParts D) : Type 0 where
    pub goes : EngineGoes before
    pub steps : Steps d.by_line (engine_state before) read result ready (engine_state after)
    pub ended : IfErr result (λ at. (engine_state after).phase ≡ Ended at)
    pub notes : EngineNotes before line result after
    pub stays : (choices : Choices) (lines : List InputLine) → d.notes_are_right before.direction choices lines
        → OnErr result (d.notes_are_right after.direction choices lines)

  -- it has taken the end of the input, and these lines are ready then. It has made the step of the end, with the
  -- lines that are due after the lines taken. Its report is right for these
  pub record TakesEnd (before : EngineParts D) (result : Result Step At) (ready : List (List ℕ))
      (after : EngineParts D) : Type 0 where
    pub goes : EngineGoes before
    pub steps : step_made result ready (engine_state after)
        ≡ state_end_with d.by_line (d.lines_at_end before.direction) (engine_state before)
    pub closes : (lines : List InputLine)
        → IsAfterLines d.options_used d.state_after_lines before.options lines (d.parts before.direction)
        → d.notes_are_right before.direction before.options lines → (step_made result ready (engine_state after)
        ≡ state_end_with d.by_line (d.lines_at_end_after before.options lines) (engine_state before))
        × IfOk result (λ step. d.report_is_right after.direction lines)
    pub stays : (choices : Choices) (lines : List InputLine) → d.notes_are_right before.direction choices lines
        → OnErr result (d.notes_are_right after.direction choices lines)
