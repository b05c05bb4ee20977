-- A run between two lines, and its next step.
use Rattle.std.specs.Prelude.{◌≡◌, ◌⊎◌, ◌<◌, ◌≤◌, Bool, true, false, Contains, List, [], ◌++◌, Option, Some, None, is_some, Result, Ok, Err}
use Rattle.std.specs.Prelude.{IfOk, IfSome, OnOk}
use Rattle.crx_base.specs.meaning.Lines.{InputLine}
use Rattle.crx_lines.specs.Reading.{ReaderState}
use Rattle.crx_lines.specs.Progress.{HasRead}
use Rattle.crx_base.specs.declared.fault.At.{At}
use Rattle.crx_base.specs.declared.limits.TheConstants.{INPUT_LIMIT}
use Rattle.crx_lines.specs.declared.phase.Phase.TheVariants.{Open, Ended}
use Rattle.crx_lines.specs.declared.device.Sink.{Ghosts as SinkGhosts}
use Rattle.crx_lines.specs.declared.device.Source.{Ghosts as SourceGhosts}
use Rattle.crx_runs.specs.declared.engine.Engine.{Ghosts as EngineGhosts}
use Rattle.crx_runs.specs.declared.one_line.Halt.{Halt}
use Rattle.crx_runs.specs.declared.one_line.Halt.TheVariants.{Unwritten}
use Rattle.crx_runs.specs.declared.stepwise.StepOutcome.{StepOutcome}
use Rattle.crx_runs.specs.declared.stepwise.StepOutcome.TheVariants.{Taken, Warned, AtEnd, Stopped}
use Rattle.crx_runs.specs.Taking.{HandsOnFirst}
use Rattle.crx_runs.specs.meaning.Results.{Course, are_some}
use Rattle.crx_runs.specs.meaning.Filters.{Filter, with_next}
use Rattle.crx_runs.specs.meaning.Spans.{Device, Input, reader_span, span}
use Rattle.crx_runs.specs.Endings.{IsAllOut, StopsAt}
use Rattle.crx_runs.specs.Engines.{Awaited}

-- these lines of an input were read, and their output and warnings were written and reported
pub record IsRunning (input : Input)
    (writer messages : Device) (now : ReaderState) (lines : List InputLine) (course : Course) : Type 0 where
  pub read : HasRead input.gave input.at_end input.start input.counted now lines
  pub going : (now.phase ≡ Open) ⊎ (now.phase ≡ Ended)
  pub out : IsAllOut writer messages course

-- each line so far had at least one byte, and all are within the limit of an input
abbrev pub IsWithinLimit : ReaderState → Type 0
IsWithinLimit now = (now.number ≤ now.passed) × (now.passed ≤ INPUT_LIMIT)

-- a line was taken, and the run continues
pub record GoesOnBy (filter : Filter) (shows : List InputLine → List Awaited → Type 0) (input : Input)
    (writer messages : Device) (now : ReaderState) (lines : List InputLine) (warned : Bool) : Type 0 where
  pub line : InputLine
  pub shown : shows (with_next lines line) []
  pub running : IsRunning input writer messages now (with_next lines line) (filter.so_far (with_next lines line))
  pub notices : List At
  pub added : (filter.so_far (with_next lines line)).warnings ≡ (filter.so_far lines).warnings ++ notices
  pub flag : warned ≡ are_some notices

-- the end of the input was reported
pub record ComesToEnd (filter : Filter) (shows : List InputLine → List Awaited
    → Type 0) (input : Input) (writer messages : Device) (now : ReaderState) (lines : List InputLine) : Type 0 where
  pub shown : shows lines []
  pub running : IsRunning input writer messages now lines (filter.so_far lines)
  pub ended : now.phase ≡ Ended

-- the result of a step with a line
abbrev pub stepped : Result Bool Halt → Result (Option Bool) Halt
stepped (Ok warned) = Ok (Some warned)
stepped (Err halt) = Err halt

-- the result of a step; a run that stopped stores why, so the last case is never used, by `IsEndKept`
abbrev pub step_answer : StepOutcome → Option Halt → Result (Option Bool) Halt
step_answer Taken ended = Ok (Some false)
step_answer Warned ended = Ok (Some true)
step_answer AtEnd ended = Ok None
step_answer Stopped (Some halt) = Err halt
step_answer Stopped None = Err Unwritten

-- a run that stopped stores why it ended, and no other step changes that
abbrev pub IsEndKept : StepOutcome → Option Halt → Option Halt → Type 0
IsEndKept Stopped before now = is_some now ≡ true
IsEndKept outcome before now = now ≡ before

-- one step over the input: a line was taken, the end was reported, or the run ended
abbrev pub StepGoes : Filter → (List InputLine → List Awaited → Type 0)
    → Input → Device → Device → ReaderState → List InputLine → Result (Option Bool) Halt → Type 0
StepGoes filter shows input writer messages now lines (Ok None) =
    ComesToEnd filter shows input writer messages now lines
StepGoes filter shows input writer messages now lines (Ok (Some warned)) =
    GoesOnBy filter shows input writer messages now lines warned
StepGoes filter shows input writer messages now lines (Err halt) =
    StopsAt filter input writer messages now lines halt

-- a run can take its next step: no line is pending, its input can be read on and is within its limit, and its
-- engine has taken all lines that were read
pub record CanStep {E : Type 0} (engine : EngineGhosts E) (before : E) (old : ReaderState) : Type 0 where
  pub drained : engine.ready before ≡ []
  pub going : (old.phase ≡ Open) ⊎ (old.phase ≡ Ended)
  pub next : old.number ≡ engine.taken before
  pub counted : IsWithinLimit old

-- a run took a step by the same filter. Unless that ended the run, no line is pending; if a line was taken,
-- more bytes are read, within the limit of an input. The reader is called only if no whole line was held. If
-- output is awaited, it is passed on before anything is reported
pub record RunHasStepped {E R W M : Type 0} (engine : EngineGhosts E) (sink : SinkGhosts W) (before after : E)
    (old new : ReaderState) (reader reader' : R) (writer : W) (messages messages' : M)
    (result : Result (Option Bool) Halt) : Type 0 where
  pub filter : engine.filter after ≡ engine.filter before
  pub drained : OnOk result (engine.ready after ≡ [])
  pub counted : OnOk result (IsWithinLimit new)
  pub farther : IfOk result (λ o. IfSome o (λ _. old.passed < new.passed))
  pub unasked : Contains old.rest 10 → reader' ≡ reader
  pub told : (messages' ≡ messages) ⊎ HandsOnFirst sink writer

-- after any reading, writing and reporting before it, the step continues the run or ends it
abbrev pub RunGoesOn : {E R W M : Type 0} → EngineGhosts E → SourceGhosts R → SinkGhosts W → SinkGhosts M → E → E
    → ReaderState → ReaderState → R → R → W → W → M → M → Result (Option Bool) Halt → Type 0
RunGoesOn {R = R} {W = W} {M = M} engine source sink message_sink before after old new reader reader' writer writer'
    messages messages' result = (r0 : R) (w0 : W) (m0 : M) (lines : List InputLine) → engine.shows before lines []
    → IsRunning (reader_span source r0 reader) (span sink w0 writer) (span message_sink m0 messages) old lines
    ((engine.filter before).so_far lines)
    → StepGoes (engine.filter before) (engine.shows after) (reader_span source r0 reader') (span sink w0 writer')
    (span message_sink m0 messages') new lines result
