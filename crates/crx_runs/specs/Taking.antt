-- One line of the input through a run.
use Rattle.std.specs.Prelude.{◌≡◌, ◌⊎◌, ◌≤◌, ℕ, ◌+◌, ⊤, Bool, true, false, List, [], ◌∷◌, length, Option, Some, None}
use Rattle.std.specs.Prelude.{Result, Ok, Err, IfErr, IfOk, OnOk}
use Rattle.crx_base.specs.meaning.Lines.{InputLine, lines_text}
use Rattle.crx_base.specs.declared.fault.At.{At}
use Rattle.crx_base.specs.declared.limits.TheConstants.{INPUT_LIMIT, LINE_LIMIT}
use Rattle.crx_lines.specs.declared.device.Sink.{Ghosts as SinkGhosts}
use Rattle.crx_runs.specs.declared.engine.Engine.{Ghosts as EngineGhosts}
use Rattle.crx_runs.specs.declared.engine.Step.{Step}
use Rattle.crx_runs.specs.declared.engine.Step.TheVariants.{Quiet, Ready, Warned}
use Rattle.crx_runs.specs.declared.one_line.Halt.{Halt}
use Rattle.crx_runs.specs.declared.one_line.Halt.TheVariants.{Unwritten}
use Rattle.crx_lines.specs.declared.device.WriteFailed.{WriteFailed}
use Rattle.crx_runs.specs.meaning.Results.{Course}
use Rattle.crx_runs.specs.meaning.Filters.{course_with, memory_with}
use Rattle.crx_runs.specs.Engines.{Adds, EngineAnswers, IsDrainedAfter, KeepsAllElse, shown_with, taken_after}
use Rattle.crx_runs.specs.Endings.{EndsAt, EndsFrom, IsAllOut, WarnsAtEnd}
use Rattle.crx_runs.specs.meaning.Messages.{notices_text}
pub use Rattle.crx_runs.specs.meaning.Results.{are_some}
use Rattle.crx_runs.specs.meaning.Spans.{Device, TookAll}

-- the warning of a step, if it has one
abbrev pub step_notices : Step → List At
step_notices Quiet = []
step_notices Ready = []
step_notices (Warned notice again) = notice ∷ []

-- ---- an engine

-- an engine holds its answer to the line of this content and number. The line is within its limit, and may be
-- fed again if the answer says so
pub record HoldsAnswer {E : Type 0} (engine : EngineGhosts E) (now : E) (content : List ℕ) (number : ℕ) : Type 0 where
  pub short : length content ≤ LINE_LIMIT
  pub drained : IfOk (engine.answer now) (λ step. IsDrainedAfter step (engine.ready now))
  pub next : IfOk (engine.answer now) (λ step. (count : ℕ)
      × (engine.taken now ≡ taken_after step count) × (number ≡ count + 1))
  pub within : number ≤ INPUT_LIMIT

-- an engine holds its answer to this line, which follows some lines
abbrev pub WasAnswered : {E : Type 0} → EngineGhosts E → E → InputLine → List InputLine → Option InputLine → Type 0
WasAnswered engine now line lines next = EngineAnswers (engine.filter now) (engine.shows now)
    (engine.has_ended now) (engine.ready now) lines [] next (engine.answer now) × (next ≡ Some line)

-- this line follows some lines that an engine has taken
abbrev pub IsLineAfter : {E : Type 0} → EngineGhosts E → E → InputLine → List InputLine → Option InputLine → Type 0
IsLineAfter engine now line lines next = engine.shows now lines [] × (next ≡ Some line)

-- pending lines were borrowed from an engine, and nothing else of it changed
abbrev pub KeepsLines : {E : Type 0} → EngineGhosts E → E → E → Type 0
KeepsLines engine before now = KeepsAllElse (engine.filter before) (engine.filter now) (engine.shows before)
    (engine.shows now) (engine.has_ended before) (engine.has_ended now)

-- ---- one step

-- carrying out a step changes an engine only by borrowing its pending lines
abbrev pub IsTouchedBy : {E : Type 0} → Step → E → E → Type 0
IsTouchedBy Ready before now = ⊤
IsTouchedBy Quiet before now = now ≡ before
IsTouchedBy (Warned notice again) before now = now ≡ before

-- all output was passed on before the writer took more, if it is awaited, or that failed
abbrev pub HandsOnFirst : {W : Type 0} → SinkGhosts W → W → Type 0
HandsOnFirst {W = W} writer before = (then : W) × writer.took before [] then
    × ((writer.is_awaited then ≡ true → writer.is_current then) ⊎ (writer.is_broken then ≡ true))

-- if output is awaited, it is passed on before anything is reported; and it stays awaited or not
pub record KeepsOrder {W M : Type 0} (sink : SinkGhosts W) (writer writer' : W) (messages messages' : M) : Type 0 where
  pub told : (messages' ≡ messages) ⊎ HandsOnFirst sink writer
  pub awaited : sink.is_awaited writer' ≡ sink.is_awaited writer

-- only a warning is reported, after all earlier output was passed on
abbrev pub ReportsLast : {W M : Type 0} → SinkGhosts W → Step → W → M → M → Type 0
ReportsLast writer Quiet at before after = after ≡ before
ReportsLast writer Ready at before after = after ≡ before
ReportsLast writer (Warned notice again) at before after = HandsOnFirst writer at

-- the output and the warnings of a step
abbrev pub made_by : List (List ℕ) → Step → Course
made_by handed_out step = record { output = lines_text handed_out; warnings = step_notices step; fault = None }

-- a step was written and reported, `warned` says whether it has a warning; or that failed
abbrev pub IsSettled : Device → Device → Course → Result Bool Halt → Type 0
IsSettled writer messages made (Ok warned) = IsAllOut writer messages made × (warned ≡ are_some made.warnings)
IsSettled writer messages made (Err halt) =
    EndsAt None 0 writer messages (record { output = []; warnings = []; fault = None }) made halt

-- ---- one line

-- a line or the end was taken: its output and warnings were written and reported
pub record IsDone (before after : Course) (shown : Type 0) (writer messages : Device) (warned : Bool) : Type 0 where
  pub is_shown : shown
  pub text : List ℕ
  pub notices : List At
  pub adds : Adds before after text notices
  pub wrote : TookAll writer text
  pub reported : TookAll messages (notices_text notices)
  pub flag : warned ≡ are_some notices

-- the next line or the end was taken; or it ended the run, perhaps because memory was refused at line
-- `number`
abbrev pub Becomes : Option (List At) → ℕ → Course → Course → Type 0 → Device → Device → Result Bool Halt →
    Type 0
Becomes memory number before after shown writer messages (Ok warned) =
    IsDone before after shown writer messages warned
Becomes memory number before after shown writer messages (Err halt) =
    EndsFrom memory number writer messages before after halt

-- an engine took a line or the end, any that `comes` allows
pub record TakesNext {E : Type 0} (engine : EngineGhosts E) (before now : E)
    (comes : List InputLine → Option InputLine → Type 0)
    (writer messages : Device) (result : Result Bool Halt) : Type 0 where
  pub filter : engine.filter now ≡ engine.filter before
  pub drained : OnOk result (engine.ready now ≡ [])
  pub becomes : (lines : List InputLine) (next : Option InputLine) → comes lines next
      → Becomes (memory_with (engine.filter before) lines next) (length lines + 1)
      ((engine.filter before).so_far lines) (course_with (engine.filter before) lines next)
      (shown_with (engine.shows now) (engine.has_ended now) lines next) writer messages result

-- an engine took a line and its output was written, or that failed; or it holds an answer to the line
abbrev pub HasHandedOut : {E : Type 0} → EngineGhosts E → E → E → InputLine → ℕ → Device → Device
    → Result Bool WriteFailed → Type 0
HasHandedOut engine before now line number writer messages (Ok true) =
    TakesNext engine before now (IsLineAfter engine before line) writer messages (Ok false)
HasHandedOut engine before now line number writer messages (Ok false) =
    HoldsAnswer engine now line.content number × (engine.filter now ≡ engine.filter before)
    × ((lines : List InputLine) → engine.shows before lines [] → WasAnswered engine now line lines (Some line))
HasHandedOut engine before now line number writer messages (Err failed) =
    TakesNext engine before now (IsLineAfter engine before line) writer messages (Err Unwritten)

-- if the end of the input ended the run, after whichever lines, it has no warning, or the one that couldn't
-- be reported
abbrev pub EndWarns : {E : Type 0} → EngineGhosts E → E → Result Bool Halt → Type 0
EndWarns engine before result = (lines : List InputLine) → engine.shows before lines []
    → IfErr result (WarnsAtEnd ((engine.filter before).so_far lines) ((engine.filter before).whole lines))
