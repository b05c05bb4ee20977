-- The answers of an engine, line by line.
use Rattle.std.specs.Prelude.{◌≡◌, ◌⊎◌, ◌≤◌, ℕ, ◌+◌, ⊤, true, false, List, [], ◌∷◌, ◌++◌, length, Some, None}
use Rattle.std.specs.Prelude.{Option, Result, Ok, Err, IfOk, OnErr}
use Rattle.crx_base.specs.meaning.Lines.{InputLine}
use Rattle.crx_base.specs.declared.fault.At.{At}
use Rattle.crx_base.specs.declared.fault.Fault.TheVariants.{OutOfMemory}
use Rattle.crx_base.specs.declared.limits.TheConstants.{INPUT_LIMIT}
use Rattle.crx_runs.specs.meaning.Results.{Course}
use Rattle.crx_base.specs.meaning.Lines.{lines_text}
use Rattle.crx_runs.specs.meaning.Filters.{Filter, course_with, memory_with, with_next}
use Rattle.crx_runs.specs.meaning.Spans.{AreNext}
use Rattle.crx_runs.specs.declared.engine.LineOutput.{LineOutput}
use Rattle.crx_runs.specs.declared.engine.LineOutput.TheVariants.{Nothing, Lines, AsItIs}
use Rattle.crx_runs.specs.declared.engine.Step.{Step}
use Rattle.crx_runs.specs.declared.engine.Step.TheVariants.{Quiet, Ready, Warned}

-- the number of lines taken after an answer: a line that is fed again doesn't count yet
abbrev pub taken_after : Step → ℕ → ℕ
taken_after Quiet count = count + 1
taken_after Ready count = count + 1
taken_after (Warned notice true) count = count
taken_after (Warned notice false) count = count + 1

-- after this answer the line isn't fed again
abbrev pub Stays : Step → Type 0
Stays Quiet = ⊤
Stays Ready = ⊤
Stays (Warned notice true) = ⊥
Stays (Warned notice false) = ⊤

-- lines are pending only after `Ready`
abbrev pub IsDrainedAfter : Step → List (List ℕ) → Type 0
IsDrainedAfter Ready ready = ⊤
IsDrainedAfter Quiet ready = ready ≡ []
IsDrainedAfter (Warned notice again) ready = ready ≡ []

-- the answer to a line: by its output, or the stored answer
abbrev pub answer_given : Option LineOutput → Result Step At → Result Step At
answer_given None kept = kept
answer_given (Some Nothing) kept = Ok Quiet
answer_given (Some Lines) kept = Ok Ready
answer_given (Some AsItIs) kept = Ok Ready

-- the output of a line: the pending lines and, if the line is copied, the line itself after them
abbrev pub lines_handed_out : Option LineOutput → List ℕ → List (List ℕ) → List (List ℕ)
lines_handed_out (Some AsItIs) line ready = ready ++ line ∷ []
lines_handed_out handed_out line ready = ready

-- line `number` may be fed to an engine that has taken `taken` lines: it is the next one, and no line is
-- pending
pub record IsNextLine (ready : List (List ℕ)) (taken number : ℕ) : Type 0 where
  pub drained : ready ≡ []
  pub next : number ≡ taken + 1
  pub within : number ≤ INPUT_LIMIT

-- an engine answers so to a line or to the end: its filter stays, and lines are pending only after `Ready`
pub record HasStepped (before after : Filter) (ready : List (List ℕ)) (answer : Result Step At) : Type 0 where
  pub filter : after ≡ before
  pub drained : IfOk answer (λ step. IsDrainedAfter step ready)
  pub nothing : OnErr answer (ready ≡ [])

-- a course goes on by a text and warnings, and nothing ends it
pub record Adds (before after : Course) (text : List ℕ) (notices : List At) : Type 0 where
  pub output : after.output ≡ before.output ++ text
  pub warnings : after.warnings ≡ before.warnings ++ notices
  pub good : after.fault ≡ None

-- a course ends with a fault, and no further output
pub record EndsWith (before after : Course) (notices : List At) (at : At) : Type 0 where
  pub output : after.output ≡ before.output
  pub warnings : after.warnings ≡ before.warnings ++ notices
  pub fault : after.fault ≡ Some at

-- a warning at a line that is fed again
pub record Awaited : Type 0 where
  pub notice : At
  pub line : InputLine

-- the warnings themselves
abbrev pub awaited_notices : List Awaited → List At
awaited_notices [] = []
awaited_notices (a ∷ others) = a.notice ∷ awaited_notices others

-- if a line is fed again, it is this one
abbrev pub IsAwaited : List Awaited → InputLine → Type 0
IsAwaited [] line = ⊤
IsAwaited (a ∷ others) line = a.line ≡ line

-- pending lines were borrowed, and nothing else of an engine changed: neither its filter nor the lines and
-- the end that it took
pub record KeepsAllElse (before after : Filter) (took takes : List InputLine → List Awaited → Type 0)
    (had_ended has_ended : List InputLine → Type 0) : Type 0 where
  pub filter : after ≡ before
  pub shows : (lines : List InputLine) (notices : List Awaited) → took lines notices → takes lines notices
  pub ended : (lines : List InputLine) → had_ended lines → has_ended lines

-- the state of an engine after the next line or the end
abbrev pub shown_with : (List InputLine → List Awaited → Type 0) → (List InputLine → Type 0) → List InputLine
    → Option InputLine → Type 0
shown_with shows has_ended lines (Some line) = shows (with_next lines line) []
shown_with shows has_ended lines None = has_ended lines

-- or the engine waits for the line again, after this warning; it never waits for the end
abbrev pub awaits : (List InputLine → List Awaited → Type 0) → List InputLine → Option InputLine → At → Type 0
awaits shows lines (Some line) notice = shows lines (record { notice = notice; line = line } ∷ [])
awaits shows lines None notice = ⊥

-- an engine's answer to the line after some lines, or to the end of the input. `notices` has the warning of
-- the first time if the line is fed again. The answer is no output, pending lines, a warning with the line, a
-- warning before the line is fed again, refused memory at a line that may need some, or a fault
abbrev pub EngineAnswers : Filter → (List InputLine → List Awaited → Type 0) → (List InputLine → Type 0)
    → List (List ℕ) → List InputLine → List Awaited → Option InputLine → Result Step At → Type 0
EngineAnswers filter shows has_ended ready lines notices next (Ok Quiet) =
    shown_with shows has_ended lines next
    × Adds (filter.so_far lines) (course_with filter lines next) [] (awaited_notices notices)
EngineAnswers filter shows has_ended ready lines notices next (Ok Ready) =
    shown_with shows has_ended lines next
    × Adds (filter.so_far lines) (course_with filter lines next) (lines_text ready) (awaited_notices notices)
EngineAnswers filter shows has_ended ready lines notices next (Ok (Warned notice true)) =
    awaits shows lines next notice × (notices ≡ [])
    × AreNext (filter.so_far lines) (course_with filter lines next) (notice ∷ [])
EngineAnswers filter shows has_ended ready lines notices next (Ok (Warned notice false)) =
    shown_with shows has_ended lines next
    × Adds (filter.so_far lines) (course_with filter lines next) [] (awaited_notices notices ++ notice ∷ [])
EngineAnswers filter shows has_ended ready lines notices next (Err at) = ((at.fault ≡ OutOfMemory)
    × (at.line ≡ length lines + 1) × (memory_with filter lines next ≡ Some (awaited_notices notices)))
    ⊎ EndsWith (filter.so_far lines) (course_with filter lines next) (awaited_notices notices) at
