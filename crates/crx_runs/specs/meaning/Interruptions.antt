-- The state after a run that a fault, a device or memory ended, by the bytes that its reader gave.
use Rattle.std.specs.Prelude.{◌≡◌, ◌⊎◌, ◌<◌, ◌≤◌, ℕ, ◌+◌, List, [], ◌++◌, length, take, Option, Some, None}
use Rattle.crx_lines.specs.meaning.Devices.{with_failed_flush, with_failure, with_flush}
use Rattle.crx_base.specs.meaning.Lines.{InputLine, lines_of}
use Rattle.crx_base.specs.meaning.AsRead.{ended_lines_of}
use Rattle.crx_base.specs.declared.fault.At.{At}
use Rattle.crx_base.specs.declared.fault.Fault.{Fault}
use Rattle.crx_base.specs.declared.fault.Fault.TheVariants.{InputTooLong, ReadFailed, WriteFailed, OutOfMemory}
use Rattle.crx_base.specs.declared.limits.TheConstants.{INPUT_LIMIT}
use Rattle.crx_runs.specs.meaning.Results.{Course, Begins}
use Rattle.crx_runs.specs.meaning.Filters.{Filter, course_with, lines_with, memory_with, with_next}
use Rattle.crx_runs.specs.meaning.Messages.{error_text, notices_text}
use Rattle.crx_runs.specs.meaning.Spans.{Device, TookAll, AreNext, Input, IsPart}

-- ---- which lines were read

-- the lines whose LF is among the bytes of an input, up to its limit
abbrev pub complete_lines : List ℕ → List InputLine
complete_lines given = ended_lines_of (take INPUT_LIMIT given)

-- these are all lines of an input whose end was reported
pub record AreAll (input : Input) (given : List ℕ) (lines : List InputLine) : Type 0 where
  pub reported : input.at_end
  pub within : length given ≤ INPUT_LIMIT
  pub same : lines_of given ≡ lines

-- these lines were taken: the first of those whose LF was read, or all lines of an input whose end was
-- reported
abbrev pub AreTaken : Input → List ℕ → List InputLine → Type 0
AreTaken input given lines = ((more : List InputLine) × (complete_lines given ≡ lines ++ more))
    ⊎ AreAll input given lines

-- these lines were read and none is missing: all whose LF was read, if no read failed and none reported the
-- end; or all lines of an input whose end was reported
abbrev pub AreAllSoFar : Input → List ℕ → List InputLine → Type 0
AreAllSoFar input given lines =
    ((complete_lines given ≡ lines) × ((length given ≤ INPUT_LIMIT) × (input.counted ≡ input.start)))
    ⊎ AreAll input given lines

-- the last line or end that was taken followed these lines
abbrev pub IsTurn : Input → List ℕ → List InputLine → Option InputLine → Type 0
IsTurn input given lines (Some line) = AreTaken input given (with_next lines line)
IsTurn input given lines None = AreAll input given lines

-- ---- which output and messages were written

-- a text was written whole and passed on by one flush; or that flush failed, and its failure was counted
abbrev pub IsWritten : Device → List ℕ → Type 0
IsWritten writer text = writer.took text
    × (((writer.after ≡ with_flush writer.before) × writer.flushed) ⊎ (writer.after ≡ with_failed_flush writer.before))

-- these warnings were reported, whole and in order, and then the fault, whole or until the messages failed
abbrev pub AreReported : Device → At → List At → Type 0
AreReported messages at warnings =
    TookAll messages (notices_text warnings ++ error_text (Some at))
    ⊎ IsPart messages (notices_text warnings) (notices_text warnings ++ error_text (Some at))

-- a text was written whole but couldn't be passed on, which counts as a failed flush
abbrev pub IsHeldBack : Device → List ℕ → Type 0
IsHeldBack writer text = writer.took text × (writer.after ≡ with_failed_flush writer.before)

-- ---- by the fault that ended the run

-- the state after a run, as one row of a table. `taken`: the last line or end that was taken; `number`: the
-- line at which the run stopped; `due`: the course up to there; `found`: its fault; `wrote`: how its output
-- was written and flushed; `told`: how its warnings were reported
pub record Stopped (taken : Type 0) (number : ℕ) (due : Course) (found : Option At) (wrote : List ℕ → Type 0)
    (told : List At → Type 0) (at : At) : Type 0 where
  pub turn : taken
  pub line : at.line ≡ number
  pub fault : due.fault ≡ found
  pub written : wrote due.output
  pub reported : told due.warnings

-- the rows, by the fault
abbrev pub Stands : Filter → Input → List ℕ → Device → Device → At → Fault → Type 0
-- a read failed, in the line after the complete ones
Stands filter input given writer messages at ReadFailed =
    Stopped ((input.counted ≡ with_failure input.start) × (length given ≤ INPUT_LIMIT))
    (length (complete_lines given) + 1) (filter.so_far (complete_lines given)) None
    (IsWritten writer) (AreReported messages at) at
-- a byte past the limit of an input was read, in the line after the complete ones
Stands filter input given writer messages at InputTooLong =
    Stopped ((input.counted ≡ input.start) × (INPUT_LIMIT < length given))
    (length (complete_lines given) + 1) (filter.so_far (complete_lines given)) None
    (IsWritten writer) (AreReported messages at) at
-- memory was refused before the first line was read; or at a line that may need some, after the line's own
-- warnings that may precede this
Stands filter input given writer messages at OutOfMemory =
    Stopped (given ≡ []) 0 (record { output = []; warnings = []; fault = None }) None
    (IsWritten writer) (AreReported messages at) at
    ⊎ ((lines : List InputLine) × (next : Option InputLine) × (notices : List At)
    × Stopped (IsTurn input given lines next × (memory_with filter lines next ≡ Some notices)
    × ((notices ≡ []) ⊎ AreNext (filter.so_far lines) (course_with filter lines next) notices))
    (length lines + 1)
    (record (filter.so_far lines) { warnings = (filter.so_far lines).warnings ++ notices; fault = None }) None
    (IsWritten writer) (AreReported messages at) at)
-- the writer failed in the output of the last line or the end; or the messages failed in one of its warnings:
-- all earlier output was written, and nothing more was tried
Stands filter input given writer messages at WriteFailed =
    ((lines : List InputLine) × (next : Option InputLine) × Stopped (IsTurn input given lines next)
    (length (lines_with lines next)) (course_with filter lines next) None
    (IsPart writer (filter.so_far lines).output) (AreReported messages at) at)
    ⊎ (((lines : List InputLine) × (next : Option InputLine) × Stopped (IsTurn input given lines next)
    (length (lines_with lines next)) (course_with filter lines next) (course_with filter lines next).fault
    (λ _. TookAll writer (filter.so_far lines).output)
    (λ warnings. IsPart messages (notices_text (filter.so_far lines).warnings) (notices_text warnings)) at)
    -- only the flush failed, after all was written; or the output of all lines read so far couldn't be passed
    -- on before the next read
    ⊎ (Stopped (AreAll input given (lines_of given)) (length (lines_of given))
    (filter.whole (lines_of given)) None (IsHeldBack writer) (AreReported messages at) at
    ⊎ ((lines : List InputLine) × Stopped (AreAllSoFar input given lines) (length lines)
    (filter.so_far lines) None (IsHeldBack writer) (AreReported messages at) at)))
-- the filter found a fault in the last line or at the end
Stands filter input given writer messages at _ =
    (lines : List InputLine) × (next : Option InputLine) × Stopped (IsTurn input given lines next) at.line
    (course_with filter lines next) (Some at) (IsWritten writer) (AreReported messages at) at

-- ---- for every fault

-- the bytes written are a prefix of the output of the complete lines or, if the end was reported, of the
-- whole output for the bytes read
pub record IsFrontPart (filter : Filter) (input : Input) (given : List ℕ) (writer : Device) : Type 0 where
  pub written : List ℕ
  pub wrote : writer.took written
  pub first : Begins (filter.so_far (complete_lines given)).output written
      ⊎ (input.at_end × Begins (filter.whole (lines_of given)).output written)
