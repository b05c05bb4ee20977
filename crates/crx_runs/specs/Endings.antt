-- The ways in which a run can end, at a line, at the end of the input, in its reader or at its start, and how
-- it is finished then.
use Rattle.std.specs.Prelude.{◌≡◌, ◌⊎◌, ℕ, ◌+◌, Bool, List, [], ◌∷◌, ◌++◌, length, Option, Some, None}
use Rattle.crx_base.specs.meaning.Lines.{InputLine}
use Rattle.crx_base.specs.declared.fault.At.{At}
use Rattle.crx_base.specs.declared.fault.Fault.TheVariants.{OutOfMemory, WriteFailed}
use Rattle.crx_lines.specs.declared.phase.Phase.TheVariants.{Open, Ended, Stopped}
use Rattle.crx_lines.specs.meaning.Devices.{with_failed_flush, with_flush}
use Rattle.crx_lines.specs.Progress.{HasRead}
use Rattle.crx_lines.specs.Reading.{HasNoFeed, ReaderState}
use Rattle.crx_runs.specs.declared.one_line.Halt.{Halt}
use Rattle.crx_runs.specs.declared.one_line.Halt.TheVariants.{Unwritten, Unreported}
use Rattle.crx_runs.specs.declared.one_line.Halt.TheVariants as halts
use Rattle.crx_runs.specs.Engines.{Adds, EndsWith}
use Rattle.crx_runs.specs.meaning.Filters.{Filter, course_with, lines_with, memory_with}
use Rattle.crx_runs.specs.meaning.Messages.{error_text, notices_text}
use Rattle.crx_runs.specs.meaning.Results.{Course, are_some, good_status}
use Rattle.crx_runs.specs.meaning.Spans.{Device, TookAll, TookPart, AreNext, Input, IsPart}

-- all output and warnings of a course so far were written and reported, and no fault ended it
pub record IsAllOut (writer messages : Device) (course : Course) : Type 0 where
  pub good : course.fault ≡ None
  pub wrote : TookAll writer course.output
  pub reported : TookAll messages (notices_text course.warnings)

-- ---- by the lines of the input

-- memory was refused at a line that may need some, after all earlier output, and the line's own warnings that
-- may precede this, were written and reported
pub record MemoryRanOut (memory : Option (List At))
    (number : ℕ) (writer messages : Device) (before after : Course) (at : At) : Type 0 where
  pub notices : List At
  pub allowed : memory ≡ Some notices
  pub fault : at.fault ≡ OutOfMemory
  pub place : at.line ≡ number
  pub next : (notices ≡ []) ⊎ AreNext before after notices
  pub wrote : TookAll writer before.output
  pub reported : TookAll messages (notices_text (before.warnings ++ notices))

-- a fault ended the run after some warnings: all were written and reported, and nothing more is written
pub record EndedByFault (writer messages : Device) (before after : Course) (at : At) : Type 0 where
  pub notices : List At
  pub ends : EndsWith before after notices at
  pub wrote : TookAll writer after.output
  pub reported : TookAll messages (notices_text after.warnings)

-- the newest output couldn't be written whole
pub record WritingFailed (writer messages : Device) (before after : Course) : Type 0 where
  pub text : List ℕ
  pub notices : List At
  pub adds : Adds before after text notices
  pub wrote : IsPart writer before.output after.output
  pub reported : TookAll messages (notices_text after.warnings)

-- the first warnings couldn't be reported whole
pub record ReportingFailed (writer messages : Device) (before after : Course) : Type 0 where
  pub notices : List At
  pub next : AreNext before after notices
  pub wrote : TookAll writer before.output
  pub reported : IsPart messages (notices_text before.warnings) (notices_text (before.warnings ++ notices))

-- any of these endings, between two courses; at line `number` memory may have been refused
abbrev pub EndsAt : Option (List At) → ℕ → Device → Device → Course → Course → Halt → Type 0
EndsAt memory number writer messages before after (halts.Fault at) =
    MemoryRanOut memory number writer messages before after at ⊎ EndedByFault writer messages before after at
EndsAt memory number writer messages before after Unwritten = WritingFailed writer messages before after
EndsAt memory number writer messages before after Unreported = ReportingFailed writer messages before after

-- a device that took a text before
abbrev pub resumed : Device → List ℕ → Device
resumed device text = record {
  took = λ all. (more : List ℕ) × (all ≡ text ++ more) × device.took more;
  flushed = device.flushed;
  before = device.before;
  after = device.after;
}

-- the same, for devices that have taken the earlier course before
abbrev pub EndsFrom : Option (List At) → ℕ → Device → Device → Course → Course → Halt → Type 0
EndsFrom memory number writer messages before after halt = EndsAt memory number
    (resumed writer before.output) (resumed messages (notices_text before.warnings)) before after halt

-- the end of the input has no warning if a fault or its lines ended the run, and one if reporting it failed
abbrev pub WarnsAtEnd : Course → Course → Halt → Type 0
WarnsAtEnd before after Unreported = (notice : At) × (after.warnings ≡ before.warnings ++ notice ∷ [])
WarnsAtEnd before after halt = after.warnings ≡ before.warnings

-- ---- in a run over an input

-- the reader stopped with its fault, after the lines whose LF was read; none of them had a fault that ended
-- the run
pub record ReaderStopped (input : Input)
    (writer messages : Device) (now : ReaderState) (lines : List InputLine) (course : Course) (at : At) : Type 0 where
  pub read : HasRead input.gave input.at_end input.start input.counted now lines
  pub stopped : now.phase ≡ Stopped at
  pub out : IsAllOut writer messages course

-- the next line after these, or the end of the input, ended the run
pub record EndsBy (filter : Filter) (input : Input) (writer messages : Device) (now : ReaderState)
    (lines : List InputLine) (next : Option InputLine) (halt : Halt) : Type 0 where
  pub read : HasRead input.gave input.at_end input.start input.counted now (lines_with lines next)
  pub going : (now.phase ≡ Open) ⊎ (now.phase ≡ Ended)
  pub ended : next ≡ None → now.phase ≡ Ended
  pub ends : EndsAt (memory_with filter lines next)
      (length lines + 1) writer messages (filter.so_far lines) (course_with filter lines next) halt

-- the output of these lines was written but couldn't be passed on before the next read, when no whole line
-- was held: a flush failed
pub record HandingFailed (input : Input)
    (writer messages : Device) (now : ReaderState) (lines : List InputLine) (course : Course) : Type 0 where
  pub read : HasRead input.gave input.at_end input.start input.counted now lines
  pub going : (now.phase ≡ Open) ⊎ (now.phase ≡ Ended)
  pub unheld : now.phase ≡ Open → HasNoFeed now.rest
  pub good : course.fault ≡ None
  pub wrote : writer.took course.output
  pub failed : writer.after ≡ with_failed_flush writer.before
  pub reported : TookAll messages (notices_text course.warnings)

-- the run ended after these lines: by the reader's fault, by the next line, or because their output couldn't
-- be passed on
abbrev pub StopsAt : Filter → Input → Device → Device → ReaderState → List InputLine → Halt → Type 0
StopsAt filter input writer messages now lines halt =
    ((at : At) × (halt ≡ halts.Fault at) × ReaderStopped input writer messages now lines (filter.so_far lines) at)
    ⊎ (((line : InputLine) × EndsBy filter input writer messages now lines (Some line) halt)
    ⊎ ((halt ≡ Unwritten) × HandingFailed input writer messages now lines (filter.so_far lines)))

-- memory was refused before the first line was read
pub record StoppedAtStart (input : Input) (writer messages : Device) (last : ℕ) (halt : Halt) : Type 0 where
  pub halt_is : halt ≡ halts.Fault (record { line = 0; fault = OutOfMemory })
  pub gave : input.gave []
  pub counts : input.counted ≡ input.start
  pub wrote : TookAll writer []
  pub reported : TookAll messages []
  pub last_is : last ≡ 0

-- the input ended without a fault: `last` is the last line's number, `warned` whether a warning was reported
pub record WellDone (filter : Filter) (has_ended : List InputLine
    → Type 0) (input : Input) (writer messages : Device) (now : ReaderState) (last : ℕ) (warned : Bool) : Type 0 where
  pub lines : List InputLine
  pub read : HasRead input.gave input.at_end input.start input.counted now lines
  pub ended : now.phase ≡ Ended
  pub out : IsAllOut writer messages (filter.whole lines)
  pub flag : warned ≡ are_some (filter.whole lines).warnings
  pub engine_ended : has_ended lines
  pub last_is : last ≡ length lines

-- the work of a run has ended, at the good end of its input or before; `last` is the last line that was read
abbrev pub WorkEnds : Filter → (List InputLine → Type 0)
    → Input → Device → Device → ReaderState → ℕ → Bool → Option Halt → Type 0
WorkEnds filter has_ended input writer messages now last warned None =
    WellDone filter has_ended input writer messages now last warned
WorkEnds filter has_ended input writer messages now last warned (Some halt) =
    ((lines : List InputLine) × (StopsAt filter input writer messages now lines halt
    ⊎ EndsBy filter input writer messages now lines None halt) × (last ≡ now.number))
    ⊎ StoppedAtStart input writer messages last halt

-- ---- how a run is finished after its work has ended: the writer is flushed, and the fault is reported

-- a write that failed, reported at the last line that was read
abbrev pub write_failed_at : ℕ → At
write_failed_at last = record { line = last; fault = WriteFailed }

-- the message of a fault was written, whole or up to the failure
abbrev pub IsReported : Device → At → Type 0
IsReported messages at = TookAll messages (error_text (Some at)) ⊎ TookPart messages (error_text (Some at))

-- one flush passed all output on, and nothing more was written
abbrev pub IsFlushed : Device → Type 0
IsFlushed writer = writer.took [] × (writer.after ≡ with_flush writer.before) × writer.flushed

-- one flush failed: it wrote nothing, and its failure is counted
abbrev pub FlushFailed : Device → Type 0
FlushFailed writer = writer.took [] × (writer.after ≡ with_failed_flush writer.before)

-- after the good end of the input the writer is flushed, and a failure of the flush is the run's fault. After
-- a fault of the input, the reader or memory it is flushed too, and the fault is reported. A writer that
-- failed isn't flushed, and after a warning that couldn't be written nothing more is
abbrev pub Finishes : Device → Device → ℕ → Bool → Option Halt → ℕ → Option At → Type 0
Finishes writer messages last warned None status None = IsFlushed writer
    × TookAll messages [] × (status ≡ good_status warned)
Finishes writer messages last warned None status (Some at) = FlushFailed writer
    × IsReported messages at × (at ≡ write_failed_at last) × (status ≡ 1)
Finishes writer messages last warned (Some (halts.Fault at)) status fault = (IsFlushed writer ⊎ FlushFailed writer)
    × IsReported messages at × (fault ≡ Some at) × (status ≡ 1)
Finishes writer messages last warned (Some Unwritten) status fault = TookAll writer []
    × IsReported messages (write_failed_at last) × (fault ≡ Some (write_failed_at last)) × (status ≡ 1)
Finishes writer messages last warned (Some Unreported) status fault = TookAll writer []
    × TookAll messages [] × (fault ≡ Some (write_failed_at last)) × (status ≡ 1)
