-- A run between two calls, by the bytes that were fed and the texts that were taken.
use Rattle.std.specs.Prelude.{◌≡◌, ◌⊎◌, ◌<◌, ◌≤◌, ℕ, ◌+◌, Bool, true, ◌||◌, List, [], ◌∷◌, ◌++◌, length, take}
use Rattle.std.specs.Prelude.{Option, Some, None, is_some, Result, IfErr, IfOk, OnOk}
use Rattle.crx_base.specs.meaning.Lines.{InputLine, line_of, lines_of}
use Rattle.crx_base.specs.meaning.AsRead.{ended_lines_of}
use Rattle.crx_lines.specs.Reading.{HasNoFeed}
use Rattle.crx_lines.specs.meaning.Devices.{one_more}
use Rattle.crx_base.specs.declared.fault.At.{At}
use Rattle.crx_base.specs.declared.fault.Fault.TheVariants.{OutOfMemory}
use Rattle.crx_base.specs.declared.limits.TheConstants.{INPUT_LIMIT}
use Rattle.crx_runs.specs.Engines.{Awaited}
use Rattle.crx_runs.specs.Lawful.{IsLawful}
use Rattle.crx_runs.specs.meaning.Filters.{Filter, with_next}
use Rattle.crx_runs.specs.meaning.Messages.{error_text, notices_text}
use Rattle.crx_runs.specs.meaning.Results.{Begins, Course, FilterResult, are_some, result_of_course}
use Rattle.crx_runs.specs.meaning.Spans.{AreNext}
use Rattle.crx_runs.specs.declared.engine.Engine.{Ghosts}
use Rattle.crx_runs.specs.declared.one_line.Halt.{Halt}
use Rattle.crx_runs.specs.declared.one_line.Halt.TheVariants.{Fault as Faulty, Unwritten, Unreported}
use Rattle.rnxcmp_c.specs.Waiting.{waiting}
use Rattle.rnxcmp_c.specs.declared.pending.Pending.{Pending}
use Rattle.rnxcmp_c.specs.declared.handle_state.HandleState.{HandleState}
use Rattle.rnxcmp_c.specs.declared.limits.TheConstants.{LINE_ROOM, READY_LIMIT}
use Rattle.rnxcmp_c.specs.Holding.{AreUnfailed, IsMemoryLacking, ready_in}
use Rattle.rnxcmp_c.specs.meaning.Answers.{BothTexts, KeepsToLimit}
use Rattle.rnxcmp_c.specs.meaning.Handles.{StopsAtLimit, StopsForMemory, TaskRun}
use Rattle.rnxcmp_c.specs.Past.{AsksMemory, StopsSoon, memory_next}
use Rattle.rnxcmp_c.specs.declared.answer.TheConstants.{OUTPUT_LIMIT}
use Rattle.rnxcmp_c.specs.declared.stop.Stop.{Stop}
use Rattle.rnxcmp_c.specs.declared.stop.Stop.TheVariants.{Fault, Limit}

-- the line of some bytes; `is_ended`: an LF followed them
abbrev pub piece_line : List ℕ → Bool → InputLine
piece_line bytes is_ended = line_of (record { bytes = bytes; is_ended = is_ended })

-- ---- one line, or the end

-- a line or the end was taken: the output and warnings it adds were kept
pub record IsKept (before after : Course)
    (shown : Type 0) (output then_output messages then_messages : Pending) (warned : Bool) : Type 0 where
  pub is_shown : shown
  pub good : after.fault ≡ None
  pub text : List ℕ
  pub notices : List At
  pub output_is : after.output ≡ before.output ++ text
  pub warnings_are : after.warnings ≡ before.warnings ++ notices
  pub wrote : waiting then_output ≡ waiting output ++ text
  pub reported : waiting then_messages ≡ waiting messages ++ notices_text notices
  pub output_good : then_output.failures ≡ output.failures
  pub messages_good : then_messages.failures ≡ messages.failures
  pub flag : warned ≡ are_some notices

-- the same for the state between two calls
pub record MovesOn (before after : Course) (shown : Type 0) (old new : HandleState) : Type 0 where
  pub warned : Bool
  pub kept : IsKept before after shown old.output new.output old.messages new.messages warned
  pub flag : new.warned ≡ (old.warned || warned)

-- a fault ended the run, after some warnings
pub record EndsThere (before after : Course) (output then_output messages then_messages : Pending)
    (at : At) : Type 0 where
  pub fault : after.fault ≡ Some at
  pub notices : List At
  pub output_is : after.output ≡ before.output
  pub warnings_are : after.warnings ≡ before.warnings ++ notices
  pub wrote : waiting then_output ≡ waiting output
  pub reported : waiting then_messages ≡ waiting messages ++ notices_text notices

-- memory was refused at line `number`
abbrev pub RanOutAt : ℕ → At → Type 0
RanOutAt number at = (at.fault ≡ OutOfMemory) × (at.line ≡ number)

-- memory for the line itself was refused, after these of its warnings were reported
pub record LacksMemory (memory : Option (List At)) (before after : Course)
    (output then_output messages then_messages : Pending) : Type 0 where
  pub notices : List At
  pub allowed : memory ≡ Some notices
  pub own : (notices ≡ []) ⊎ AreNext before after notices
  pub wrote : waiting then_output ≡ waiting output
  pub reported : waiting then_messages ≡ waiting messages ++ notices_text notices

-- a text had to grow from `before` to `after`, and failed to take all of that
pub record FailsToTake (before after : List ℕ) (old new : Pending) : Type 0 where
  pub failed : new.failures ≡ one_more old.failures
  pub longer : length before < length after

-- one of both texts failed to take all that a line, or the end, adds to it
abbrev pub FailsOneText : Course → Course → Pending → Pending → Pending → Pending → Type 0
FailsOneText before after output then_output messages then_messages =
    FailsToTake before.output after.output output then_output
    ⊎ FailsToTake (notices_text before.warnings) (notices_text after.warnings) messages then_messages

-- both texts grew by parts of that
pub record LosesText (before after : Course)
    (output then_output messages then_messages : Pending) : Type 0 where
  pub text : List ℕ
  pub told : List ℕ
  pub wrote : waiting then_output ≡ waiting output ++ text
  pub first : (text ≡ []) ⊎ Begins after.output (before.output ++ text)
  pub reported : waiting then_messages ≡ waiting messages ++ told
  pub lost : FailsOneText before after output then_output messages then_messages

-- memory for a line was refused, or a fault ended the run
abbrev pub LineStops : ℕ → Option (List At) → Course → Course → Pending → Pending → Pending → Pending → At
    → Type 0
LineStops number memory before after output then_output messages then_messages at =
    (RanOutAt number at × LacksMemory memory before after output then_output messages then_messages)
    ⊎ EndsThere before after output then_output messages then_messages at

-- the state after a line, or the end, that ended the run
abbrev pub StopsBy : ℕ → Option (List At) → Course → Course → Pending → Pending → Pending → Pending → Halt
    → Type 0
StopsBy number memory before after output then_output messages then_messages (Faulty at) =
    LineStops number memory before after output then_output messages then_messages at
StopsBy number memory before after output then_output messages then_messages Unwritten =
    LosesText before after output then_output messages then_messages
StopsBy number memory before after output then_output messages then_messages Unreported =
    LosesText before after output then_output messages then_messages

-- memory was refused at a line or at the end: for the line itself, after these of its warnings were reported, or for
-- one of the texts, which are then as before
pub record StopsShort (memory : Option (List At)) (before after : Course) (old new : HandleState) : Type 0 where
  pub notices : List At
  pub asked : AsksMemory memory before after notices
  pub own : (notices ≡ []) ⊎ AreNext before after notices
  pub wrote : waiting new.output ≡ waiting old.output
  pub reported : waiting new.messages ≡ waiting old.messages ++ notices_text notices
  pub lacking : (is_some memory ≡ true) ⊎ ((new.output.failures ≡ one_more old.output.failures)
      ⊎ (new.messages.failures ≡ one_more old.messages.failures))

-- ---- the limit of the output

-- a line or the end was taken, and the output stays within its limit
pub record MovesWithin (before after : Course) (shown : Type 0) (old new : HandleState) : Type 0 where
  pub moved : MovesOn before after shown old new
  pub limit : new.limit ≡ old.limit
  pub left : 0 < old.limit → new.left + length after.output ≡ old.left + length before.output

-- the output would be longer than its limit: nothing of the line, or of the end, was kept
pub record PassesLimit (before after : Course) (old new : HandleState) : Type 0 where
  pub limited : 0 < old.limit
  pub limit : new.limit ≡ old.limit
  pub over : old.left + length before.output < length after.output
  pub output_is : waiting new.output ≡ waiting old.output
  pub messages_are : waiting new.messages ≡ waiting old.messages

-- the output kept of a line, or of the end, is within its limit
pub record AddsWithin (old new : HandleState) : Type 0 where
  pub limit : new.limit ≡ old.limit
  pub left : 0 < old.limit → length (waiting new.output) ≤ old.left + length (waiting old.output)

-- the run ended by a fault or by refused memory, with its output within the limit; or by that limit
abbrev pub StepStops : ℕ → Option (List At) → Course → Course → HandleState → HandleState → Stop → Type 0
StepStops number memory before after old new (Fault at) =
    ((RanOutAt number at × StopsShort memory before after old new)
    ⊎ EndsThere before after old.output new.output old.messages new.messages at)
    × AddsWithin old new
StepStops number memory before after old new Limit = PassesLimit before after old new

-- ---- a run

-- `count` of `length` bytes were used: at least one if fewer than READY_LIMIT bytes waited, and all unless as many wait
-- now
pub record IsTaken (old new : HandleState) (length count : ℕ) : Type 0 where
  pub within : count ≤ length
  pub some : 0 < length → ready_in old < READY_LIMIT → 0 < count
  pub all : count < length → READY_LIMIT ≤ ready_in new
  pub still : READY_LIMIT ≤ ready_in old → (count ≡ 0) × (new ≡ old)

-- ---- one line, by the filter

-- a line after some others was fed to an engine: it was taken, or it ended the run
abbrev pub LineIsGiven : Result Bool Halt → Filter → (List InputLine → List Awaited → Type 0) → List InputLine
    → InputLine → Pending → Pending → Pending → Pending → Type 0
LineIsGiven given filter shows lines line output then_output messages then_messages =
    IfOk given (λ warned. IsKept (filter.so_far lines) (filter.so_far (with_next lines line))
    (shows (with_next lines line) []) output then_output messages then_messages warned)
    × IfErr given (λ halt. StopsBy (length lines + 1) (filter.memory_after lines line) (filter.so_far lines)
    (filter.so_far (with_next lines line)) output then_output messages then_messages halt)

-- a line was taken and the output stays within its limit, or the line ended the run
abbrev pub LineStaysWithin : Result Unit Stop → Filter → (List InputLine → List Awaited → Type 0) → List InputLine
    → InputLine → HandleState → HandleState → Type 0
LineStaysWithin taken filter shows lines line old new =
    OnOk taken (MovesWithin (filter.so_far lines) (filter.so_far (with_next lines line))
    (shows (with_next lines line) []) old new)
    × IfErr taken (λ stop. StepStops (length lines + 1) (filter.memory_after lines line) (filter.so_far lines)
    (filter.so_far (with_next lines line)) old new stop)

-- the end of the input was taken in the same way after some lines, or it ended the run
abbrev pub EndStaysWithin : Result Unit Stop → Filter → Type 0 → List InputLine → HandleState → HandleState → Type 0
EndStaysWithin taken filter has_ended lines old new =
    OnOk taken (MovesWithin (filter.so_far lines) (filter.whole lines) has_ended old new)
    × IfErr taken (λ stop. StepStops old.number None (filter.so_far lines) (filter.whole lines) old new stop)

-- the texts of a course are the texts taken, followed by the texts kept
pub record IsText (course : Course) (held : HandleState) (taken : BothTexts) : Type 0 where
  pub wrote : course.output ≡ taken.output ++ waiting held.output
  pub reported : notices_text course.warnings ≡ taken.messages ++ waiting held.messages

-- some lines were taken, and no fault ended the run: their output and messages were taken by the caller or are kept
pub record IsSoFar (run : TaskRun) (held : HandleState) (taken : BothTexts) (lines : List InputLine)
    : Type 0 where
  pub lawful : IsLawful run.filter
  pub good : (run.filter.so_far lines).fault ≡ None
  pub text : IsText (run.filter.so_far lines) held taken
  pub flag : held.warned ≡ are_some (run.filter.so_far lines).warnings
  pub number : held.number ≡ length lines
  pub limit : held.limit ≡ run.limit
  pub left : 0 < run.limit → held.left + length (run.filter.so_far lines).output ≡ run.limit
  pub unfailed : AreUnfailed held

-- the lines whose LF was fed were taken, none is pending, and the bytes after them are kept, up to the length limit of
-- a line
pub record IsGoing (run : TaskRun) (ready : List (List ℕ)) (shows : List InputLine → List Awaited → Type 0)
    (held : HandleState) (fed : List ℕ) (taken : BothTexts) : Type 0 where
  pub drained : ready ≡ []
  pub after : IsSoFar run held taken (ended_lines_of fed)
  pub shown : shows (ended_lines_of fed) []
  pub tail : List ℕ
  pub kept : held.tail.bytes.items ≡ take LINE_ROOM tail
  pub no_feed : HasNoFeed tail
  pub cut : (more : List ℕ) → lines_of (fed ++ more) ≡ ended_lines_of fed ++ lines_of (tail ++ more)
  pub cut_ended : (more : List ℕ)
      → ended_lines_of (fed ++ more) ≡ ended_lines_of fed ++ ended_lines_of (tail ++ more)
  pub counted : held.number + length tail ≤ length fed

-- ---- the end of a run

-- the number of the next line after some lines, or of the last of them if none follows
abbrev pub line_reached : List InputLine → List InputLine → ℕ
line_reached lines [] = length lines
line_reached lines (line ∷ more) = length lines + 1

-- memory was refused at such a line or at the end, for the line itself or for one of the texts
pub record RanOutOfMemory (is_line : ℕ → Type 0) (run : TaskRun) (input : List ℕ) (held : HandleState)
    (result : FilterResult) : Type 0 where
  pub stops : StopsForMemory is_line run input result
  pub lacking : IsMemoryLacking (is_some (memory_next run.filter stops.lines stops.others)) held

-- the output would be longer than its limit, or memory was refused
abbrev pub StopsEarly : (ℕ → Type 0) → TaskRun → List ℕ → HandleState → FilterResult → Type 0
StopsEarly is_line run input held result =
    StopsAtLimit run input result ⊎ RanOutOfMemory is_line run input held result

-- the lines of an input have a fault
pub record FailsIn (filter : Filter) (input : List ℕ) (result : FilterResult) : Type 0 where
  pub at : At
  pub fault : (filter.whole (lines_of input)).fault ≡ Some at
  pub result_is : result ≡ result_of_course (filter.whole (lines_of input))

-- the status and the fault of a run that was stopped
abbrev pub status_by : Stop → ℕ
status_by (Fault at) = 1
status_by Limit = OUTPUT_LIMIT

abbrev pub fault_by : Stop → Option At
fault_by (Fault at) = Some at
fault_by Limit = None

-- a run was stopped with one of these results: everything of it is kept except the message of its fault
pub record StopsAs (limit : ℕ) (is_one : FilterResult → Type 0) (held : HandleState) (taken : BothTexts)
    (stop : Stop) : Type 0 where
  pub result : FilterResult
  pub is : is_one result
  pub status : result.status ≡ status_by stop
  pub fault : result.fault ≡ fault_by stop
  pub output : result.output ≡ taken.output ++ waiting held.output
  pub messages : result.messages ≡ (taken.messages ++ waiting held.messages) ++ error_text (fault_by stop)
  pub within : KeepsToLimit limit result.output

-- a run was stopped in an input, at such a line
abbrev pub RunIsStopped : (ℕ → Type 0) → TaskRun → List ℕ → HandleState → BothTexts → Stop → Type 0
RunIsStopped is_line run input held taken stop = StopsAs run.limit
    (λ result. FailsIn run.filter input result ⊎ StopsEarly is_line run input held result) held taken stop

-- the number of a line whose LF was fed after `before`
abbrev pub IsLineEnded : List ℕ → List ℕ → ℕ → Type 0
IsLineEnded before fed line = (length (ended_lines_of before) < line) × (line ≤ length (ended_lines_of fed))

-- the number of the last line of the bytes that were fed
abbrev pub IsLastLine : List ℕ → ℕ → Type 0
IsLastLine fed line = line ≡ length (lines_of fed)

-- the run continues: some of the bytes were used, the last one because fewer than READY_LIMIT bytes waited; or they
-- ended the run, whatever follows
abbrev pub GoesOnOrStops : Result ℕ Stop → TaskRun → (List ℕ → Type 0) → HandleState → List ℕ → BothTexts
    → List ℕ → Type 0
GoesOnOrStops result run goes_on held fed taken bytes =
    IfOk result (λ n. goes_on (fed ++ take n bytes) × (0 < n → StopsSoon run fed taken bytes n))
    × IfErr result (λ stop. (more : List ℕ) → RunIsStopped (IsLineEnded fed (fed ++ bytes)) run
    ((fed ++ bytes) ++ more) held taken stop)

-- the whole input was taken, and no fault ended the run
pub record IsAll (run : TaskRun) (held : HandleState) (fed : List ℕ) (taken : BothTexts) : Type 0 where
  pub good : (run.filter.whole (lines_of fed)).fault ≡ None
  pub text : IsText (run.filter.whole (lines_of fed)) held taken
  pub flag : held.warned ≡ are_some (run.filter.whole (lines_of fed)).warnings
  pub within : KeepsToLimit run.limit (run.filter.whole (lines_of fed)).output

-- the last line was taken, and then the end; or one of them ended the run
abbrev pub LastIsTaken : Result Unit Stop → TaskRun → Type 0 → HandleState → List ℕ → BothTexts → Type 0
LastIsTaken result run has_ended held fed taken = OnOk result (has_ended × IsAll run held fed taken)
    × IfErr result (RunIsStopped (IsLastLine fed) run fed held taken)

-- ---- any engine, with the state that is kept besides it

module _ {E : Type 0} (e : Ghosts E) where
  -- the engine can take a line or the end: no line is pending
  abbrev pub CanTake : E → Type 0
  CanTake engine = e.ready engine ≡ []

  -- the same, after it has taken some lines
  abbrev pub HasShown : E → Type 0
  HasShown engine = CanTake engine × ((lines : List InputLine) × e.shows engine lines [])

  -- a step keeps its filter and, unless the run has ended, the engine can take the next line
  abbrev pub KeepsItsRun : {A : Type 0} → E → E → Result A Stop → Type 0
  KeepsItsRun before after result = (e.filter after ≡ e.filter before) × OnOk result (CanTake after)

  -- it is the engine of a run that continues
  abbrev pub IsRunning : TaskRun → E → HandleState → List ℕ → BothTexts → Type 0
  IsRunning run engine held fed taken =
      (run.filter ≡ e.filter engine) × IsGoing run (e.ready engine) (e.shows engine) held fed taken

  -- and the input may have `count` more bytes
  abbrev pub CanBeFed : E → HandleState → ℕ → Type 0
  CanBeFed engine held count = (run : TaskRun) × (fed : List ℕ) × (taken : BothTexts)
      × IsRunning run engine held fed taken × (length fed + count ≤ INPUT_LIMIT)

  -- the bytes kept of a line were taken as the line after some others
  abbrev pub LineIsTaken : E → E → HandleState → HandleState → Bool → Result Unit Stop → Type 0
  LineIsTaken before after old new is_ended result = (lines : List InputLine) (whole : List ℕ)
      → e.shows before lines [] → old.tail.bytes.items ≡ take LINE_ROOM whole
      → LineStaysWithin result (e.filter before) (e.shows after) lines (piece_line whole is_ended) old new

  -- its run continues with the first of these bytes, or they ended it
  abbrev pub WasFed : E → E → HandleState → HandleState → List ℕ → Result ℕ Stop → Type 0
  WasFed before after old new bytes result = (run : TaskRun) (fed : List ℕ) (taken : BothTexts)
      → IsRunning run before old fed taken
      → GoesOnOrStops result run (λ fed. IsGoing run (e.ready after) (e.shows after) new fed taken)
      new fed taken bytes
