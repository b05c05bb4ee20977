-- A handle between two calls.
use Rattle.std.specs.Prelude.{is_some, ◌≡◌, ◌⊎◌, ◌<◌, ◌≤◌, ⊤, ℕ, ◌+◌, ◌-◌, Bool, List, [], ◌++◌, length}
use Rattle.std.specs.Prelude.{take, Option, Some, None, Result}
use Rattle.crx_base.specs.meaning.Lines.{InputLine, lines_of}
use Rattle.crx_base.specs.declared.limits.TheConstants.{INPUT_LIMIT}
use Rattle.crx_base.specs.declared.fault.At.{At}
use Rattle.crx_base.specs.declared.fault.Fault.TheVariants.{OutOfMemory}
use Rattle.crx_runs.specs.meaning.Filters.{Filter}
use Rattle.crx_runs.specs.meaning.Results.{FilterResult, good_status}
use Rattle.crx_runs.specs.meaning.Messages.{error_text}
use Rattle.crx_filter.specs.meaning.Standard.{report_status}
use Rattle.crx_filter.specs.meaning.Directions.{check_filter}
use Rattle.crx_filter.specs.CheckByLine.{check_by_line, check_reading}
use Rattle.crx_filter.specs.CheckerState.{checking_ready, checking_state}
use Rattle.crx_filter.specs.CheckingParts.{HasFound, HasNoted}
use Rattle.crx_filter.specs.CompactionByLine.{compaction, compaction_state}
use Rattle.crx_filter.specs.CompactorState.{compacting_ready, compacting_state}
use Rattle.crx_filter.specs.meaning.Directions.{compaction_filter, expansion_filter}
use Rattle.crx_filter.specs.EngineLines.{HasTaken}
use Rattle.crx_runs.specs.Engines.{Awaited}
use Rattle.crx_filter.specs.ExpanderState.{expanding_ready, expanding_state}
use Rattle.crx_filter.specs.ExpansionByLine.{expansion, expansion_state}
use Rattle.crx_runs.specs.declared.outcome.Outcome.{Outcome}
use Rattle.rnxcmp_c.specs.Going.{GoesOnOrStops, IsGoing, IsLastLine, IsLineEnded, LastIsTaken, StopsEarly}
use Rattle.rnxcmp_c.specs.Past.{limit_for, result_for}
use Rattle.rnxcmp_c.specs.meaning.Handles.{Task, Compact, Expand, Check, handle_answer, joined_texts, run_for}
use Rattle.rnxcmp_c.specs.meaning.Handles.{RunHasEnded, StopsWhenFull, TakesBytes}
use Rattle.rnxcmp_c.specs.meaning.Answers.{BothTexts, KeepsToLimit, bare_answer}
use Rattle.rnxcmp_c.specs.declared.answer.Answer.{Answer}
use Rattle.rnxcmp_c.specs.declared.answer.TheConstants.{MISUSED, OUTPUT_LIMIT}
use Rattle.rnxcmp_c.specs.declared.engines.AnyEngine.{AnyEngine}
use Rattle.rnxcmp_c.specs.declared.engines.AnyEngine.TheVariants.{Compacting, Expanding, Checking}
use Rattle.rnxcmp_c.specs.declared.handle_state.HandleState.{HandleState}
use Rattle.rnxcmp_c.specs.declared.limits.TheConstants.{READY_LIMIT}
use Rattle.rnxcmp_c.specs.Holding.{texts_of_held, ready_in}
use Rattle.rnxcmp_c.specs.Waiting.{IsTextRefused, waiting}
use Rattle.rnxcmp_c.specs.declared.reader.Reader.{Reader}
use Rattle.rnxcmp_c.specs.declared.stop.Stop.{Stop}
use Rattle.rnxcmp_c.specs.declared.stop.Stop.TheVariants.{Fault, Limit}

-- ---- the engine of a run

abbrev pub engine_filter : AnyEngine → Filter
engine_filter (Compacting c) = compaction_filter (compacting_state c).choices
engine_filter (Expanding e) = expansion_filter e.options
engine_filter (Checking c) = check_filter

abbrev pub shows_of : AnyEngine → List InputLine → List Awaited → Type 0
shows_of (Compacting c) lines notices =
    (HasTaken compaction (compaction_state (compacting_state c).choices) (compacting_state c) lines notices
    × ⊤) × ((compacting_state c).number ≡ length lines)
shows_of (Expanding e) lines notices =
    (HasTaken expansion (expansion_state e.options) (expanding_state e) lines notices
    × ⊤) × (e.number ≡ length lines)
shows_of (Checking c) lines notices =
    (HasTaken check_by_line check_reading (checking_state c) lines notices × HasNoted c.direction lines)
    × (c.number ≡ length lines)

abbrev pub ready_of : AnyEngine → List (List ℕ)
ready_of (Compacting c) = compacting_ready c
ready_of (Expanding e) = expanding_ready e
ready_of (Checking c) = checking_ready c

abbrev pub has_ended_of : AnyEngine → List InputLine → Type 0
has_ended_of (Compacting c) lines = ⊤
has_ended_of (Expanding e) lines = ⊤
has_ended_of (Checking c) lines = HasFound c.direction lines

-- an engine of this task
abbrev pub IsOf : Task → AnyEngine → Type 0
IsOf (Compact choices limit) (Compacting c) = compaction_filter (compacting_state c).choices ≡ compaction_filter choices
IsOf (Expand choices limit) (Expanding e) = expansion_filter e.options ≡ expansion_filter choices
IsOf Check (Checking c) = ⊤
IsOf task engine = ⊥

-- its run continues between two calls
abbrev pub EngineGoesOn : Task → AnyEngine → HandleState → List ℕ → BothTexts → Type 0
EngineGoesOn task engine held fed taken =
    IsGoing (run_for task) (ready_of engine) (shows_of engine) held fed taken

-- and the input may have `count` more bytes
abbrev pub EngineCanBeFed : AnyEngine → HandleState → ℕ → Type 0
EngineCanBeFed engine held count = (task : Task) × (fed : List ℕ) × (taken : BothTexts)
    × IsOf task engine × EngineGoesOn task engine held fed taken × (length fed + count ≤ INPUT_LIMIT)

-- its run continues with the first of these bytes, or they ended it
abbrev pub EngineWasFed : AnyEngine → AnyEngine → HandleState → HandleState → List ℕ → Result ℕ Stop → Type 0
EngineWasFed before after old new bytes result = (task : Task) (fed : List ℕ) (taken : BothTexts)
    → IsOf task before → EngineGoesOn task before old fed taken
    → GoesOnOrStops result (run_for task) (λ fed. EngineGoesOn task after new fed taken) new fed taken bytes

-- the end of its input was taken, or ended it early
abbrev pub EngineHasEnded : AnyEngine → AnyEngine → HandleState → HandleState → Result Unit Stop → Type 0
EngineHasEnded before after old new result = (task : Task) (fed : List ℕ) (taken : BothTexts)
    → IsOf task before → EngineGoesOn task before old fed taken
    → LastIsTaken result (run_for task) (has_ended_of after (lines_of fed)) new fed taken

-- the status after the end of the input without a fault
abbrev pub status_at_end : AnyEngine → Bool → ℕ
status_at_end (Compacting c) warned = good_status warned
status_at_end (Expanding e) warned = good_status warned
status_at_end (Checking c) warned = report_status c.direction.noted.not_standard

-- ---- a reader

-- the run continues
pub record ReaderRuns (task : Task) (reader : Reader) (fed : List ℕ) (taken : BothTexts) : Type 0 where
  pub is_of : IsOf task reader.engine
  pub going : EngineGoesOn task reader.engine reader.held fed taken
  pub counted : reader.fed ≡ length fed
  pub within : reader.fed ≤ INPUT_LIMIT

-- a run has ended with one of these results, or with all of it except the message of its fault: its texts are the texts
-- taken, followed by the texts kept; and its output is within its limit
pub record EndsWithin (limit : ℕ) (is_one : FilterResult → Type 0) (held : HandleState) (taken : BothTexts)
    (outcome : Outcome) : Type 0 where
  pub ended : RunHasEnded is_one (joined_texts taken (texts_of_held held)) (texts_of_held held)
      (handle_answer outcome.status outcome.fault (texts_of_held held))
  pub few : KeepsToLimit limit (taken.output ++ waiting held.output)

-- the number of one of the lines of some bytes, or 0
abbrev pub IsLineReached : List ℕ → ℕ → Type 0
IsLineReached fed line = line ≤ length (lines_of fed)

-- a run has the result of the bytes that were fed, unless memory was refused, or the output or the input was too long
abbrev pub IsOverWith : Task → List ℕ → HandleState → FilterResult → Type 0
IsOverWith task fed held result = (result ≡ result_for task fed)
    ⊎ (StopsEarly (IsLineReached fed) (run_for task) fed held result
    ⊎ StopsWhenFull (run_for task) fed result)

-- the state of a reader: its run continues, or has ended
abbrev pub StandsBy : Task → Reader → List ℕ → BothTexts → Option Outcome → Type 0
StandsBy task reader fed taken None = ReaderRuns task reader fed taken
StandsBy task reader fed taken (Some outcome) =
    EndsWithin (limit_for task) (IsOverWith task fed reader.held) reader.held taken outcome

abbrev pub ReaderStands : Task → Reader → List ℕ → BothTexts → Type 0
ReaderStands task reader fed taken = StandsBy task reader fed taken reader.outcome

-- the bytes fed after `before` have ended the run, for every input that begins with the bytes fed; the status of a
-- fault is 1
abbrev pub IsOverByBytes : List ℕ → Task → HandleState → List ℕ → BothTexts → Outcome → Type 0
IsOverByBytes before task held fed taken outcome = (more : List ℕ) → EndsWithin (limit_for task)
    (λ result. ((result ≡ result_for task (fed ++ more)) × (result.status ≡ 1))
    ⊎ StopsEarly (IsLineEnded before fed) (run_for task) (fed ++ more) held result) held taken outcome

abbrev pub HasFedBy : List ℕ → Task → Reader → List ℕ → BothTexts → Option Outcome → Type 0
HasFedBy before task reader fed taken None = ReaderRuns task reader fed taken
HasFedBy before task reader fed taken (Some outcome) = IsOverByBytes before task reader.held fed taken outcome

abbrev pub HasFed : List ℕ → Task → Reader → List ℕ → BothTexts → Type 0
HasFed before task reader fed taken = HasFedBy before task reader fed taken reader.outcome

-- it has ended with one of these results
abbrev pub HasEndedBy : Task → (FilterResult → Type 0) → Reader → BothTexts → Option Outcome → Type 0
HasEndedBy task is_one reader taken None = ⊥
HasEndedBy task is_one reader taken (Some outcome) =
    EndsWithin (limit_for task) is_one reader.held taken outcome

-- it has ended at the end of its input
abbrev pub ReaderHasEnded : Task → Reader → List ℕ → BothTexts → Type 0
ReaderHasEnded task reader fed taken = HasEndedBy task (λ result. (result ≡ result_for task fed)
    ⊎ StopsEarly (IsLastLine fed) (run_for task) fed reader.held result) reader taken reader.outcome

-- it has ended because its input is too long
abbrev pub ReaderHasPassed : Task → Reader → List ℕ → BothTexts → Type 0
ReaderHasPassed task reader fed taken =
    HasEndedBy task (StopsWhenFull (run_for task) fed) reader taken reader.outcome

-- the outcome of a fault, with status 1: its message was kept; or memory for the message was refused, at the same line,
-- and both texts are as before
pub record IsPut (old new : HandleState) (at : At) (outcome : Outcome) : Type 0 where
  pub status : outcome.status ≡ 1
  pub output : waiting new.output ≡ waiting old.output
  pub output_good : new.output.failures ≡ old.output.failures
  pub messages_good : new.messages.failures ≡ old.messages.failures
  pub said : ((outcome.fault ≡ Some at) × (waiting new.messages ≡ waiting old.messages ++ error_text (Some at)))
      ⊎ ((outcome.fault ≡ Some (record { line = at.line; fault = OutOfMemory }))
      × (waiting new.messages ≡ waiting old.messages)
      × IsTextRefused old.messages (length (error_text (Some at))))

-- the outcome of a run, by its reason
abbrev pub EndsRunBy : HandleState → HandleState → Outcome → Stop → Type 0
EndsRunBy old new outcome (Fault at) = IsPut old new at outcome
EndsRunBy old new outcome Limit = (outcome ≡ record { status = OUTPUT_LIMIT; fault = None }) × (new ≡ old)

-- ---- the answer of a call

abbrev pub status_now : Option Outcome → ℕ
status_now None = 0
status_now (Some outcome) = outcome.status

abbrev pub fault_now : Option Outcome → Option At
fault_now None = None
fault_now (Some outcome) = outcome.fault

-- the run's status and fault, and the lengths of the output and messages kept
abbrev pub answer_now : Reader → Answer
answer_now reader =
    handle_answer (status_now reader.outcome) (fault_now reader.outcome) (texts_of_held reader.held)

-- `used` of the bytes were fed, line after line, until READY_LIMIT bytes waited, and no more; or no byte may be fed any
-- more, which ends the run
pub record FeedsBytes (task : Task) (old new : Reader) (fed : List ℕ) (taken : BothTexts)
    (bytes : List ℕ) (used : ℕ) (answer : Answer) : Type 0 where
  pub answers : answer ≡ answer_now new
  pub takes : TakesBytes (run_for task) fed taken bytes used (texts_of_held old.held) (texts_of_held new.held)
      (is_some new.outcome)
  pub over : 0 < length bytes → length (take (INPUT_LIMIT - length fed) bytes) ≡ 0
      → ReaderHasPassed task new fed taken
  pub fed_on : (0 < length bytes → 0 < length (take (INPUT_LIMIT - length fed) bytes))
      → HasFed fed task new (fed ++ take used bytes) taken
  pub still : 0 < length (take (INPUT_LIMIT - length fed) bytes) → READY_LIMIT ≤ ready_in old.held
      → new.held ≡ old.held

abbrev pub FeedsBy : Task → Reader → Reader → List ℕ → BothTexts → List ℕ → ℕ → Answer → Option Outcome
    → Type 0
FeedsBy task old new fed taken bytes used answer None = FeedsBytes task old new fed taken bytes used answer
FeedsBy task old new fed taken bytes used answer (Some outcome) = (answer ≡ bare_answer MISUSED 0 0)
    × (used ≡ 0) × (new ≡ old)

abbrev pub Feeds : Task → Reader → Reader → List ℕ → BothTexts → List ℕ → ℕ → Answer → Type 0
Feeds task old new fed taken bytes used answer = FeedsBy task old new fed taken bytes used answer old.outcome

-- the end of the input was reported
abbrev pub ReaderEndsBy : Task → Reader → Reader → List ℕ → BothTexts → Answer → Option Outcome → Type 0
ReaderEndsBy task old new fed taken answer None =
    ReaderHasEnded task new fed taken × (answer ≡ answer_now new)
ReaderEndsBy task old new fed taken answer (Some outcome) = (answer ≡ bare_answer MISUSED 0 0) × (new ≡ old)

abbrev pub Ends : Task → Reader → Reader → List ℕ → BothTexts → Answer → Type 0
Ends task old new fed taken answer = ReaderEndsBy task old new fed taken answer old.outcome

-- the engine of a task before its first line
pub record IsFresh (task : Task) (engine : AnyEngine) : Type 0 where
  pub is_of : IsOf task engine
  pub drained : ready_of engine ≡ []
  pub shown : shows_of engine [] []
