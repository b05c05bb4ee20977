-- The output, messages and result of a whole run, by the bytes that its reader gave.
use Rattle.std.specs.Prelude.{◌≡◌, ◌⊎◌, ◌<◌, ◌≤◌, ◌-◌, ◌^◌, ℕ, List, [], ◌++◌, length, Option, Some, None}
use Rattle.crx_lines.specs.meaning.Devices.{one_more, with_flush}
use Rattle.crx_base.specs.declared.fault.At.{At}
use Rattle.crx_base.specs.declared.fault.Fault.{Fault}
use Rattle.crx_base.specs.declared.fault.Fault.TheVariants.{ReadFailed, OutOfMemory}
use Rattle.crx_base.specs.declared.limits.TheConstants.{INPUT_LIMIT}
use Rattle.crx_runs.specs.meaning.Filters.{Filter}
use Rattle.crx_runs.specs.meaning.Interruptions.{Stands, IsFrontPart}
use Rattle.crx_runs.specs.meaning.Results.{FilterResult}
use Rattle.crx_runs.specs.meaning.Spans.{Device, Input, reader_span, span}
use Rattle.crx_runs.specs.declared.outcome.Outcome.{Outcome}
use Rattle.crx_lines.specs.declared.device.Sink.{Ghosts as SinkGhosts}
use Rattle.crx_lines.specs.declared.device.Source.{Ghosts as SourceGhosts}

-- ---- the whole run

-- a run wrote, reported and returned this result
pub record IsResult (result : FilterResult) (writer messages : Device) (status : ℕ) (fault : Option At) : Type 0 where
  pub output : writer.took result.output
  pub messages_are : messages.took result.messages
  pub status_is : status ≡ result.status
  pub fault_is : fault ≡ result.fault

-- a device counted no failure, and could have counted one
abbrev pub NoneFailed : ℕ → ℕ → Type 0
NoneFailed before after = (after ≡ before) × (before < 2 ^ 64 - 1)

-- whether the fault is this one
abbrev pub FaultIs : Fault → Option At → Type 0
FaultIs fault None = ⊥
FaultIs fault (Some at) = at.fault ≡ fault

-- the meaning of a run for the bytes that its reader gave, by the result of a whole input and by the filter
pub record RunsAs (result_of : List ℕ → FilterResult) (filter : Filter)
    (input : Input) (given : List ℕ) (writer messages : Device) (status : ℕ) (fault : Option At) : Type 0 where
  -- if no device failed and memory wasn't refused, the result is the result of every input within the limit
  -- that begins with these bytes and, if its end was reported, is these bytes
  pub whole : NoneFailed input.start.failures input.counted.failures
      → NoneFailed writer.before.failures writer.after.failures
      → NoneFailed messages.before.failures messages.after.failures → (FaultIs OutOfMemory fault → ⊥)
      → (rest : List ℕ) → (input.at_end → rest ≡ [])
      → length (given ++ rest) ≤ INPUT_LIMIT → IsResult (result_of (given ++ rest)) writer messages status fault
  -- without a fault the end of the input was reported, no device failed, the writer was flushed once and the
  -- messages never, and the result is the result of these bytes
  pub good : fault ≡ None → input.at_end × (length given ≤ INPUT_LIMIT) × (input.counted.failures
      ≡ input.start.failures) × (writer.after ≡ with_flush writer.before) × (messages.after ≡ messages.before)
      × IsResult (result_of given) writer messages status fault
  -- without a fault all output was passed on: the flush was the last call
  pub flushed : fault ≡ None → writer.flushed
  -- with a fault the status is 1, and the fault determines the output and the messages
  pub ended : (at : At) → fault ≡ Some at → (status ≡ 1) × Stands filter input given writer messages at at.fault
  -- the end of the input was reported at most once: the reader wasn't called again after it
  pub asked : (input.counted.ends ≡ input.start.ends) ⊎ (input.counted.ends ≡ one_more input.start.ends)
  -- no read failed, unless that is the fault
  pub read : (FaultIs ReadFailed fault → ⊥) → input.counted.failures ≡ input.start.failures
  -- the bytes written are a prefix of the defined output
  pub front : IsFrontPart filter input given writer

-- a run from a reader to a writer and to messages: its reader gave some bytes, and the run is as they define
abbrev pub Runs : (List ℕ → FilterResult) → Filter → Input → Device → Device → ℕ → Option At → Type 0
Runs result_of filter input writer messages status fault = (given : List ℕ)
    × input.gave given × RunsAs result_of filter input given writer messages status fault

-- a finished run: the bytes through its reader, its writer and its messages, and its result
pub record Ran : Type 1 where
  pub input : Input
  pub writer : Device
  pub messages : Device
  pub status : ℕ
  pub fault : Option At

-- a run by the states of each device before and after it, and its outcome
abbrev pub ran_over : {R W M : Type 0} → SourceGhosts R → R → R → SinkGhosts W → W → W → SinkGhosts M → M → M
    → Outcome → Ran
ran_over source reader reader_then sink writer writer_then message_sink messages messages_then outcome = record {
  input = reader_span source reader reader_then;
  writer = span sink writer writer_then;
  messages = span message_sink messages messages_then;
  status = outcome.status;
  fault = outcome.fault;
}

-- the run is as its reader's bytes define
abbrev pub HasRun : (List ℕ → FilterResult) → Filter → Ran → Type 0
HasRun result_of filter run = Runs result_of filter run.input run.writer run.messages run.status run.fault
