-- The result of a call, and the caller's memory after it.
use Rattle.std.specs.Prelude.{◌≡◌, ◌<◌, ◌≤◌, ℕ, List, ◌++◌, take, drop, length, nat_le, Option, Some, None, if◌then◌else◌}
use Rattle.crx_base.specs.meaning.Faults.{code_of_fault}
use Rattle.crx_base.specs.declared.fault.At.{At}
use Rattle.crx_base.specs.declared.fault.Fault.TheVariants.{OutOfMemory}
use Rattle.crx_runs.specs.meaning.Results.{FilterResult}
use Rattle.rnxcmp_c.specs.declared.answer.Answer.{Answer}
use Rattle.rnxcmp_c.specs.declared.answer.TheConstants.{NO_ROOM, OUTPUT_LIMIT}

-- Both texts are the output and the messages: in the caller's two buffers at one moment, in a handle, or in all.
pub record BothTexts : Type 0 where
  pub output : List ℕ
  pub messages : List ℕ

-- These are an output and messages with these bytes.
abbrev pub rooms : List ℕ → List ℕ → BothTexts
rooms output messages = record { output = output; messages = messages }

-- A buffer with a text at its front, as far as it fits, followed by its earlier bytes.
abbrev pub placed : List ℕ → List ℕ → List ℕ
placed text room = take (length room) text ++ drop (length text) room

-- This is the number of the fault that ended a run, 0 if none did.
abbrev pub fault_code_in : Option At → ℕ
fault_code_in None = 0
fault_code_in (Some at) = code_of_fault at.fault

-- This is the line of that fault, 0 if there is none.
abbrev pub line_in : Option At → ℕ
line_in None = 0
line_in (Some at) = at.line

-- The status of a result is its own if the output fits into a buffer of `room` bytes, otherwise NO_ROOM.
abbrev pub status_in : FilterResult → ℕ → ℕ
status_in result room = if nat_le (length result.output) room then result.status else NO_ROOM

-- A call returned this result, and copied its output and its messages into the caller's buffers.
pub record IsAnswer (result : FilterResult) (answer : Answer) (before after : BothTexts) : Type 0 where
  pub status : answer.status ≡ status_in result (length before.output)
  pub code : answer.code ≡ fault_code_in result.fault
  pub line : answer.line ≡ line_in result.fault
  pub output_length : answer.output_length ≡ length result.output
  pub messages_length : answer.messages_length ≡ length result.messages
  pub output : after.output ≡ placed result.output before.output
  pub messages : after.messages ≡ placed result.messages before.messages

-- An output is within its limit; 0 is no limit.
abbrev pub KeepsToLimit : ℕ → List ℕ → Type 0
KeepsToLimit most output = 0 < most → length output ≤ most

-- An output is longer than its limit.
abbrev pub ExceedsLimit : ℕ → List ℕ → Type 0
ExceedsLimit most output = (0 < most) × (most < length output)

-- ---- answers without a result

-- This answer has only a status, a line and a fault's number.
abbrev pub bare_answer : ℕ → ℕ → ℕ → Answer
bare_answer status line code =
    record { line = line; output_length = 0; messages_length = 0; status = status; code = code }

-- The answer has only a status, a line and a fault's number, and the buffers are unchanged.
abbrev pub AnswersAlone : ℕ → ℕ → ℕ → Answer → BothTexts → BothTexts → Type 0
AnswersAlone status line code answer before after = (answer ≡ bare_answer status line code) × (after ≡ before)

-- A call returned this result, or the status that its output is longer than its limit.
pub record AnswersWithin (most : ℕ) (result : FilterResult) (answer : Answer) (before after : BothTexts)
    : Type 0 where
  pub within : (ExceedsLimit most result.output → ⊥) → IsAnswer result answer before after
  pub over : ExceedsLimit most result.output → AnswersAlone OUTPUT_LIMIT 0 0 answer before after

-- The answer says that memory was refused.
abbrev pub HasNoMemory : Answer → Type 0
HasNoMemory answer = answer.code ≡ code_of_fault OutOfMemory
