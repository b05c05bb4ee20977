-- The texts that are collected from a run over the caller's input.
use Rattle.std.specs.Prelude.{◌≡◌, ◌⊎◌, ◌<◌, ◌≤◌, ◌+◌, ◌-◌, ◌^◌, ◌==◌, ℕ, true, false, [], length, min, nat_le, vec_capacity}
use Rattle.std.specs.Prelude.{if◌then◌else◌}
use Rattle.crx_base.specs.meaning.Faults.{code_of_fault}
use Rattle.crx_base.specs.declared.fault.Fault.TheVariants.{OutOfMemory}
use Rattle.crx_runs.specs.declared.outcome.Outcome.{Outcome}
use Rattle.rnxcmp_c.specs.meaning.Answers.{BothTexts, HasNoMemory, bare_answer, fault_code_in, line_in, placed}
use Rattle.rnxcmp_c.specs.declared.answer.Answer.{Answer}
use Rattle.rnxcmp_c.specs.declared.answer.TheConstants.{NO_ROOM, OUTPUT_LIMIT}
use Rattle.rnxcmp_c.specs.declared.devices.Counted.{Counted}

-- a sink that has taken nothing yet
pub record IsEmpty (room most : ℕ) (sink : Counted) : Type 0 where
  pub bytes : sink.bytes.items ≡ []
  pub room_is : sink.room ≡ room
  pub count : sink.count ≡ 0
  pub most_is : sink.most ≡ most
  pub good : sink.failures ≡ 0
  pub kept : sink.lost ≡ false

-- the most bytes that a call takes of an output of at most `most` bytes: one more, so that a longer output is noticed;
-- any number if there is no limit
abbrev pub taken_of : ℕ → ℕ
taken_of most = if most == 0 then 2 ^ 64 - 1 else min (most + 1) (2 ^ 64 - 1)

-- the two sinks of a call take enough: the output up to its limit and one byte more, and all messages
pub record TakeEnough (output messages : Counted) (most : ℕ) : Type 0 where
  pub output_is : output.most ≡ taken_of most
  pub messages_are : messages.most ≡ 2 ^ 64 - 1

-- a call returned the outcome of a run whose output is within its limit, and copied the collected texts into the
-- buffers; memory was never refused
pub record IsCollected (outcome : Outcome) (output messages : Counted) (most : ℕ) (answer : Answer)
    (before after : BothTexts) : Type 0 where
  pub within : (most ≡ 0) ⊎ (output.count ≤ most)
  pub memory : fault_code_in outcome.fault ≡ code_of_fault OutOfMemory → ⊥
  pub output_good : output.failures ≡ 0
  pub messages_good : messages.failures ≡ 0
  pub answer_is : answer ≡ record {
    line = line_in outcome.fault;
    output_length = output.count;
    messages_length = messages.count;
    status = if nat_le output.count (length before.output) then outcome.status else NO_ROOM;
    code = fault_code_in outcome.fault;
  }
  pub output_is : after.output ≡ placed output.bytes.items before.output
  pub messages_are : after.messages ≡ placed messages.bytes.items before.messages

-- a text couldn't be kept as far as there is room for it, or its length is the largest number
abbrev pub IsLost : Counted → Type 0
IsLost sink = ((sink.lost ≡ true) × (vec_capacity sink.bytes < sink.room)) ⊎ (sink.count ≡ sink.most)

-- the answer of a run without a result: its output is longer than its limit; or memory was refused to it or to one of
-- its texts, or the length of a text is the largest number
pub record EndsWithout (outcome : Outcome) (output messages : Counted) (most : ℕ) (answer : Answer) : Type 0 where
  pub answer_is : ((answer ≡ bare_answer OUTPUT_LIMIT 0 0) × (0 < most) × (most < output.count))
      ⊎ (answer ≡ bare_answer 1 (line_in outcome.fault) (code_of_fault OutOfMemory))
  pub asked : HasNoMemory answer → (fault_code_in outcome.fault ≡ code_of_fault OutOfMemory)
      ⊎ (IsLost output ⊎ IsLost messages)

-- the answer of a run with its collected texts; without a result the buffers stay as they are
abbrev pub AnswersRun : Outcome → Counted → Counted → ℕ → Answer → BothTexts → BothTexts → Type 0
AnswersRun outcome output messages most answer before after =
    IsCollected outcome output messages most answer before after
    ⊎ (EndsWithout outcome output messages most answer × (after ≡ before))
