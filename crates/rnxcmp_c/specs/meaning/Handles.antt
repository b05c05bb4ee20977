-- The promises of the calls with a handle, by all bytes fed to it, by the texts taken from it and kept in it, and by
-- the answer of a call. The texts made are the texts taken, followed by the texts kept.
use Rattle.std.specs.Prelude.{◌≡◌, ◌⊎◌, ◌<◌, ◌≤◌, ℕ, ◌+◌, ◌-◌, Bool, true, false, List, [], ◌∷◌, ◌++◌, length}
use Rattle.std.specs.Prelude.{take, Option, Some, None, is_some}
use Rattle.crx_base.specs.meaning.Lines.{InputLine, lines_of}
use Rattle.crx_base.specs.meaning.AsRead.{ended_lines_of}
use Rattle.crx_base.specs.declared.fault.At.{At}
use Rattle.crx_base.specs.declared.fault.Fault.TheVariants.{InputTooLong, OutOfMemory}
use Rattle.crx_base.specs.declared.limits.TheConstants.{INPUT_LIMIT}
use Rattle.crx_base.specs.meaning.Choices.{Choices}
use Rattle.crx_filter.specs.meaning.Compacted.{compacted}
use Rattle.crx_filter.specs.meaning.Directions.{check_filter, compaction_filter, expansion_filter}
use Rattle.crx_filter.specs.meaning.Expanded.{expanded}
use Rattle.crx_filter.specs.meaning.Standard.{checked}
use Rattle.crx_runs.specs.meaning.Filters.{Filter, with_next}
use Rattle.crx_runs.specs.meaning.Messages.{error_text, notices_text}
use Rattle.crx_runs.specs.meaning.Results.{Course, FilterResult, result_of_course}
use Rattle.crx_runs.specs.meaning.Spans.{AreNext}
use Rattle.crx_runs.specs.declared.outcome.Outcome.{Outcome}
use Rattle.rnxcmp_c.specs.declared.answer.Answer.{Answer}
use Rattle.rnxcmp_c.specs.declared.answer.TheConstants.{OUTPUT_LIMIT}
use Rattle.rnxcmp_c.specs.declared.limits.TheConstants.{READY_LIMIT}
use Rattle.rnxcmp_c.specs.meaning.Answers.{BothTexts, fault_code_in, line_in}

-- ---- a run

-- A task is the choices for a run, and the most bytes of its output; 0 is no limit.
pub data Task : Type 0 where
  Compact : Choices → ℕ → Task
  Expand : Choices → ℕ → Task
  Check : Task

-- This is the result of a run for its whole input; its output and warnings for some of the first lines and for all; and
-- the most bytes of its output, 0 for no limit.
pub record TaskRun : Type 0 where
  pub result : List ℕ → FilterResult
  pub filter : Filter
  pub limit : ℕ

-- This is the run of a task.
abbrev pub run_for : Task → TaskRun
run_for (Compact choices most) = record {
  result = λ input. compacted input choices;
  filter = compaction_filter choices;
  limit = most;
}
run_for (Expand choices most) = record {
  result = λ input. expanded input choices;
  filter = expansion_filter choices;
  limit = most;
}
run_for Check = record { result = checked; filter = check_filter; limit = 0 }

-- These are two texts, each continued by the second pair.
abbrev pub joined_texts : BothTexts → BothTexts → BothTexts
joined_texts first then = record {
  output = first.output ++ then.output;
  messages = first.messages ++ then.messages;
}

-- This answer has a status, the line and the number of a fault, and the lengths of both texts kept.
abbrev pub handle_answer : ℕ → Option At → BothTexts → Answer
handle_answer status fault kept = record {
  line = line_in fault;
  output_length = length kept.output;
  messages_length = length kept.messages;
  status = status;
  code = fault_code_in fault;
}

-- ---- a run that has ended

-- The run has this result: its texts are the texts made, and its status and fault are in the answer.
pub record RunHasResult (result : FilterResult) (made kept : BothTexts) (answer : Answer) : Type 0 where
  pub answered : answer ≡ handle_answer result.status result.fault kept
  pub output : result.output ≡ made.output
  pub messages : result.messages ≡ made.messages

-- Memory for the message of the result's fault was refused: both texts are complete except for this message, and the
-- answer has code 22 at the line of the fault.
pub record LacksLastMessage (result : FilterResult) (made kept : BothTexts) (answer : Answer) : Type 0 where
  pub at : At
  pub faulty : result.fault ≡ Some at
  pub answered : answer ≡ handle_answer 1 (Some (record at { fault = OutOfMemory })) kept
  pub output : result.output ≡ made.output
  pub messages : result.messages ≡ made.messages ++ error_text (Some at)

-- The run has ended with one of these results, or with all of it except the message of its fault.
pub record RunHasEnded (is_one : FilterResult → Type 0) (made kept : BothTexts) (answer : Answer)
    : Type 0 where
  pub result : FilterResult
  pub is : is_one result
  pub ends : RunHasResult result made kept answer ⊎ LacksLastMessage result made kept answer

-- ---- a run that ends before its input does

-- This is the course of some lines and the next one, or the end if none follows.
abbrev pub with_one_more : Filter → List InputLine → List InputLine → Course
with_one_more filter lines [] = filter.whole lines
with_one_more filter lines (line ∷ more) = filter.so_far (with_next lines line)

-- The output of some of the first lines is within its limit, but with one more line, or with the end, it isn't: the
-- result is the output and warnings of those first lines, which have no fault.
pub record StopsAtLimit (run : TaskRun) (input : List ℕ) (result : FilterResult) : Type 0 where
  pub lines : List InputLine
  pub others : List InputLine
  pub first : lines_of input ≡ lines ++ others
  pub before : Course
  pub before_is : before ≡ run.filter.so_far lines
  pub good : before.fault ≡ None
  pub after : Course
  pub after_is : after ≡ with_one_more run.filter lines others
  pub limited : 0 < run.limit
  pub within : length before.output ≤ run.limit
  pub over : run.limit < length after.output
  pub result_is : result ≡ record {
    output = before.output;
    messages = notices_text before.warnings;
    status = OUTPUT_LIMIT;
    fault = None;
  }

-- Memory was refused at such a line, the next one after some of the first, or at the end after them. The line itself
-- may need memory after these of its warnings; or, before any warning, it adds to one of both texts. The result is the
-- output and warnings of those first lines, which have no fault, followed by these warnings and the message of the
-- refusal.
pub record StopsForMemory (is_line : ℕ → Type 0) (run : TaskRun) (input : List ℕ) (result : FilterResult)
    : Type 0 where
  pub lines : List InputLine
  pub others : List InputLine
  pub first : lines_of input ≡ lines ++ others
  pub before : Course
  pub before_is : before ≡ run.filter.so_far lines
  pub good : before.fault ≡ None
  pub after : Course
  pub after_is : after ≡ with_one_more run.filter lines others
  pub line : ℕ
  pub line_is : line ≡ length (lines ++ take 1 others)
  pub there : is_line line
  pub notices : List At
  pub own : (notices ≡ []) ⊎ AreNext before after notices
  pub asked : ((next : InputLine) × (more : List InputLine)
      × (others ≡ next ∷ more) × (run.filter.memory_after lines next ≡ Some notices))
      ⊎ ((notices ≡ []) × ((length before.output < length after.output)
      ⊎ (length (notices_text before.warnings) < length (notices_text after.warnings))))
  pub result_is : result ≡ result_of_course (record {
    output = before.output;
    warnings = before.warnings ++ notices;
    fault = Some (record { line = line; fault = OutOfMemory });
  })

-- The input has one byte more than its limit, in the line after the last LF. The result is the output and warnings of
-- the lines whose LF was fed, which have no fault, and the message of this fault.
pub record StopsWhenFull (run : TaskRun) (fed : List ℕ) (result : FilterResult) : Type 0 where
  pub full : length fed ≡ INPUT_LIMIT
  pub good : (run.filter.so_far (ended_lines_of fed)).fault ≡ None
  pub result_is : result ≡ result_of_course (record {
    output = (run.filter.so_far (ended_lines_of fed)).output;
    warnings = (run.filter.so_far (ended_lines_of fed)).warnings;
    fault = Some (record { line = length (ended_lines_of fed) + 1; fault = InputTooLong });
  })

-- ---- the promises of the calls

-- Bytes have ended the run. Whatever follows, it has the result of the input, by a fault; or it has stopped at the
-- limit of the output, or because memory was refused, at a line whose LF was fed after `before`. Or no byte was used,
-- because the input may have no more.
abbrev pub RunWasEnded : TaskRun → List ℕ → List ℕ → List ℕ → BothTexts → BothTexts → Answer → Type 0
RunWasEnded run before fed left made kept answer =
    ((more : List ℕ) → RunHasEnded
    (λ result. ((result ≡ run.result (fed ++ more)) × (result.status ≡ 1))
    ⊎ (StopsAtLimit run (fed ++ more) result
    ⊎ StopsForMemory (λ line. (length (ended_lines_of before) < line) × (line ≤ length (ended_lines_of fed)))
    run (fed ++ more) result)) made kept answer)
    ⊎ ((0 < length left) × (fed ≡ before) × RunHasEnded (StopsWhenFull run fed) made kept answer)

-- While the run continues, the texts made are the output and messages of all lines whose LF was fed, which have no
-- fault, and the answer has status 0 and no fault. After the run has ended, each call returns its status and its fault:
-- it has the result of the bytes fed; or it has stopped at the limit of the output, because memory was refused at one
-- of the lines, or because its input is too long. The output is always within its limit.
pub record HandlePromise (state : Option Outcome) (run : TaskRun) (fed : List ℕ) (made kept : BothTexts)
    (answer : Answer) : Type 0 where
  pub goes_on : state ≡ None → ((run.filter.so_far (ended_lines_of fed)).fault ≡ None)
      × RunHasResult (record {
        output = (run.filter.so_far (ended_lines_of fed)).output;
        messages = notices_text (run.filter.so_far (ended_lines_of fed)).warnings;
        status = 0;
        fault = None;
      }) made kept answer
  pub answered : (outcome : Outcome) → state ≡ Some outcome
      → answer ≡ handle_answer outcome.status outcome.fault kept
  pub ended : is_some state ≡ true → RunHasEnded (λ result. (result ≡ run.result fed)
      ⊎ (StopsAtLimit run fed result
      ⊎ (StopsForMemory (λ line. line ≤ length (lines_of fed)) run fed result
      ⊎ StopsWhenFull run fed result))) made kept answer
  pub within : 0 < run.limit → length made.output ≤ run.limit

-- `allowed` are the bytes that the input may still have, and `used` of them were used: at least one if fewer than
-- READY_LIMIT bytes waited, all unless the run continues and that many wait now, and none if that many waited before.
-- While the run continues, fewer waited without the last byte: the output and messages of the lines whose LF was fed,
-- minus the texts taken. If there are bytes but none is allowed, that ends the run.
pub record TakesBytes (run : TaskRun) (fed : List ℕ) (taken : BothTexts) (bytes : List ℕ) (used : ℕ)
    (before after : BothTexts) (has_ended : Bool) : Type 0 where
  pub allowed : List ℕ
  pub allowed_is : allowed ≡ take (INPUT_LIMIT - length fed) bytes
  pub within : used ≤ length allowed
  pub some : 0 < length allowed → length (before.output ++ before.messages) < READY_LIMIT → 0 < used
  pub all : used < length allowed
      → (has_ended ≡ false) × (READY_LIMIT ≤ length (after.output ++ after.messages))
  pub soon : let less : Course = run.filter.so_far (ended_lines_of (fed ++ take (used - 1) allowed)) in
      has_ended ≡ false → 0 < used → length (less.output ++ notices_text less.warnings)
      < length (taken.output ++ taken.messages) + READY_LIMIT
  pub still : 0 < length allowed → READY_LIMIT ≤ length (before.output ++ before.messages)
      → (used ≡ 0) × (after ≡ before) × (has_ended ≡ false)
  pub over : 0 < length bytes → length allowed ≡ 0 → (used ≡ 0) × (has_ended ≡ true)
