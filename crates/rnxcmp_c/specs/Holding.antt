-- The state of a run between two calls, and how its texts are counted.
use Rattle.std.specs.Prelude.{◌≡◌, ◌≢◌, ◌⊎◌, ◌<◌, ◌≤◌, ℕ, ◌+◌, Bool, true, false, ◌||◌, [], length, take, Result, Ok, Err}
use Rattle.crx_base.specs.declared.fault.Fault.TheVariants.{OutOfMemory}
use Rattle.crx_runs.specs.declared.one_line.Halt.{Halt}
use Rattle.crx_runs.specs.declared.one_line.Halt.TheVariants.{Fault as Faulty, Unwritten, Unreported}
use Rattle.rnxcmp_c.specs.meaning.Answers.{BothTexts}
use Rattle.rnxcmp_c.specs.Waiting.{waiting}
use Rattle.rnxcmp_c.specs.declared.handle_state.HandleState.{HandleState}
use Rattle.rnxcmp_c.specs.declared.handle_state.Mark.{Mark}
use Rattle.rnxcmp_c.specs.declared.stop.Stop.{Stop}
use Rattle.rnxcmp_c.specs.declared.stop.Stop.TheVariants.{Fault, Limit}

-- both texts that wait to be taken
abbrev pub texts_of_held : HandleState → BothTexts
texts_of_held held = record { output = waiting held.output; messages = waiting held.messages }

-- how many bytes of both texts wait to be taken
abbrev pub ready_in : HandleState → ℕ
ready_in held = length (waiting held.output) + length (waiting held.messages)

-- no write to either text failed
pub record AreUnfailed (held : HandleState) : Type 0 where
  pub output : held.output.failures ≡ 0
  pub messages : held.messages.failures ≡ 0

-- a line needs memory, or a write to one of the texts failed
abbrev pub IsMemoryLacking : Bool → HandleState → Type 0
IsMemoryLacking takes held = (takes ≡ true) ⊎ ((held.output.failures ≢ 0) ⊎ (held.messages.failures ≢ 0))

-- the state before the first byte; `limit`: the most bytes of output
pub record HoldsNothing (limit : ℕ) (held : HandleState) : Type 0 where
  pub tail : held.tail.bytes.items ≡ []
  pub number : held.number ≡ 0
  pub warned : held.warned ≡ false
  pub limit_is : held.limit ≡ limit
  pub left : held.left ≡ limit
  pub output : waiting held.output ≡ []
  pub messages : waiting held.messages ≡ []
  pub unfailed : AreUnfailed held

-- the lengths of both waiting texts, or at most these
pub record IsMark (mark : Mark) (held : HandleState) : Type 0 where
  pub output : mark.output ≡ length (waiting held.output)
  pub messages : mark.messages ≡ length (waiting held.messages)

pub record IsMarkWithin (mark : Mark) (held : HandleState) : Type 0 where
  pub output : mark.output ≤ length (waiting held.output)
  pub messages : mark.messages ≤ length (waiting held.messages)

-- only the bytes left for the output changed, by the output added after `mark` bytes
pub record StaysWithin (mark : ℕ) (old new : HandleState) : Type 0 where
  pub same : new ≡ record old { left = new.left }
  pub left : 0 < old.limit → new.left + length (waiting old.output) ≡ old.left + mark

-- a step was taken: its output since `mark` was counted, and its warning was noted
pub record IsCounted (taken : Result Bool Halt) (mark : Mark) (old new : HandleState) : Type 0 where
  pub warned : Bool
  pub is_taken : taken ≡ Ok warned
  pub same : new ≡ record old { left = new.left; warned = old.warned || warned }
  pub left : 0 < old.limit → new.left + length (waiting old.output) ≡ old.left + mark.output

-- everything added to both texts since a mark was dropped
pub record AreCutTo (mark : Mark) (old new : HandleState) : Type 0 where
  pub limit : new.limit ≡ old.limit
  pub output_is : waiting new.output ≡ take mark.output (waiting old.output)
  pub messages_are : waiting new.messages ≡ take mark.messages (waiting old.messages)
  pub output_good : new.output.failures ≡ old.output.failures
  pub messages_good : new.messages.failures ≡ old.messages.failures

-- more output was added since a mark than the limit allows, and both texts were cut back to the mark
pub record IsCutBack (mark : Mark) (old new : HandleState) : Type 0 where
  pub limited : 0 < old.limit
  pub over : old.left + mark.output < length (waiting old.output)
  pub cut : AreCutTo mark old new

-- one of both texts couldn't be kept
abbrev pub IsTextLost : {T : Type 0} → Result T Halt → Type 0
IsTextLost taken = (taken ≡ Err Unwritten) ⊎ (taken ≡ Err Unreported)

-- why the run ended, after the output since a mark was counted: the fault of the step; a text that couldn't be kept,
-- which is refused memory at line `number`; or the limit of the output
abbrev pub StopsCounted : {T : Type 0} → Result T Halt → Mark → ℕ → HandleState → HandleState → Stop → Type 0
StopsCounted taken mark number old new (Fault at) =
    ((taken ≡ Err (Faulty at)) × StaysWithin mark.output old new)
    ⊎ (IsTextLost taken × (at ≡ record { line = number; fault = OutOfMemory })
    × ((mid : HandleState) × StaysWithin mark.output old mid × AreCutTo mark mid new))
StopsCounted taken mark number old new Limit = IsCutBack mark old new
