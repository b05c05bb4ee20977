-- A handle between two calls.
use Rattle.std.specs.Prelude.{◌≡◌, ◌⊎◌, ℕ, Bool, true, false, List, [], ◌∷◌, length, drop}
use Rattle.std.specs.Prelude.{Option, None, is_some}
use Rattle.crx_base.specs.declared.fault.Fault.TheVariants.{OutOfMemory}
use Rattle.crx_base.specs.meaning.Choices.{Choices}
use Rattle.crx_base.specs.meaning.Faults.{code_of_fault}
use Rattle.crx_runs.specs.declared.outcome.Outcome.{Outcome}
use Rattle.rnxcmp_c.specs.Handles.{Ends, Feeds, ReaderStands, fault_now, status_now}
use Rattle.rnxcmp_c.specs.meaning.Answers.{BothTexts, HasNoMemory, bare_answer, placed}
use Rattle.rnxcmp_c.specs.meaning.Ended.{ExpansionPromises}
use Rattle.rnxcmp_c.specs.meaning.Handles.{Task, Check, Expand, handle_answer, joined_texts}
use Rattle.rnxcmp_c.specs.declared.answer.Answer.{Answer}
use Rattle.rnxcmp_c.specs.declared.answer.TheConstants.{MISUSED, OUTPUT_LIMIT}
use Rattle.rnxcmp_c.specs.declared.handle.Handle.{Handle}
use Rattle.rnxcmp_c.specs.declared.reader.Reader.{Reader}
use Rattle.rnxcmp_c.specs.Waiting.{waiting}

-- a handle holds a reader
abbrev pub Holds : Handle → Reader → Type 0
Holds handle reader = handle.place.held ≡ reader ∷ []

-- the handle is open, and its reader is in the state given by the bytes fed and the texts taken
pub record HandleStands (task : Task) (handle : Handle) (fed : List ℕ) (taken : BothTexts) : Type 0 where
  pub reader : Reader
  pub is_open : handle.is_open ≡ true
  pub holds : Holds handle reader
  pub stands : ReaderStands task reader fed taken

-- a handle that is closed, or as a call left it: the obligation of a C program
abbrev pub IsSoundHandle : Handle → Type 0
IsSoundHandle handle = handle.is_open ≡ true
    → (task : Task) × (fed : List ℕ) × (taken : BothTexts) × HandleStands task handle fed taken

-- the handle is unchanged
abbrev pub IsUnchanged : Handle → Handle → Type 0
IsUnchanged old new = new ≡ old

-- a handle that isn't open was misused, and is unchanged
abbrev pub RefusesMisuse : Handle → Handle → Answer → Type 0
RefusesMisuse old new answer = (answer ≡ bare_answer MISUSED 0 0) × IsUnchanged old new

-- the texts that are kept
abbrev pub output_kept : List Reader → List ℕ
output_kept [] = []
output_kept (reader ∷ more) = waiting reader.held.output

abbrev pub messages_kept : List Reader → List ℕ
messages_kept [] = []
messages_kept (reader ∷ more) = waiting reader.held.messages

abbrev pub texts_in : List Reader → BothTexts
texts_in held = record { output = output_kept held; messages = messages_kept held }

abbrev pub run_in : List Reader → Option Outcome
run_in [] = None
run_in (reader ∷ more) = reader.outcome

-- both texts that a handle keeps
abbrev pub texts_kept : Handle → BothTexts
texts_kept handle = texts_in handle.place.held

-- how the run of a handle has ended; none if it continues
abbrev pub run_state : Handle → Option Outcome
run_state handle = run_in handle.place.held

-- whether it has ended
abbrev pub has_ended : Handle → Bool
has_ended handle = is_some (run_state handle)

-- this is true for every task, and for all bytes fed and texts taken, that lead to this handle; while its run
-- continues; and after its run has ended
abbrev pub ByItsPast : Handle → (Task → List ℕ → BothTexts → Type 0) → Type 0
ByItsPast handle IsSo = (task : Task) (fed : List ℕ) (taken : BothTexts)
    → HandleStands task handle fed taken → IsSo task fed taken

abbrev pub WhileItGoesOn : Handle → (Task → List ℕ → BothTexts → Type 0) → Type 0
WhileItGoesOn handle IsSo =
    ByItsPast handle (λ task fed taken. has_ended handle ≡ false → IsSo task fed taken)

abbrev pub OnceItHasEnded : Handle → Type 0 → Type 0
OnceItHasEnded handle IsSo = ByItsPast handle (λ task fed taken. has_ended handle ≡ true → IsSo)

-- a call that should open a handle leaves it unchanged unless the status is 0; an open handle is misused
pub record KeepsHandle (old new : Handle) (answer : Answer) : Type 0 where
  pub unchanged : (answer.status ≡ 0 → ⊥) → IsUnchanged old new
  pub misused : old.is_open ≡ true → answer ≡ bare_answer MISUSED 0 0

-- the handle was opened, or memory was refused
abbrev pub AnswersOpening : Answer → Type 0
AnswersOpening answer = (answer ≡ bare_answer 0 0 0) ⊎ (answer ≡ bare_answer 1 0 (code_of_fault OutOfMemory))

-- this is true of every expansion that leads to this handle, and of every check
abbrev pub ForExpansions : Handle → (Choices → List ℕ → BothTexts → Type 0) → Type 0
ForExpansions handle IsSo = (choices : Choices) (limit : ℕ) (fed : List ℕ) (taken : BothTexts)
    → HandleStands (Expand choices limit) handle fed taken → IsSo choices fed taken

abbrev pub ForChecks : Handle → (List ℕ → Type 0) → Type 0
ForChecks handle IsSo = (fed : List ℕ) (taken : BothTexts) → HandleStands Check handle fed taken → IsSo fed

-- this is true unless refused memory or the limit of the output ended the run
abbrev pub WhereItEnded : Answer → Type 0 → Type 0
WhereItEnded answer is_so = (HasNoMemory answer → ⊥) → (answer.status ≡ OUTPUT_LIMIT → ⊥) → is_so

-- all output and messages for these bytes, taken and kept, are as an expansion promises
abbrev pub KeepsExpansion : Choices → List ℕ → BothTexts → Handle → Answer → Type 0
KeepsExpansion choices fed taken handle answer =
    ExpansionPromises choices fed (joined_texts taken (texts_kept handle)) (texts_kept handle) answer

-- the change of a handle's run by some bytes
pub record FeedsHandle (task : Task) (old new : Handle) (fed : List ℕ) (taken : BothTexts) (bytes : List ℕ)
    (used : ℕ) (answer : Answer) : Type 0 where
  pub before : Reader
  pub after : Reader
  pub held : Holds old before
  pub holds : Holds new after
  pub is_open : new.is_open ≡ true
  pub feeds : Feeds task before after fed taken bytes used answer

-- and by the end of the input
pub record EndsHandle (task : Task) (old new : Handle) (fed : List ℕ) (taken : BothTexts) (answer : Answer)
    : Type 0 where
  pub before : Reader
  pub after : Reader
  pub held : Holds old before
  pub holds : Holds new after
  pub is_open : new.is_open ≡ true
  pub ends : Ends task before after fed taken answer

-- both texts kept were moved into two buffers as far as they fit, and the rest is kept; the answer has the run's state,
-- which is unchanged, and how much is left
pub record HandsOut (old new : List Reader) (before after : BothTexts) (answer : Answer) : Type 0 where
  pub output : after.output ≡ placed (output_kept old) before.output
  pub messages : after.messages ≡ placed (messages_kept old) before.messages
  pub output_left : output_kept new ≡ drop (length before.output) (output_kept old)
  pub messages_left : messages_kept new ≡ drop (length before.messages) (messages_kept old)
  pub same : run_in new ≡ run_in old
  pub answered : answer ≡ handle_answer (status_now (run_in new)) (fault_now (run_in new)) (texts_in new)
