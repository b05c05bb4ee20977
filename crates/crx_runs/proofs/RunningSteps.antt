-- A line continues a run or ends it; and the end of a run.
use Rattle.std.proofs.lemmas.Grind.{common_steps}
use Rattle.std.proofs.Common.{arith, ◌≡◌, ℕ, ◌+◌, Bool, ◌||◌, List, [], length, Option, None, Some, is_some, true, refl, Result}
use Rattle.std.proofs.Common.{Ok, Err, OnOk}
use Rattle.crx_base.specs.meaning.Lines.{InputLine}
use Rattle.crx_lines.specs.Reading.{HasNoFeed, ReaderState}
use Rattle.crx_lines.specs.declared.phase.Phase.TheVariants.{Open}
use Rattle.crx_runs.proofs.DeviceSpans.{Joins, all-still, took-still}
use Rattle.crx_runs.proofs.{LineEndings.out-more, StepReading.ReadsLine}
use Rattle.crx_runs.specs.{Endings.{EndsBy, EndsFrom, FlushFailed, HandingFailed, StopsAt, WellDone}, Engines.Awaited}
use Rattle.crx_runs.specs.Running.{ComesToEnd, GoesOnBy, IsRunning, StepGoes, step_answer, stepped}
use Rattle.crx_runs.specs.Taking.{Becomes, IsDone}
use Rattle.crx_runs.specs.declared.stepwise.StepOutcome.TheVariants.{Stopped}
use Rattle.crx_runs.specs.{declared.one_line.Halt.Halt, meaning.Filters.{Filter, with_next}}
use Rattle.crx_runs.specs.meaning.{Results.{Course, are_some}, Spans.{Device, Input, TookAll}}

-- a property of a line holds for its step
pub stepped-ok : (P : Type 0) (taken : Result Bool Halt) → OnOk taken P → OnOk (stepped taken) P
stepped-ok P (Ok warned) is = is
stepped-ok P (Err halt) is = is

-- a run that stopped stores why it ended
pub stopped-by : {filter : Filter} (shows : List InputLine → List Awaited → Type 0) {input : Input}
    {writer messages : Device} {now : ReaderState} {lines : List InputLine} (ended : Option Halt)
    → is_some ended ≡ true → StepGoes filter shows input writer messages now lines (step_answer Stopped ended)
    → (halt : Halt) × (ended ≡ Some halt) × StopsAt filter input writer messages now lines halt
stopped-by shows (Some halt) some goes = (halt, refl, goes)
stopped-by shows None some goes = absurd (cc)

-- the run continues
pub go-on : {filter : Filter} {shows : List InputLine → List Awaited → Type 0} {input : Input}
    {writer messages : Device} {now : ReaderState} {lines : List InputLine} {warned warning both : Bool}
    → warned ≡ are_some (filter.so_far lines).warnings → GoesOnBy filter shows input writer messages now lines
    warning → both ≡ (warned || warning) → (ls : List InputLine) × shows ls [] × IsRunning input writer
    messages now ls (filter.so_far ls) × (both ≡ are_some (filter.so_far ls).warnings)
go-on = grind arith

module _ (filter : Filter) {input then : Input} {old new : ReaderState} {lines : List InputLine}
    {writer1 writer2 writer messages1 messages2 messages : Device} (w : Joins writer1 writer2 writer)
    (m : Joins messages1 messages2 messages)
    (running : IsRunning input writer1 messages1 old lines (filter.so_far lines)) {line : InputLine}
    {number : ℕ} (read : ReadsLine then.gave then.at_end then.start then.counted new lines line number) where
  -- a line was taken, or it ended the run
  pub goes-by : (shows : List InputLine → List Awaited → Type 0) (result : Result Bool Halt)
      → Becomes (filter.memory_after lines line) (length lines + 1) (filter.so_far lines)
      (filter.so_far (with_next lines line)) (shows (with_next lines line) []) writer2 messages2 result
      → StepGoes filter shows then writer messages new lines (stepped result)
  goes-by shows (Ok warned) = grind (arith, common_steps, out-more)
  goes-by shows (Err halt) = grind arith

module _ {filter : Filter} {input : Input} {now : ReaderState} {lines : List InputLine}
    {writer1 writer2 writer messages1 messages2 messages : Device} (w : Joins writer1 writer2 writer)
    (m : Joins messages1 messages2 messages) {shows : List InputLine → List Awaited → Type 0}
    (comes : ComesToEnd filter shows input writer1 messages1 now lines) where
  -- the end was taken
  pub well-done : {has_ended : List InputLine → Type 0} {last : ℕ} {warned warning both : Bool}
      → last ≡ now.number → warned ≡ are_some (filter.so_far lines).warnings → both ≡ (warned || warning)
      → IsDone (filter.so_far lines) (filter.whole lines) (has_ended lines) writer2 messages2 warning
      → WellDone filter has_ended input writer messages now last both
  well-done = grind (arith, common_steps, out-more)

  -- the end ended the run
  pub stopped-end : (halt : Halt)
      → EndsFrom None (length lines + 1) writer2 messages2 (filter.so_far lines) (filter.whole lines) halt
      → EndsBy filter input writer messages now lines None halt
  stopped-end = grind arith

module _ {input : Input} {now : ReaderState} {lines : List InputLine} {course : Course}
    {writer1 writer2 writer messages : Device} (w : Joins writer1 writer2 writer)
    (running : IsRunning input writer1 messages now lines course) where
  -- all output was passed on
  pub still-running : TookAll writer2 [] → IsRunning input writer messages now lines course
  still-running still = grind (arith, common_steps, all-still)

  -- or it couldn't be passed on
  pub handing-fails : (now.phase ≡ Open → HasNoFeed now.rest) → FlushFailed writer2
      → HandingFailed input writer messages now lines course
  handing-fails unheld failed = grind (arith, common_steps, took-still)
