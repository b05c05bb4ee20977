-- What follows from how a run ended.
use Rattle.std.proofs.lemmas.Grind.{common_steps}
use Rattle.std.proofs.Common.{◌≡◌, ◌⊎◌, inl, inr, ℕ, ◌≤◌, Bool, false}
use Rattle.std.proofs.Common.{true, List, [], ◌++◌, length, Option, Some}
use Rattle.std.proofs.Common.{None, refl, sym, ap, ◌∙◌, arith, append-nil, length-append}
use Rattle.crx_lines.{proofs.ProgressLemmas.{HasRead-ended, HasRead-stopped}, specs.Reading.ReaderState}
use Rattle.crx_lines.specs.{Progress.{HasRead, IsStopped}, declared.phase.Phase.TheVariants.{Open, Ended}}
use Rattle.crx_base.specs.{declared.fault.Fault.Fault, meaning.Lines.{InputLine, lines_of}}
use Rattle.crx_base.specs.declared.{limits.TheConstants.INPUT_LIMIT}
use Rattle.crx_base.specs.declared.fault.{Fault.TheVariants.{ReadFailed, OutOfMemory}, At.At}
use Rattle.crx_runs.proofs.{StateAfterRuns.{AskedOnce, is-open, none-failed, asked-once}, RunEndings.next-stands}
use Rattle.crx_runs.proofs.RunEndings.{handing-stands, reader-stands, start-stands, flush-stands, StandsAfter}
use Rattle.crx_runs.proofs.{RunEndings.well-front, DeviceSpans.{Joins, took-still}}
use Rattle.crx_lines.specs.meaning.Devices.{with_failed_flush}
use Rattle.crx_runs.specs.{Runs.result_by, Lawful.IsLawful, meaning.Spans.{Device, TookAll, Input}}
use Rattle.crx_runs.specs.meaning.{Filters.{Filter, course_with}, Interruptions.IsFrontPart, Runs.IsResult}
use Rattle.crx_runs.specs.meaning.{Runs.{NoneFailed, FaultIs, RunsAs}, Results.{Course, result_of_course}}
use Rattle.crx_runs.specs.{meaning.Results.status_after, Endings.{EndedByFault, EndsAt, Finishes}}
use Rattle.crx_runs.specs.Endings.{EndsBy, FlushFailed, IsFlushed, StopsAt, WorkEnds}
use Rattle.crx_runs.specs.{declared.one_line.Halt.Halt, meaning.Messages.{error_text, notices_text}}
use Rattle.crx_runs.specs.declared.one_line.Halt.TheVariants as halt

module _ {input : Input} {now : ReaderState} {lines : List InputLine}
    (h : HasRead input.gave input.at_end input.start input.counted now lines) where
  all-lines : now.phase ≡ Ended → (rest : List ℕ) → (input.at_end → rest ≡ []) → lines_of (h.given ++ rest) ≡
      lines
  all-lines = grind (arith, common_steps, append-nil)

  -- the lines that were read are the first lines of every input that begins with the bytes read
  first-lines : (now.phase ≡ Open) ⊎ (now.phase ≡ Ended) → (rest : List ℕ) → (input.at_end → rest ≡ [])
      → (more : List InputLine) × (lines_of (h.given ++ rest) ≡ lines ++ more)
  first-lines (inl e) rest none = (lines_of (now.rest ++ rest), (is-open h e).first rest)
  first-lines (inr e) rest none = ([], all-lines e rest none ∙ sym (append-nil lines))

-- ---- a whole run

-- the result of a run
abbrev Comes : Filter → Input → Device → Device → (List InputLine → Type 0) → ℕ → Option At → Type 0
Comes filter input writer messages has_ended status fault = (given : List ℕ) × input.gave given
    × RunsAs (result_by filter) filter input given writer messages status fault
    × (fault ≡ None → has_ended (lines_of given))

module _ (filter : Filter) (lawful : IsLawful filter) (input : Input)
    {writer1 writer2 writer messages1 messages2 messages : Device}
    (w : Joins writer1 writer2 writer) (m : Joins messages1 messages2 messages) where
  -- a course that was written, flushed and reported
  whole-result : (course : Course) {status : ℕ} {fault : Option At} → fault ≡ course.fault → TookAll writer1
      course.output → TookAll messages1 (notices_text course.warnings) → writer2.took [] → messages2.took
      (error_text course.fault) → status ≡ status_after course.warnings course.fault → IsResult
      (result_of_course course) writer messages status fault
  whole-result = grind (arith, common_steps, took-still)

  flushed-either : IsFlushed writer2 ⊎ FlushFailed writer2 → writer2.took []
  flushed-either = grind arith

  -- a fault found before the end is the fault of the whole input
  found-whole : (before course all : Course) (at : At) (status : ℕ) (fault : Option At)
      → all ≡ course → EndedByFault writer1 messages1 before course at
      → NoneFailed messages.before.failures messages.after.failures → Finishes writer2 messages2 0 true
      (Some (halt.Fault at)) status fault → IsResult (result_of_course all) writer messages status fault
  found-whole = grind (arith, common_steps, whole-result, flushed-either)

  -- a line, or the end, ended the run, no device failed and memory wasn't refused
  ends-whole : (can : Option (List At)) (number : ℕ) (before course all : Course) (halt : Halt) (last : ℕ)
      (warned : Bool) (status : ℕ) (fault : Option At) → ((at : At) → course.fault ≡ Some at → all ≡ course)
      → EndsAt can number writer1 messages1 before course halt → Finishes writer2 messages2 last warned
      (Some halt) status fault → NoneFailed writer.before.failures writer.after.failures → NoneFailed
      messages.before.failures messages.after.failures → (FaultIs OutOfMemory fault → ⊥) → IsResult
      (result_of_course all) writer messages status fault
  ends-whole can number before course all
      (halt.Fault at) last warned status fault same (inl ran) finished wnone mnone memory = grind arith
  ends-whole can number before course all
      (halt.Fault at) last warned status fault same (inr found) finished wnone mnone memory =
      found-whole before course all at status fault (same at found.ends.fault) found mnone finished
  ends-whole can number before course
      all halt.Unwritten last warned status fault same failed finished wnone mnone memory = grind arith
  ends-whole can number before course
      all halt.Unreported last warned status fault same failed finished wnone mnone memory = grind arith

  stopped-none : (f : Fault) (given : List ℕ) (lines : List InputLine) (rest : List ℕ)
      → IsStopped f input.start input.counted given lines → length (given ++ rest) ≤ INPUT_LIMIT
      → NoneFailed input.start.failures input.counted.failures → ⊥
  stopped-none = grind (arith, common_steps, length-append)

  handing-none : writer1.after ≡ with_failed_flush writer1.before → writer2.after ≡ writer2.before
      → NoneFailed writer.before.failures writer.after.failures → ⊥
  handing-none = grind arith

  no-fault : (at : At) (fault : Option At) → fault ≡ Some at → fault ≡ None → ⊥
  no-fault at fault is none = cc

  -- a run that ended before the good end of its input
  module _ (has_ended : List InputLine → Type 0) (now : ReaderState) (last : ℕ) (warned : Bool) (halt : Halt)
      (status : ℕ) (fault : Option At)
      (finished : Finishes writer2 messages2 last warned (Some halt) status fault) where
    interrupted : (given : List ℕ) → input.gave given → StandsAfter filter input writer messages given status
        fault × IsFrontPart filter input given writer → (NoneFailed input.start.failures
        input.counted.failures → NoneFailed writer.before.failures writer.after.failures → NoneFailed
        messages.before.failures messages.after.failures → (FaultIs OutOfMemory fault → ⊥) → (rest : List ℕ)
        → (input.at_end → rest ≡ []) → length (given ++ rest) ≤ INPUT_LIMIT → IsResult
        (result_by filter (given ++ rest)) writer messages status fault) → AskedOnce input
        → ((FaultIs ReadFailed fault → ⊥) → input.counted.failures ≡ input.start.failures) → Comes filter
        input writer messages has_ended status fault
    interrupted = grind arith

    -- the next line or the end ended the run: its fault is the same in every longer input that begins with the bytes
    -- read
    same-whole : {lines : List InputLine} (next : Option InputLine) (e : EndsBy filter input writer1 messages1
        now lines next halt) (rest : List ℕ) → (input.at_end → rest ≡ []) → (at : At)
        → (course_with filter lines next).fault ≡ Some at
        → filter.whole (lines_of (e.read.given ++ rest)) ≡ course_with filter lines next
    same-whole (Some line) e rest none at bad = let first = first-lines e.read e.going rest none in
        ap filter.whole first.1 ∙ lawful.decided _ first.0 at bad
    same-whole None e rest none at bad = ap filter.whole (all-lines e.read (e.ended refl) rest none)

    stopped-next : (lines : List InputLine) (next : Option InputLine)
        → EndsBy filter input writer1 messages1 now lines next halt
        → last ≡ now.number → Comes filter input writer messages has_ended status fault
    stopped-next lines next e last_is =
        let h = e.read in
        interrupted h.given h.lead
        (next-stands filter lawful input w m now last warned halt status fault finished lines next e last_is)
        (λ rn wn mn memory rest none within. ends-whole _ _ (filter.so_far lines) _ _
        halt last warned status fault (same-whole next e rest none) e.ends finished wn mn memory)
        (asked-once h e.going) (λ other. none-failed h e.going)

    stopped-in-lines : (lines : List InputLine) → StopsAt filter input writer1 messages1 now lines halt
        → last ≡ now.number → Comes filter input writer messages has_ended status fault
    stopped-in-lines lines (inl s) last_is =
        let h = s.2.read in
        let stopped = HasRead-stopped _ _ _ _ _ _ h s.0 s.2.stopped in
        interrupted h.given h.lead
        (reader-stands filter lawful input w m now last warned halt status fault finished lines s.0 s.1 s.2)
        (λ rn wn mn memory rest none within. grind (arith, common_steps, h, stopped, stopped-none))
        (grind arith)
        (grind arith)
    stopped-in-lines lines (inr (inl (line, e))) last_is = stopped-next lines (Some line) e last_is
    stopped-in-lines lines (inr (inr (is, s))) last_is =
        let h = s.read in
        interrupted h.given h.lead
        (handing-stands filter lawful input w m now last warned halt status fault finished lines is s last_is)
        (λ rn wn mn memory rest none within. grind (arith, common_steps, handing-none s.failed, fault))
        (asked-once h s.going) (λ other. none-failed h s.going)

  pub runs-as : (has_ended : List InputLine → Type 0) (now : ReaderState) (last : ℕ) (warned : Bool)
      (halt : Option Halt) (status : ℕ) (fault : Option At) → WorkEnds filter has_ended input writer1
      messages1 now last warned halt → Finishes writer2 messages2 last warned halt status fault → Comes filter
      input writer messages has_ended status fault
  runs-as has_ended now last warned None status None done finished =
      let over = HasRead-ended _ _ _ _ _ _ done.read done.ended in
      let whole = whole-result (filter.whole done.lines) (sym done.out.good) done.out.wrote done.out.reported
      finished.0.0 (rw done.out.good finished.1.0) (rw (done.out.good, ← done.flag) finished.2) in (
        done.read.given,
        done.read.lead,
        record {
          whole = λ rn wn mn memory rest none within. rw (all-lines done.read done.ended rest none) whole;
          ended = λ at is. absurd (no-fault at None is refl);
          asked = inr (ap (λ t. t.ends) over.counts);
          read = λ other. ap (λ t. t.failures) over.counts;
          front = well-front filter lawful input w m has_ended now last warned done finished.0.0;
          flushed = λ e. w.flushed finished.0.2;
          good = grind arith;
        },
        (λ e. rw (← over.all) done.engine_ended),
      )
  runs-as has_ended now last warned None status (Some at) done finished =
      grind (
        arith,
        common_steps,
        HasRead-ended,
        no-fault at (Some at) refl,
        flush-stands filter lawful input w m has_ended now last warned status at done finished,
        well-front filter lawful input w m has_ended now last warned done finished.0.0,
      )
  runs-as has_ended now last warned (Some halt) status fault (inl (lines, inl s, is)) finished =
      stopped-in-lines has_ended now last warned halt status fault finished lines s is
  runs-as has_ended now last warned (Some halt) status fault (inl (lines, inr e, is)) finished =
      stopped-next has_ended now last warned halt status fault finished lines None e is
  runs-as has_ended now last warned (Some halt) status fault (inr s) finished =
      interrupted has_ended now last warned halt status fault finished [] s.gave
      (start-stands filter lawful input w m now last warned halt status fault finished s) (grind arith)
      (inl (ap (λ t. t.ends) s.counts)) (λ other. ap (λ t. t.failures) s.counts)

  -- memory was refused before the first line was read
  pub runs-nothing : (has_ended : List InputLine → Type 0) (status : ℕ) (fault : Option At) → input.gave []
      → input.counted ≡ input.start → TookAll writer1 [] → TookAll messages1 [] → Finishes writer2 messages2 0
      false (Some (halt.Fault (record { line = 0; fault = OutOfMemory }))) status fault
      → Comes filter input writer messages has_ended status fault
  runs-nothing has_ended status fault gave counts wrote reported finished =
      let now : ReaderState = record { rest = []; passed = 0; number = 0; phase = Open } in
      runs-as has_ended now 0 false (Some (halt.Fault (record { line = 0; fault = OutOfMemory }))) status
      fault (grind arith) finished
