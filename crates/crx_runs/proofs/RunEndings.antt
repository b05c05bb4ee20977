-- The state after a run, by how its work ended and how it was finished.
use Rattle.std.proofs.lemmas.Grind.{common_steps}
use Rattle.std.proofs.Common.{◌≡◌, ◌⊎◌, inl, inr, ℕ, ◌+◌, Bool, true, List, [], ◌++◌, length, Option}
use Rattle.std.proofs.Common.{Some, None, refl, sym, ap, subst, ◌∙◌, arith}
use Rattle.crx_lines.proofs.ProgressLemmas.{HasRead-stopped}
use Rattle.crx_lines.specs.Reading.{ReaderState}
use Rattle.crx_base.specs.declared.fault.{At.At, Fault.Fault, Fault.TheVariants.OutOfMemory}
use Rattle.crx_base.specs.meaning.Lines.{InputLine}
use Rattle.crx_runs.proofs.DeviceSpans.{Joins, all-still, notices-append, part-more, part-still, part-then}
use Rattle.crx_runs.proofs.DeviceSpans.{took-still}
use Rattle.crx_runs.proofs.StateAfterRuns.{complete-stopped, all-read, all-so-far, taken-read, turn-read}
use Rattle.crx_runs.proofs.StateAfterRuns.{begins-itself, begins-taken, first-after-turn}
use Rattle.crx_runs.proofs.StateAfterRuns.{first-before-turn, first-taken}
use Rattle.crx_runs.proofs.StateAfterRuns.{first-complete}
use Rattle.crx_runs.specs.Endings.{EndsAt, EndsBy, HandingFailed, ReaderStopped}
use Rattle.crx_runs.specs.Endings.{StoppedAtStart, WellDone, Finishes, IsReported, IsFlushed}
use Rattle.crx_runs.specs.{Endings.{FlushFailed, write_failed_at}, Lawful.{IsLawful, is_of_lines}}
use Rattle.crx_runs.specs.declared.one_line.Halt.{Halt}
use Rattle.crx_runs.specs.meaning.Filters.{Filter, course_with, lines_with, memory_with}
use Rattle.crx_runs.specs.meaning.Interruptions.{IsTurn, IsWritten, AreReported, Stopped}
use Rattle.crx_runs.specs.meaning.{Interruptions.{Stands, IsFrontPart}, Messages.{notices_text}}
use Rattle.crx_runs.specs.meaning.{Results.{Begins, Course}, Spans.{Device, TookAll, Input}}
use Rattle.crx_runs.specs.declared.one_line.Halt.TheVariants as halt

-- the state after a run that a fault ended
abbrev pub StandsAfter : Filter → Input → Device → Device → List ℕ → ℕ → Option At → Type 0
StandsAfter filter input writer messages given status fault = (at : At)
    → fault ≡ Some at → (status ≡ 1) × Stands filter input given writer messages at at.fault

stopped : {taken : Type 0} {number : ℕ} {due : Course} {found : Option At} {wrote : List ℕ → Type 0}
    {told : List At → Type 0} {at : At} → taken → at.line ≡ number → due.fault ≡ found → wrote due.output
    → told due.warnings → Stopped taken number due found wrote told at
stopped turn line fault written reported =
    record { turn = turn; line = line; fault = fault; written = written; reported = reported }

one-fault : (at other : At) (fault : Option At) → fault ≡ Some at → fault ≡ Some other → at ≡ other
one-fault = grind arith

module _ (filter : Filter) (lawful : IsLawful filter) (input : Input)
    {writer1 writer2 writer messages1 messages2 messages : Device}
    (w : Joins writer1 writer2 writer) (m : Joins messages1 messages2 messages) where
  -- ---- devices

  written : (text : List ℕ) → TookAll writer1 text → IsFlushed writer2 ⊎ FlushFailed writer2
      → IsWritten writer text
  written = grind (arith, common_steps, took-still)

  reported : (warnings : List At) (at : At)
      → TookAll messages1 (notices_text warnings) → IsReported messages2 at → AreReported messages at warnings
  reported = grind (arith, common_steps, part-then)

  -- the state after a run that ended before the good end of its input
  abbrev pub Stood : List ℕ → ℕ → Option At → Type 0
  Stood given status fault = StandsAfter filter input writer messages given status fault
      × IsFrontPart filter input given writer

  stands-after : (given : List ℕ) {status : ℕ} {fault : Option At} (at : At) → status ≡ 1 → fault ≡ Some at
      → Stands filter input given writer messages at at.fault
      → StandsAfter filter input writer messages given status fault
  stands-after given at ok is stands = λ other same. (
    ok,
    subst (λ (a : At). Stands filter input given writer messages a a.fault) (one-fault at other _ is same)
        stands,
  )

  -- ---- a line, or the end

  -- a fault of the last line or of the end is a fault of lines
  found-with : (lines : List InputLine) (next : Option InputLine) (at : At)
      → (course_with filter lines next).fault ≡ Some at → is_of_lines at.fault ≡ true
  found-with lines (Some line) at bad = lawful.found _ at bad
  found-with lines None at bad = lawful.found_at_end lines at bad

  found-stands : (given : List ℕ) (f : Fault) (at : At) → is_of_lines f ≡ true → (lines : List InputLine)
      → (next : Option InputLine) → Stopped (IsTurn input given lines next) at.line
      (course_with filter lines next) (Some at) (IsWritten writer) (AreReported messages at) at
      → Stands filter input given writer messages at f
  found-stands = grind arith

  module _ (given : List ℕ) (lines : List InputLine) (next : Option InputLine) (last : ℕ)
      (turn : IsTurn input given lines next) (last_is : last ≡ length (lines_with lines next)) where
    abbrev before : Course
    before = filter.so_far lines

    abbrev after : Course
    after = course_with filter lines next

    front-before : writer.took before.output → IsFrontPart filter input given writer
    front-before wrote = record {
      written = before.output;
      wrote = wrote;
      first = first-before-turn lawful input given lines next _ turn (begins-itself before.output);
    }

    front-after : (text : List ℕ) → Begins after.output text → writer.took text
        → IsFrontPart filter input given writer
    front-after text first wrote = grind (arith, common_steps, first-after-turn)

    turn-stood : (halt : Halt) (warned : Bool) (status : ℕ) (fault : Option At)
        → EndsAt (memory_with filter lines next) (length lines + 1) writer1 messages1 before after halt →
        Finishes writer2 messages2 last warned (Some halt) status fault → Stood given status fault
    turn-stood (halt.Fault at) warned status fault (inl ran) finished =
        let wrote = written before.output ran.wrote finished.0 in
        let row = stopped (turn, ran.allowed, ran.next) ran.place refl wrote
        (reported _ at ran.reported finished.1) in (
          stands-after given at finished.3 finished.2 (subst (λ f. Stands filter input given writer messages
              at f) (sym ran.fault) (inr (lines, next, ran.notices, row))),
          front-before wrote.0,
        )
    turn-stood (halt.Fault at) warned status fault (inr r) finished =
        let wrote = written after.output r.wrote finished.0 in (
          stands-after given at finished.3 finished.2 (found-stands given at.fault at
              (found-with lines next at r.ends.fault) lines next
              (stopped turn refl r.ends.fault wrote (reported after.warnings at r.reported finished.1))),
          front-after _ (begins-itself after.output) wrote.0,
        )
    turn-stood halt.Unwritten warned status fault r finished =
        let part = part-still w before.output after.output r.wrote finished.0 in
        let told = reported after.warnings (write_failed_at last) r.reported finished.1 in
        let row = stopped turn last_is r.adds.good part told in (
          stands-after given _ finished.3 finished.2 (inl (lines, next, row)),
          front-after _ (begins-taken part.count after.output) part.took,
        )
    turn-stood halt.Unreported warned status fault r finished =
        let wrote = all-still w before.output r.wrote finished.0 in
        let told = part-still m _ _ (part-more _ (notices_text (before.warnings ++ r.notices))
        (notices_text r.next.0) _ (ap notices_text r.next.1
        ∙ notices-append (before.warnings ++ r.notices) r.next.0) r.reported) finished.1 in
        let row = stopped turn last_is refl wrote told in (
          stands-after given _ finished.3 finished.2 (inr (inl (lines, next, row))),
          front-before wrote.0,
        )

  -- ---- the work of a run

  module _ (now : ReaderState) (last : ℕ) (warned : Bool) (stop : Halt) (status : ℕ) (fault : Option At)
      (finished : Finishes writer2 messages2 last warned (Some stop) status fault) where
    pub next-stands : (lines : List InputLine) (next : Option InputLine)
        (ends : EndsBy filter input writer1 messages1 now lines next stop)
        → last ≡ now.number → Stood ends.read.given status fault
    next-stands lines next ends last_is = turn-stood ends.read.given lines next last
        (turn-read lines next ends.read ends.going ends.ended) (last_is ∙ ends.read.number) stop warned status
        fault ends.ends finished

    pub reader-stands : (lines : List InputLine) (at : At) → stop ≡ halt.Fault at
        → (s : ReaderStopped input writer1 messages1 now lines (filter.so_far lines) at)
        → Stood s.read.given status fault
    reader-stands lines at halt_is s =
        let done : Finishes writer2 messages2 last warned (Some (halt.Fault at)) status fault = grind arith in
        let h = s.read in
        let stopped = HasRead-stopped _ _ _ _ _ _ h at s.stopped in
        let wrote = written _ s.out.wrote done.0 in
        let same = complete-stopped h.given lines at.fault input.start input.counted stopped.0 in
        let told = reported _ at s.out.reported done.1 in (
          stands-after h.given at done.3 done.2 (grind (arith, common_steps, same, told)),
          record { written = _; wrote = wrote.0; first = first-complete lawful input h.given lines same },
        )

    -- the output couldn't be passed on before a read
    pub handing-stands : (lines : List InputLine) → stop ≡ halt.Unwritten
        → (s : HandingFailed input writer1 messages1 now lines (filter.so_far lines)) → last ≡ now.number
        → Stood s.read.given status fault
    handing-stands lines halt_is s last_is =
        let done : Finishes writer2 messages2 last warned (Some halt.Unwritten) status fault = grind arith in
        let h = s.read in
        let taken = taken-read h s.going in
        let wrote = took-still w _ s.wrote done.0.0 in
        let row = stopped (all-so-far h s.going s.unheld) (last_is ∙ h.number) s.good (wrote, grind arith)
        (reported _ (write_failed_at last) s.reported done.1) in (
          stands-after h.given _ done.3 done.2 (inr (inr (inr (lines, row)))),
          record {
            written = _;
            wrote = wrote;
            first = first-taken lawful input h.given lines _ taken
                (begins-itself _);
          },
        )

    pub start-stands : (s : StoppedAtStart input writer1 messages1 last stop) → Stood [] status fault
    start-stands s =
        let at : At = record { line = 0; fault = OutOfMemory } in
        let done : Finishes writer2 messages2 last warned (Some (halt.Fault at)) status fault = grind arith in
        let wrote = written [] s.wrote done.0 in
        let told = reported [] at s.reported done.1 in
        (stands-after [] _ done.3 done.2 (inl (grind arith)), grind arith)

  -- only the flush failed
  pub flush-stands : (has_ended : List InputLine → Type 0) (now : ReaderState) (last : ℕ) (warned : Bool)
      (status : ℕ) (at : At) (done : WellDone filter has_ended input writer1 messages1 now last warned)
      → Finishes writer2 messages2 last warned None status (Some at)
      → StandsAfter filter input writer messages done.read.given status (Some at)
  flush-stands has_ended now last warned status at done finished =
      let all = all-read done.read done.ended in
      let flushed = finished.0 in
      let told = reported _ (write_failed_at last) done.out.reported
      (subst (IsReported messages2) finished.2 finished.1) in
      stands-after done.read.given _ finished.3 (ap Some finished.2) (inr (inr (inl (rw all.same (stopped all
      done.last_is done.out.good (took-still w _ done.out.wrote.0 flushed.0, grind arith) told)))))

  pub well-front : (has_ended : List InputLine → Type 0) (now : ReaderState)
      (last : ℕ) (warned : Bool) (done : WellDone filter has_ended input writer1 messages1 now last warned)
      → writer2.took [] → IsFrontPart filter input done.read.given writer
  well-front has_ended now last warned done flushed =
      grind (arith, common_steps, all-read done.read done.ended, took-still w, begins-itself)
