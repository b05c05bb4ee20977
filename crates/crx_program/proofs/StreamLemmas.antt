-- The logs of a run's devices, by the filter that ran between them.
use Rattle.std.proofs.lemmas.Grind.{common_steps}
use Rattle.std.proofs.Common.{arith, ◌≡◌, ◌⊎◌, ◌∙◌, ◌<◌, ℕ, Bool, true}
use Rattle.std.proofs.Common.{false, List, [], ◌++◌, Option, Some, None}
use Rattle.std.proofs.Common.{ap, append-nil, inl, inr, is_some, refl}
use Rattle.std.specs.Io.KnownBytes.{Appends, Consumes, IsAtEnd}
use Rattle.crx_lines.specs.declared.device.{Sink.Ghosts as SinkGhosts, Source.Ghosts as SourceGhosts, Std.Std}
use Rattle.crx_base.specs.meaning.Choices.{Choices}
use Rattle.crx_runs.specs.meaning.Spans.{Input, Device, reader_span, span}
use Rattle.jiff.specs.declared.timestamp.Timestamp.{Timestamp}
use Rattle.crx_command.specs.declared.job.{Job.Job, Tool.Tool}
use Rattle.crx_command.specs.meaning.Planning.{Help, Plan, Refusal, Refused, Run}
use Rattle.crx_program.specs.{declared.log.{Logged.Logged, Opening.Opening}, meaning.Jobs.IsChosen}
use Rattle.crx_program.specs.meaning.Calls.{Call}
use Rattle.crx_program.specs.meaning.Jobs.{calls_of, IsFiltered, IsFilteredFrom, IsFilteredInto, IsJobDone}
use Rattle.crx_program.specs.meaning.Streams.{ReadsGave, WritesTook, IsAllOf, IsEndTold, IsFlushedLast}
use Rattle.crx_program.specs.meaning.Streams.{IsUnused, IsPrefixOf, OpensInOrder}
use Rattle.crx_program.proofs.CallLemmas.{opens-until}

-- ---- the devices of the program

-- how `Std` describes a reader and a writer of std, by the description of their bytes in std
abbrev pub std_source : {D : Type 0} → (D → Option (List ℕ)) → SourceGhosts (Std D)
std_source remaining = record {
  gave = λ a bytes b. Consumes (remaining a.inner) (remaining b.inner) bytes;
  at_end = λ s. IsAtEnd (remaining s.inner);
  failures = λ s. s.failures;
  ends = λ s. s.ends;
  waits = λ s. s.may_wait;
}

abbrev pub std_sink : {D : Type 0} → (D → Option (List ℕ)) → SinkGhosts (Std D)
std_sink contents = record {
  took = λ a bytes b. Appends (contents a.inner) (contents b.inner) bytes;
  failures = λ s. s.failures;
  is_flushed = λ s. s.flushed ≡ true;
  flushes = λ s. s.flushes;
  is_current = λ s. s.flushed ≡ true;
  is_awaited = λ s. s.is_awaited;
  is_broken = λ s. s.is_broken;
}

-- and with a log
abbrev pub logged_source : {D : Type 0} → SourceGhosts D → SourceGhosts (Logged D)
logged_source inner = record {
  gave = λ a bytes b. (b.log.bytes ≡ a.log.bytes ++ bytes) × (b.opening ≡ a.opening)
      × inner.gave a.inner bytes b.inner × (inner.waits b.inner ≡ inner.waits a.inner);
  at_end = λ s. inner.at_end s.inner × (0 < inner.ends s.inner);
  failures = λ s. inner.failures s.inner;
  ends = λ s. inner.ends s.inner;
  waits = λ s. inner.waits s.inner;
}

abbrev pub logged_sink : {D : Type 0} → SinkGhosts D → SinkGhosts (Logged D)
logged_sink inner = record {
  took = λ a bytes b. (b.log.bytes ≡ a.log.bytes ++ bytes) × (b.opening ≡ a.opening)
      × inner.took a.inner bytes b.inner;
  failures = λ s. inner.failures s.inner;
  is_flushed = λ s. inner.is_flushed s.inner;
  flushes = λ s. inner.flushes s.inner;
  is_current = λ s. inner.is_current s.inner;
  is_awaited = λ s. inner.is_awaited s.inner;
  is_broken = λ s. inner.is_broken s.inner;
}

abbrev pub reader_of : {D : Type 0} → (D → Option (List ℕ)) → SourceGhosts (Logged (Std D))
reader_of remaining = logged_source (std_source remaining)

abbrev pub writer_of : {D : Type 0} → (D → Option (List ℕ)) → SinkGhosts (Logged (Std D))
writer_of contents = logged_sink (std_sink contents)

-- ---- the logs of a run

-- the run of a filter, with its writer described by the logs
record Writing {G O : Type 0} (name : Option (List ℕ)) (force : Bool) (target : Option (Logged (Std G)))
    (output : Logged (Std O)) (tool : Tool) (choices : Choices) (input : Input) (messages : Device)
    (status : ℕ)
    : Type 1 where
  pub writer : Device
  pub ran : IsFiltered tool choices input writer messages status
  pub took : (bytes : List ℕ) → writer.took bytes → WritesTook name force target output bytes
  pub flushed : writer.flushed → IsFlushedLast target output

-- and with its reader
record Placed {F G I O : Type 0} (job : Job) (source : Option (Logged (Std F)))
    (target : Option (Logged (Std G)))
    (input : Logged (Std I)) (output : Logged (Std O)) (choices : Choices) (messages : Device) (status : ℕ)
    : Type 1 where
  pub reader : Input
  pub writing : Writing job.target job.force target output job.tool choices reader messages status
  pub gave : (bytes : List ℕ) → reader.gave bytes → ReadsGave job.source source input bytes
  pub ended : reader.at_end → IsEndTold source input

pub by_plan : {X : Type 0} (p : Plan) → (p ≡ Help → X) → ((refusal : Refusal) → p ≡ Refused refusal → X)
    → ((job : Job) → p ≡ Run job → X) → X
by_plan Help help refused run = help refl
by_plan (Refused refusal) help refused run = refused refusal refl
by_plan (Run job) help refused run = run job refl

-- the job's input waits as it did before
module _ {F G I : Type 0} (file : F → Option (List ℕ)) (made : G → Option (List ℕ))
    (stdin : I → Option (List ℕ))
    (first last : Logged (Std I)) where
  into-waits : (name : Option (List ℕ)) (force : Bool) (target : Option (Logged (Std G))) (tool : Tool)
      (choices : Choices) (output messages : Device) (status : ℕ)
      → IsFilteredInto (writer_of made) name force target
      tool choices (reader_span (reader_of stdin) first last) output messages status
      → last.inner.may_wait ≡ first.inner.may_wait
  into-waits None force target tool choices output messages status h =
      let (none, (fault, given, gave, ran)) = h in gave.3
  into-waits (Some name) force target tool choices output messages status h =
      let (opening, by, (one, other, e1, e2, e3, e4, (fault, given, gave, ran))) = h in gave.3

  from-waits : (name : Option (List ℕ)) (source : Option (Logged (Std F))) (target_name : Option (List ℕ))
      (force : Bool) (target : Option (Logged (Std G))) (tool : Tool) (choices : Choices)
      (output messages : Device)
      (status : ℕ) → (is_some name ≡ true → last ≡ first)
      → IsFilteredFrom (reader_of file) (writer_of made) name source
      target_name force target tool choices (reader_span (reader_of stdin) first last) output messages status
      → last.inner.may_wait ≡ first.inner.may_wait
  from-waits None source target_name force target tool choices output messages status same h =
      into-waits target_name force target tool choices output messages status h.1
  from-waits (Some name) source target_name force target tool choices output messages status same h =
      ap (λ (d : Logged (Std I)). d.inner.may_wait) (same refl)

module _ {F G I O E : Type 0} (file : F → Option (List ℕ)) (made : G → Option (List ℕ))
    (stdin : I → Option (List ℕ)) (stdout : O → Option (List ℕ)) (stderr : E → Option (List ℕ)) where
  writing : (name : Option (List ℕ)) (force : Bool) (target : Option (Logged (Std G)))
      (before after : Logged (Std O)) → before.log.bytes ≡ [] → (is_some name ≡ true → after ≡ before)
      → (tool : Tool) (choices : Choices) (input : Input) (messages : Device) (status : ℕ)
      → IsFilteredInto (writer_of made) name force target tool choices input
      (span (writer_of stdout) before after) messages status
      → Writing name force target after tool choices input messages status
  writing None force target before after empty same tool choices input messages status h =
      grind (arith, common_steps)
  writing (Some name) force target before after empty same tool choices input messages status h =
      let ran = h.2 in
      let last = ran.1 in record {
        writer = span (writer_of made) ran.0 last;
        ran = ran.6;
        took = λ bytes took. (
          last,
          ran.2,
          rw (took.1, ran.3) h.1,
          rw ran.4 at took.0,
          rw (same refl) empty,
        );
        flushed = λ flushed. rw ran.2 flushed;
      }

  placed : (job : Job) (source_name : Option (List ℕ)) → job.source ≡ source_name
      → (source : Option (Logged (Std F))) (target : Option (Logged (Std G))) (first last : Logged (Std I))
      (before after : Logged (Std O)) → first.log.bytes ≡ [] → before.log.bytes ≡ []
      → (is_some source_name ≡ true → last ≡ first) → (is_some job.target ≡ true → after ≡ before)
      → (choices : Choices) (messages : Device) (status : ℕ)
      → IsFilteredFrom (reader_of file) (writer_of made) source_name source job.target job.force target
      job.tool choices (reader_span (reader_of stdin) first last) (span (writer_of stdout) before after)
      messages status → Placed job source target last after choices messages status
  placed job None e source target first last before after none empty same_input same choices messages status
      h = record {
        reader = reader_span (reader_of stdin) first last;
        writing = writing job.target job.force target before after empty same job.tool choices
            (reader_span (reader_of stdin) first last) messages status h.1;
        gave = λ bytes gave. rw e (h.0, rw none at gave.0);
        ended = λ ended. rw h.0 ended.1;
      }
  placed job (Some name) e source target first last before after none empty same_input same choices messages
      status h =
      let last_read = h.1 in record {
        reader = reader_span (reader_of file) h.0 last_read;
        writing = writing job.target job.force target before after empty same job.tool choices
            (reader_span (reader_of file) h.0 last_read) messages status h.6;
        gave = λ bytes gave. rw e (
          last_read,
          h.2,
          ap (λ (opening : Opening). opening.name.bytes) gave.1 ∙ h.3.0,
          rw h.3.1 at gave.0,
          rw (same_input refl) none,
        );
        ended = λ ended. rw h.2 ended.1;
      }

  module _ (moment : Option Timestamp) (job : Job) (source : Option (Logged (Std F)))
      (target : Option (Logged (Std G))) (first last : Logged (Std I)) (before after : Logged (Std O))
      (quiet spoken : Logged (Std E)) (none : first.log.bytes ≡ []) (empty : before.log.bytes ≡ [])
      (silent : quiet.log.bytes ≡ []) (same_input : is_some job.source ≡ true → last ≡ first)
      (same : is_some job.target ≡ true → after ≡ before) (status : ℕ) (fewer calls : List Call) where
    abbrev input : Input
    input = reader_span (reader_of stdin) first last

    abbrev output : Device
    output = span (writer_of stdout) before after

    abbrev messages : Device
    messages = span (writer_of stderr) quiet spoken

    abbrev IsPlaced : Choices → Type 1
    IsPlaced choices = Placed job source target last after choices messages status

    -- a run without a fault is exact
    abbrev IsExact : Type 0
    IsExact = (given : List ℕ) × (written : List ℕ) × ReadsGave job.source source last given
        × IsEndTold source last × WritesTook job.target job.force target after written
        × IsFlushedLast target after × IsAllOf moment job given written spoken.log.bytes status

    exact_of : (choices : Choices) → IsChosen moment job.tool job.date job.every job.skip choices
        → IsPlaced choices → (status ≡ 1 → ⊥) → IsExact
    exact_of choices chosen place well = grind arith

    -- the output is a prefix, however the run ended
    abbrev IsFront : Type 0
    IsFront = (given : List ℕ) × (written : List ℕ) × ReadsGave job.source source last given
        × WritesTook job.target job.force target after written × IsPrefixOf moment job given written

    front_of : (choices : Choices) → IsChosen moment job.tool job.date job.every job.skip choices
        → IsPlaced choices → IsFront
    front_of choices chosen place =
        let ran = place.writing.ran in
        let front = ran.3.front in (
          ran.1,
          front.written,
          place.gave ran.1 ran.2,
          place.writing.took _ front.wrote,
          (choices, chosen, elim front.first [ inl some ↦ inl some | inr all ↦ inr all.1 ]),
        )

    -- a job that was begun has a reader and a writer
    pub run_over : IsJobDone (reader_of file) (writer_of made) moment job source target input output messages
        status ((last ≡ first) × (after ≡ before) × (target ≡ None)) fewer calls
        → ((status ≡ 1 → ⊥) → IsExact)
        × (IsFront ⊎ ((last.log.bytes ≡ []) × (after.log.bytes ≡ []) × (target ≡ None)))
        × OpensInOrder job fewer calls × (last.inner.may_wait ≡ first.inner.may_wait)
    run_over (inl begun) =
        let place = placed job _ refl source target first last before after none empty same_input same begun.0
        messages status begun.3 in (
          exact_of begun.0 begun.1 place,
          inl (front_of begun.0 begun.1 place),
          (calls_of job, [], begun.2, append-nil (calls_of job)),
          from-waits file made stdin first last job.source source job.target job.force target job.tool begun.0
              output messages status same_input begun.3,
        )
    run_over (inr not_begun) = (
      λ well. absurd (well not_begun.status_is),
      inr (rw not_begun.same.0 none, rw not_begun.same.1 empty, not_begun.same.2),
      opens-until not_begun.why job fewer calls not_begun.opened,
      ap (λ (d : Logged (Std I)). d.inner.may_wait) not_begun.same.0,
    )

-- a new device over a new one of std is unused
pub fresh : {D : Type 0} (stream : D) (inner : Std D) (device : Logged (Std D)) → device.inner ≡ inner
    → device.log.bytes ≡ [] → inner.inner ≡ stream → inner.failures ≡ 0 → inner.ends ≡ 0 → inner.flushes ≡ 0
    → inner.is_broken ≡ false → IsUnused stream device
fresh = grind arith
