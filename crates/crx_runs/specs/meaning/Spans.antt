-- A reader and a writer between two moments: the bytes that passed through them, and their counts.
use Rattle.std.specs.Prelude.{◌≡◌, ◌<◌, ◌≤◌, ℕ, List, ◌++◌, length, take}
use Rattle.crx_lines.specs.meaning.Devices.{Tally, tally_of, with_failed_write, SinkTally}
use Rattle.crx_lines.specs.declared.device.Source.{Ghosts}
use Rattle.crx_base.specs.declared.fault.At.{At}
use Rattle.crx_runs.specs.meaning.Results.{Course}
use Rattle.crx_lines.specs.declared.device.Sink.{Ghosts as SinkGhosts}

-- a reader between two moments: the bytes it may have given, whether it is at its end, and its counts
pub record Input : Type 1 where
  pub gave : List ℕ → Type 0
  pub at_end : Type 0
  pub start : Tally
  pub counted : Tally

-- a reader between two states
abbrev pub reader_span : {S : Type 0} → Ghosts S → S → S → Input
reader_span source old new = record {
  gave = λ given. source.gave old given new;
  at_end = source.at_end new;
  start = tally_of (source.failures old) (source.ends old);
  counted = tally_of (source.failures new) (source.ends new);
}

-- a writer between two moments: the texts it may have taken, whether all of them were passed on by then, and
-- its counts
pub record Device : Type 1 where
  pub took : List ℕ → Type 0
  pub flushed : Type 0
  pub before : SinkTally
  pub after : SinkTally

-- a text was written in part: all of `before`, but not all of `after`
pub record IsPart (device : Device) (before after : List ℕ) : Type 0 where
  pub count : ℕ
  pub some : length before ≤ count
  pub less : count < length after
  pub took : device.took (take count after)
  pub failed : device.after ≡ with_failed_write device.before

-- a writer between two states
abbrev pub span : {S : Type 0} → SinkGhosts S → S → S → Device
span sink old new = record {
  took = λ text. sink.took old text new;
  flushed = sink.is_flushed new;
  before = record { failures = sink.failures old; flushes = sink.flushes old };
  after = record { failures = sink.failures new; flushes = sink.flushes new };
}

-- a device took a text whole, and counted no failure
abbrev pub TookAll : Device → List ℕ → Type 0
TookAll device text = device.took text × (device.after ≡ device.before)

-- a device took less than a text, from its front, and counted one failure more
abbrev pub TookPart : Device → List ℕ → Type 0
TookPart device text = ((n : ℕ) × (n < length text) × device.took (take n text))
    × (device.after ≡ with_failed_write device.before)

-- these are the next warnings by which a course goes on
abbrev pub AreNext : Course → Course → List At → Type 0
AreNext before after notices = (more : List At) × (after.warnings ≡ before.warnings ++ notices ++ more)
