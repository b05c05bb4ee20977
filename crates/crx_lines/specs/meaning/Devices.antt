-- Counts of a device: its failures, how often a source reported its end, and how often a sink was flushed.
use Rattle.std.specs.Prelude.{ℕ, ◌+◌, ◌-◌, ◌^◌, ◌==◌, if◌then◌else◌, min}

-- a count after one more; it stops at the greatest value of 64 bits
abbrev pub one_more : ℕ → ℕ
one_more count = min (count + 1) (2 ^ 64 - 1)

-- a count of reported ends after a read of `given` bytes: 0 bytes are the end
abbrev pub ends_after : ℕ → ℕ → ℕ
ends_after given ends = if given == 0 then one_more ends else ends

-- counts of a source: the reads that failed, and those that reported the end
pub record Tally : Type 0 where
  pub failures : ℕ
  pub ends : ℕ

abbrev pub tally_of : ℕ → ℕ → Tally
tally_of failures ends = record { failures = failures; ends = ends }

-- a tally after one more failure
abbrev pub with_failure : Tally → Tally
with_failure t = record { failures = one_more t.failures; ends = t.ends }

-- counts of a sink: the writes and flushes that failed, and all flushes
pub record SinkTally : Type 0 where
  pub failures : ℕ
  pub flushes : ℕ

-- a sink's tally after one more failed write
abbrev pub with_failed_write : SinkTally → SinkTally
with_failed_write t = record { failures = one_more t.failures; flushes = t.flushes }

-- a sink's tally after one more good flush
abbrev pub with_flush : SinkTally → SinkTally
with_flush t = record { failures = t.failures; flushes = one_more t.flushes }

-- a sink's tally after one more failed flush
abbrev pub with_failed_flush : SinkTally → SinkTally
with_failed_flush t = record { failures = one_more t.failures; flushes = one_more t.flushes }
