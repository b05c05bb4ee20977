-- The steps of a reader of RINEX.
use Rattle.std.specs.Prelude.{◌≡◌, ◌⊎◌, ℕ, Bool, true, false, List, [], Option, Some, Result, length}
use Rattle.std.specs.Prelude.{IfOk, IfErr, OnErr}
use Rattle.crx_base.specs.meaning.AsRead.{Content}
use Rattle.crx_base.specs.declared.fault.Fault.{Fault}
use Rattle.crx_base.specs.declared.fault.Fault.TheVariants.{OutOfMemory}
use Rattle.crx_rinex.specs.meaning.EpochLines.{ObservationHead}
use Rattle.crx_rinex.specs.meaning.Observations.{Epoch as ObservationEpoch}
use Rattle.crx_rinex.specs.meaning.EpochPlaces.{OpenEpoch}
use Rattle.crx_rinex.specs.meaning.Units.{Unit, HeaderLine, EventLine, EventRecord, Observation}
use Rattle.crx_compact.specs.Written.{epoch_by_rows}
use Rattle.crx_filter.specs.CompactionByLine.{compaction, is_before_header, Written}
use Rattle.crx_filter.specs.LineByLine.{Phase, Made, Completes, Moves, Rejects, made_in, phase_after, types_after}
use Rattle.crx_filter.specs.Memory.{may_reserve}
use Rattle.crx_filter.specs.Stages.{phase_of_stage, is_ended}
use Rattle.crx_filter.specs.RinexStages.{is_open_stage, open_epoch}
use Rattle.crx_filter.specs.declared.rinex_reader.RinexReader.{RinexReader}
use Rattle.crx_filter.specs.declared.rinex_reader.RinexStep.{RinexStep}
use Rattle.crx_filter.specs.declared.rinex_reader.RinexStep.TheVariants.{Nothing, Header, Event, Record}
use Rattle.crx_filter.specs.declared.rinex_reader.RinexStep.TheVariants.{Begun}

-- the epoch that a reader holds open
abbrev pub epoch_open : RinexReader → Option OpenEpoch
epoch_open r = open_epoch r.types r.head r.rows.rows

-- the phase of a reader
abbrev pub reader_phase : RinexReader → Phase OpenEpoch
reader_phase r = phase_of_stage (epoch_open r) r.stage

-- the outcome of a line
abbrev pub made_at : RinexReader → List ℕ → Written → Made ObservationEpoch OpenEpoch
made_at r line kept = made_in compaction (reader_phase r) r.types kept (Content line)

-- a reader that differs from another at most in the last row
pub record IsSameReader (before after : RinexReader) : Type 0 where
  pub stage : after.stage ≡ before.stage
  pub types : after.types ≡ before.types
  pub head : after.head ≡ before.head
  pub count : after.count ≡ before.count
  pub rows : after.rows.rows ≡ before.rows.rows

-- a unit was completed, and the reader is after it
pub record Completed (made : Made ObservationEpoch OpenEpoch)
    (unit : Unit ObservationEpoch) (before after : RinexReader) : Type 0 where
  pub unit_made : made ≡ Completes unit
  pub phase_then : reader_phase after ≡ phase_after (reader_phase before) unit
  pub types_then : after.types ≡ types_after (reader_phase before) before.types unit
  pub closed : is_open_stage after.stage ≡ false

-- an epoch was completed, and the reader has its parts
pub record CompletedEpoch (made : Made ObservationEpoch OpenEpoch) (before after : RinexReader) : Type 0 where
  pub head : ObservationHead
  pub held : after.head ≡ Some head
  pub is : Completed made (Observation (epoch_by_rows head after.rows.rows)) before after
  pub counted : length after.rows.rows ≡ head.count

-- a line that completes no unit
pub record MovesReader (made : Made ObservationEpoch OpenEpoch) (before after : RinexReader) : Type 0 where
  pub moved : made ≡ Moves (reader_phase after)
  pub types_then : after.types ≡ before.types
  pub goes_on : is_ended after.stage ≡ false

-- an epoch line: the epoch is whole with it, or expects rows
abbrev pub BeginsEpoch : Made ObservationEpoch OpenEpoch → RinexReader → RinexReader → Type 0
BeginsEpoch made before after = (after.rows.rows ≡ [])
    × (((is_open_stage after.stage ≡ true) × MovesReader made before after)
    ⊎ ((is_open_stage after.stage ≡ false) × CompletedEpoch made before after))

-- a row was taken, the last one of its epoch or another
abbrev pub TakesRow : Made ObservationEpoch OpenEpoch → Bool → RinexReader → RinexReader → Type 0
TakesRow made true before after = CompletedEpoch made before after
TakesRow made false before after = MovesReader made before after × (is_open_stage after.stage ≡ true)

-- the meaning of a step for a line that isn't a satellite line
abbrev pub TakesRinexLine : Made ObservationEpoch OpenEpoch → RinexReader → List ℕ → RinexStep → RinexReader → Type 0
TakesRinexLine made before line Nothing after = MovesReader made before after × (is_open_stage after.stage ≡ false)
TakesRinexLine made before line (Header is_first) after = Completed made (HeaderLine line) before after
    × (is_first ≡ is_before_header (reader_phase before))
TakesRinexLine made before line Event after = Completed made (EventLine line) before after
TakesRinexLine made before line Record after = Completed made (EventRecord line) before after
TakesRinexLine made before line Begun after = BeginsEpoch made before after

-- a fault is the line's own, or memory ran out at a line that may reserve some
abbrev pub RefusesRinexLine : Made ObservationEpoch OpenEpoch → RinexReader → List ℕ → Fault → Type 0
RefusesRinexLine made before line fault =
    (made ≡ Rejects fault) ⊎ ((fault ≡ OutOfMemory) × (may_reserve false true (reader_phase before) (Content line) ≡ true))

-- the result of a reader for a line that isn't a row of an open epoch, whatever is kept of the epochs before; after a
-- fault the reader is unchanged
pub record ReadsRinexLine (before : RinexReader) (line : List ℕ) (result : Result RinexStep Fault)
    (after : RinexReader) : Type 0 where
  pub takes : (kept : Written)
      → IfOk result (λ step. TakesRinexLine (made_at before line kept) before line step after)
  pub refuses : (kept : Written)
      → IfErr result (RefusesRinexLine (made_at before line kept) before line)
  pub same : OnErr result (IsSameReader before after)
