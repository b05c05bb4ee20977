-- The parts of a compaction between two lines, and how they belong together.
use Rattle.std.specs.Prelude.{◌≡◌, ℕ, Bool, true, false, not, List, [], length, Some}
use Rattle.crx_base.specs.declared.fault.Fault.{Fault}
use Rattle.crx_compact.specs.Encoding.{EncoderState}
use Rattle.crx_rinex.specs.meaning.EpochLines.{ObservationHead}
use Rattle.crx_rinex.specs.meaning.EpochPlaces.{OpenEpoch}
use Rattle.crx_filter.specs.CompactionByLine.{Written}
use Rattle.crx_filter.specs.DirectionParts.{DirectionParts}
use Rattle.crx_filter.specs.RinexReaders.{RefusesRinexLine, TakesRow, epoch_open, made_at}
use Rattle.crx_filter.specs.RinexStages.{is_open_stage, rows_open}
use Rattle.crx_filter.specs.declared.rinex_reader.RinexReader.{RinexReader}
use Rattle.crx_filter.specs.declared.stage.Stage.{Stage}
use Rattle.crx_filter.specs.declared.stage.Stage.TheVariants.{Open}

-- how many epochs were accepted, the reader, and the encoder
pub record CompactionState : Type 0 where
  pub index : ℕ
  pub reader : RinexReader
  pub encoder : EncoderState

-- the encoder has the rows of the epoch that the reader holds open
pub record BelongTogether (reader : RinexReader) (encoder : EncoderState) : Type 0 where
  pub opened : encoder.is_open ≡ is_open_stage reader.stage
  pub rows : encoder.rows ≡ rows_open reader.stage reader.rows.rows

-- an open epoch is full if and only if it is due
abbrev pub is_full_where_due : Stage → Bool → Bool → Bool
is_full_where_due Open true due = due
is_full_where_due Open false due = not due
is_full_where_due stage in_full due = true

abbrev pub compaction_parts : CompactionState → DirectionParts OpenEpoch Written
compaction_parts c = record {
  stage = c.reader.stage;
  begun = epoch_open c.reader;
  types = c.reader.types;
  kept = record { index = c.index; tail = c.encoder.before };
}

-- all rows of the reader's epoch have been read, and the encoder has them
pub record HasWholeEpoch (reader : RinexReader) (encoder : EncoderState) : Type 0 where
  pub begun : encoder.is_open ≡ true
  pub head : ObservationHead
  pub held : reader.head ≡ Some head
  pub counted : length encoder.rows ≡ head.count

-- a row was read, the epoch's last or another, and encoded
pub record HasWrittenRow (before : RinexReader) (encoder : EncoderState) (line : List ℕ) (is_last : Bool)
    (after : RinexReader) (new : EncoderState) : Type 0 where
  pub takes : (kept : Written) → TakesRow (made_at before line kept) is_last before after
  pub written : new ≡ record encoder { rows = after.rows.rows }

-- a row was refused, and nothing is written
pub record HasRefusedRow (before : RinexReader) (encoder : EncoderState) (line : List ℕ) (fault : Fault)
    (after : RinexReader) (new : EncoderState) : Type 0 where
  pub refuses : (kept : Written) → RefusesRinexLine (made_at before line kept) before line fault
  pub types : after.types ≡ before.types
  pub nothing : new.pending ≡ []
  pub together : BelongTogether after new
  pub full : (due : Bool) → is_full_where_due before.stage encoder.in_full due ≡ true
      → is_full_where_due after.stage new.in_full due ≡ true
