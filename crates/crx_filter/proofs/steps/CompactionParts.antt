-- The parts of a compaction after a line, and the facts about a row that it takes.
use Rattle.crx_filter.proofs.Vocabulary
use Vocabulary.{common_steps, arith, ◌≡◌, ◌++◌, ◌∷◌, [], ℕ, Bool, true, false, not, List}
use Vocabulary.{Fault, OutOfMemory, None, Ok, sym, ap, ◌∙◌, true≢false, false≢true}
use Vocabulary.{length, begins_epoch, has_satellite, ObservationEpoch, OpenEpoch}
use Vocabulary.{row_of, Written, made_at, CompletedEpoch, IsSameReader, MovesReader, TakesRow, Made}
use Vocabulary.{is_open_stage, RinexReader, Stage, Row as ObservationRow}
use Rattle.crx_compact.specs.Encoding.{EncoderState, forgotten}
use Rattle.crx_filter.proofs.steps.RowSteps.{taken-from}
use Rattle.crx_base.specs.declared.limits.TheConstants.{SATELLITES_LIMIT}
use Rattle.crx_filter.specs.CompactionParts.{BelongTogether, HasRefusedRow, HasWholeEpoch, HasWrittenRow}
use Rattle.crx_filter.specs.{CompactionParts.is_full_where_due, RinexReaders.{BeginsEpoch, RefusesRinexLine}}
use Rattle.crx_filter.specs.{RinexStages.rows_open}
use Rattle.std.{specs.Prelude.{◌<◌, ◌+◌}}

-- ---- by the stage

rows-opened : (s : Stage) (rows : List ObservationRow) → is_open_stage s ≡ true → rows_open s rows ≡ rows
rows-opened s rows e = grind (arith, common_steps, false≢true)

-- an open epoch is full if it is due, and no other has to be
pub served-closed : (s : Stage) (in_full due : Bool) → is_open_stage s ≡ false
    → is_full_where_due s in_full due ≡ true
served-closed s in_full due e = grind (arith, common_steps, true≢false)

pub served-open : (s : Stage) (in_full due : Bool) → in_full ≡ due → is_full_where_due s in_full due ≡ true
served-open s in_full due e = grind (arith, common_steps, false≢true)

pub due-there : (s : Stage) (in_full due : Bool) → is_open_stage s ≡ true
    → is_full_where_due s in_full due ≡ true → in_full ≡ due
due-there s in_full due e f = grind (arith, common_steps, false≢true)

-- ---- together

pub closed-together : (reader : RinexReader) (encoder : EncoderState) → is_open_stage reader.stage ≡ false
    → encoder.is_open ≡ false → encoder.rows ≡ [] → BelongTogether reader encoder
closed-together reader encoder closed ended none = grind (arith, common_steps, true≢false)

open-together : (reader : RinexReader) (encoder : EncoderState) → is_open_stage reader.stage ≡ true
    → encoder.is_open ≡ true → encoder.rows ≡ reader.rows.rows → BelongTogether reader encoder
open-together reader encoder opened begun rows = grind (arith, common_steps, rows-opened)

pub rows-there : (reader : RinexReader) (encoder : EncoderState) → BelongTogether reader encoder
    → is_open_stage reader.stage ≡ true → encoder.rows ≡ reader.rows.rows
rows-there reader encoder t opened = t.rows ∙ rows-opened reader.stage reader.rows.rows opened

-- there is room for one more row
pub rows-few : (reader : RinexReader) (encoder : EncoderState) → BelongTogether reader encoder
    → is_open_stage reader.stage ≡ true → length encoder.rows < SATELLITES_LIMIT + 1
rows-few reader encoder t opened = omega (arith, reader.few, ap length (rows-there reader encoder t opened))

pub none-there : (reader : RinexReader) (encoder : EncoderState) → BelongTogether reader encoder
    → is_open_stage reader.stage ≡ false → encoder.rows ≡ []
none-there reader encoder t closed = grind (arith, common_steps, true≢false)

-- they still belong together if the reader is unchanged
pub same-together : (before after : RinexReader) (encoder : EncoderState) → BelongTogether before encoder
    → IsSameReader before after → BelongTogether after encoder
same-together before after encoder t same = grind (arith, common_steps)

-- ---- a row

-- whether its satellite is repeated, by the encoder's answer
pub row-known : (answer : Bool) (row read : ObservationRow) (rows there : List ObservationRow)
    → answer ≡ not (has_satellite row.name rows) → row ≡ read → rows ≡ there
    → has_satellite read.name there ≡ not answer
row-known answer row read rows there said same where_ = grind (arith, common_steps)

module _ (before mid : RinexReader) (encoder new : EncoderState) (line : List ℕ)
    (together : BelongTogether before encoder) (same : IsSameReader before mid) where
  -- the row was encoded and taken
  pub row-written : (after : RinexReader) (is_last answer : Bool) (row : ObservationRow)
      → is_open_stage before.stage ≡ true → row_of before.types line ≡ Ok mid.row → begins_epoch line ≡ false
      → row ≡ mid.row → answer ≡ not (has_satellite row.name encoder.rows) → answer ≡ true → new ≡ record
      encoder { rows = encoder.rows ++ row ∷ [] } → ((l : List ℕ) (kept : Written) → row_of
      mid.types l ≡ Ok mid.row → begins_epoch l ≡ false → has_satellite mid.row.name mid.rows.rows ≡ false
      → TakesRow (made_at mid l kept) is_last mid after) → after.rows.rows ≡ mid.rows.rows ++ mid.row ∷ []
      → HasWrittenRow before encoder line is_last after new
  row-written after is_last answer row opened read other same_row said fresh written takes added =
      let there = rows-there before encoder together opened in
      record {
        takes = λ kept. taken-from before mid after line kept is_last same (takes line kept
            (ap (λ ts. row_of ts line) same.types ∙ read) other (row-known answer row mid.row encoder.rows
            mid.rows.rows said same_row (there ∙ sym same.rows) ∙ ap not fresh));
        written = grind (arith, common_steps, there);
      }

  -- nothing has changed
  pub row-refused : (fault : Fault) → new ≡ encoder → encoder.pending ≡ []
      → ((kept : Written) → RefusesRinexLine (made_at before line kept) before line fault)
      → HasRefusedRow before encoder line fault mid new
  row-refused fault is none refuses = grind (arith, common_steps, same-together)

  -- all epochs were dropped
  pub row-lost : (after : RinexReader) → new ≡ forgotten encoder [] → after.types
      ≡ mid.types → is_open_stage after.stage ≡ false → ((kept : Written) → RefusesRinexLine (made_at before
      line kept) before line OutOfMemory)
      → HasRefusedRow before encoder line OutOfMemory after new
  row-lost after is typed closed refuses =
      grind (arith, common_steps, closed-together, forgotten, served-closed)

-- ---- a row that was taken and written

module _ {before after : RinexReader} {encoder new : EncoderState} {line : List ℕ} {is_last : Bool}
    (row : HasWrittenRow before encoder line is_last after new) where
  pub row-moves : (kept : Written) → is_last ≡ false
      → MovesReader (made_at before line kept) before after × (is_open_stage after.stage ≡ true)
  row-moves kept is = rw is at (row.takes kept)

  pub row-ends : (kept : Written) → is_last ≡ true → CompletedEpoch (made_at before line kept) before after
  row-ends kept is = rw is at (row.takes kept)

  module _ (together : BelongTogether before encoder) (opened : is_open_stage before.stage ≡ true) where
    still-open : new.is_open ≡ true
    still-open = ap (λ (e : EncoderState). e.is_open) row.written ∙ together.opened ∙ opened

    pub row-together : is_last ≡ false → BelongTogether after new
    row-together is = open-together after new (row-moves (record { index = 0; tail = None }) is).1 still-open
        (ap (λ (e : EncoderState). e.rows) row.written)

    -- the conditions of the epoch's end
    pub row-asked : is_last ≡ true → HasWholeEpoch after new
    row-asked is = grind (arith, common_steps, row-ends (record { index = 0; tail = None }) is, still-open)

-- ---- the line of an epoch

-- it moves the reader on if the epoch expects rows, and otherwise completes it
pub begun-open : (made : Made ObservationEpoch OpenEpoch) (before after : RinexReader)
    → BeginsEpoch made before after → is_open_stage after.stage ≡ true → MovesReader made before after
begun-open made before after begins is = grind (arith, common_steps)

pub begun-whole : (made : Made ObservationEpoch OpenEpoch) (before after : RinexReader)
    → BeginsEpoch made before after → is_open_stage after.stage ≡ false → CompletedEpoch made before after
begun-whole made before after begins is = grind (arith, common_steps)

module _ {made : Made ObservationEpoch OpenEpoch} {before after : RinexReader} (encoder : EncoderState)
    {new : EncoderState} {full : Bool} (begins : BeginsEpoch made before after) (begun : new ≡ record encoder
    { is_open = true; in_full = full; rows = []; pending = [] }) where
  pub begun-rows : new.rows ≡ after.rows.rows
  begun-rows = ap (λ (e : EncoderState). e.rows) begun ∙ sym begins.0

  pub begun-together : is_open_stage after.stage ≡ true → BelongTogether after new
  begun-together opened = grind (arith, common_steps, open-together, begun-rows)

  pub begun-asked : is_open_stage after.stage ≡ false → HasWholeEpoch after new
  begun-asked closed = grind (arith, common_steps, begun-whole, begun-rows)
