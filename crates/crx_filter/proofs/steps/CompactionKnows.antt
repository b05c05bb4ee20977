-- The step of a compaction at a line that it takes, in the words of a direction.
use Rattle.crx_filter.proofs
use proofs.Vocabulary.{ℕ, ◌≡◌, true, false, List, [], ◌∷◌, Ok, Err, Result, common_steps, arith, ◌+◌, ◌≤◌, false≢true}
use proofs.Vocabulary.{InputLine, Epoch, Observation, OpenEpoch, Choices, Made, compaction, compaction_state}
use proofs.Vocabulary.{Written, RinexReader, made_at, MovesReader, CompletedEpoch, Completed, FileUnit, epoch_by_rows}
use proofs.Vocabulary.{Fault, Bool, ◌++◌, compact_written, written_kept, is_at_every}
use proofs.{ReadyLines.again-lines}
use proofs.steps.CompactionSteps.{is_copied, is_first_line}
use proofs.Vocabulary.{Header, HeaderLine, EventLine, EventRecord, RinexStep, TakesRinexLine}
use Rattle.crx_filter.specs.declared.rinex_reader.RinexStep.TheVariants.{Event, Record}
use proofs.steps.CompactionParts.{served-closed}
use Rattle.crx_compact.specs.Encoding.{EncoderState, EndsEpoch, forgotten}
use Rattle.crx_filter.specs.CompactionParts.{CompactionState, compaction_parts, is_full_where_due}
use Rattle.crx_filter.specs.RinexReaders.{RefusesRinexLine}
use Rattle.crx_header.specs.meaning.CompactHeader.{lines_before_header}
use Rattle.crx_filter.specs.DirectionParts.{DirectionTakes, state_by}
use Rattle.crx_filter.specs.declared.compaction.Compaction.TheInside.{Inside as Compaction}
use Rattle.std.specs.Prelude.{⊤}

-- ---- after a line that was taken

abbrev pub compaction_of : ℕ → RinexReader → EncoderState → CompactionState
compaction_of index reader encoder = record { index = index; reader = reader; encoder = encoder }

-- the state that a compaction keeps of the epochs before
abbrev pub kept_in : Compaction → Written
kept_in inside = record { index = inside.index; tail = inside.encoder.before }

abbrev kept_of : CompactionState → Written
kept_of c = record { index = c.index; tail = c.encoder.before }

abbrev serves_in : CompactionState → Choices → Bool
serves_in c choices =
    is_full_where_due c.reader.stage c.encoder.in_full (is_at_every choices.every c.index)

module _ (served : Choices → Type 0) (before after : CompactionState) (line : InputLine)
    (number : ℕ) where
  abbrev made : Made Epoch OpenEpoch
  made = made_at before.reader line.content (kept_of before)

  abbrev Takes : Result Bool Fault → List (List ℕ) → Type 0
  Takes result ready =
      DirectionTakes compaction (λ cs. cs) compaction_state served (compaction_parts before) number
      line result ready (compaction_parts after) (serves_in after) before.index after.index
      (λ choices lines. ⊤) (λ choices lines. ⊤)

  -- it was refused
  pub refused-takes : {fault : Fault} {ready : List (List ℕ)}
      → RefusesRinexLine made before.reader line.content fault
      → after.reader.types ≡ before.reader.types → after.index ≡ before.index
      → ((choices : Choices) → served choices → serves_in after choices ≡ true) → ready ≡ []
      → Takes (Err fault) ready
  refused-takes refuses typed counted serving none =
      grind (arith, common_steps)

  -- it completes no unit
  pub moved-takes : {ready : List (List ℕ)} → MovesReader made before.reader after.reader
      → kept_of after ≡ kept_of before
      → ((choices : Choices) → served choices → serves_in after choices ≡ true) → ready ≡ []
      → Takes (Ok false) ready
  moved-takes moves same serving none = grind (arith, common_steps)

  -- it completes a unit
  unit-takes : (unit : FileUnit Epoch) {ready : List (List ℕ)}
      → Completed made unit before.reader after.reader
      → ((choices : Choices) (number : ℕ) → served choices
      → (ready ≡ compact_written (state_by choices number (compaction_parts before)) unit)
      × (kept_of after ≡ written_kept (state_by choices number (compaction_parts before)) unit))
      → after.index ≤ before.index + 1 → Takes (Ok true) ready
  unit-takes unit done written counted =
      grind (arith, common_steps, served-closed, again-lines)

  -- it is copied, and all epochs are dropped
  pub copied-takes : (step : RinexStep) (date : List ℕ) → is_copied step ≡ true
      → TakesRinexLine made before.reader line.content step after.reader
      → ((choices : Choices) → served choices → choices.date ≡ date)
      → after.encoder ≡ forgotten before.encoder (lines_before_header date (is_first_line step)) → after.index ≡ before.index
      → Takes (Ok true) (after.encoder.pending ++ line.content ∷ [])
  copied-takes (Header is_first) date copied takes dated emptied counted =
      unit-takes (HeaderLine line.content) takes.0 (λ choices number is.
      grind (arith, common_steps, choices)) (omega (arith, counted))
  copied-takes Event date copied takes dated emptied counted =
      unit-takes (EventLine line.content) takes (λ choices number is.
      grind (arith, common_steps)) (omega (arith, counted))
  copied-takes Record date copied takes dated emptied counted =
      unit-takes (EventRecord line.content) takes (λ choices number is.
      grind (arith, common_steps)) (omega (arith, counted))
  copied-takes step date copied takes dated emptied counted = absurd (false≢true copied)

  -- it completes an epoch whose rows the encoder had
  pub ended-takes : (done : CompletedEpoch made before.reader after.reader) (mid : EncoderState)
      → ((choices : Choices) → served choices → mid.in_full ≡ is_at_every choices.every before.index)
      → mid.before ≡ before.encoder.before → mid.rows ≡ after.reader.rows.rows
      → EndsEpoch done.head mid after.encoder → after.index ≡ before.index + 1
      → Takes (Ok true) after.encoder.pending
  ended-takes done mid due tail there ends counted =
      unit-takes (Observation (epoch_by_rows done.head after.reader.rows.rows)) done.is
      (λ choices number chosen. grind (arith, common_steps, epoch_by_rows, due choices chosen))
      (omega (arith, counted))
