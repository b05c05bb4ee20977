-- The step of a compaction at a line: a fault, another stage, a copied line, or an epoch.
use Rattle.crx_filter.proofs.Vocabulary.{common_steps, arith, ◌≡◌, ℕ, false, false≢true, true, List, Bool}
use Rattle.crx_filter.proofs.Vocabulary.{ObservationEpoch, OpenEpoch, Made, epoch_open}
use Rattle.crx_filter.proofs.Vocabulary.{is_open_stage, TakesRinexLine, RinexStep, Header}
use Rattle.crx_filter.specs.declared.rinex_reader.RinexStep.TheVariants.{Event, Record}
use Rattle.crx_filter.proofs.Vocabulary.{RinexReader}
use Rattle.crx_filter.specs.DirectionParts.{DirectionParts}

-- ---- a line's step, by the reader

-- the parts between two lines, by the reader and the state kept of the epochs
abbrev pub parts_with : {K : Type 0} → RinexReader → K → DirectionParts OpenEpoch K
parts_with reader kept =
    record { stage = reader.stage; begun = epoch_open reader; types = reader.types; kept = kept }

-- whether a line is the first header line, before which others are written
abbrev pub is_first_line : RinexStep → Bool
is_first_line (Header is_first) = is_first
is_first_line step = false

-- whether a line is copied, and isn't of an epoch
abbrev pub is_copied : RinexStep → Bool
is_copied (Header is_first) = true
is_copied Event = true
is_copied Record = true
is_copied step = false

-- after it no epoch is open
pub copied-closed : (made : Made ObservationEpoch OpenEpoch) (before after : RinexReader) (line : List ℕ)
    (step : RinexStep) → is_copied step ≡ true → TakesRinexLine made before line step after
    → is_open_stage after.stage ≡ false
copied-closed made before after line step copied takes = grind (arith, common_steps, false≢true)
