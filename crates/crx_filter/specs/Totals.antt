-- The counts of a check, as code stores them.
use Rattle.std.specs.Prelude.{◌≡◌, ◌≤◌, ◌*◌, ⊤, ℕ, List, [], ◌∷◌, ◌++◌, Option, Ok, length}
use Rattle.crx_base.specs.declared.limits.TheConstants.{SATELLITES_LIMIT, TYPES_LIMIT}
use Rattle.crx_rinex.specs.meaning.EpochPlaces.{OpenEpoch}
use Rattle.crx_rinex.specs.meaning.Observations.{Epoch, Row, observations_of}
use Rattle.crx_rinex.specs.meaning.SatelliteLines.{row_of}
use Rattle.std.specs.List.{sum_by}
use Rattle.crx_filter.specs.declared.rinex_reader.RinexReader.{RinexReader}
use Rattle.crx_header.specs.meaning.ObservationTypes.{Count}
use Rattle.crx_filter.specs.LineByLine.{Made, Completes, Moves, Rejects, Repeats}
use Rattle.crx_filter.specs.meaning.Standard.{Findings, version_in}
use Rattle.crx_filter.specs.CheckByLine.{Totals as TotalsNoted, printed_open}
use Rattle.crx_filter.specs.declared.totals.Totals.{Totals}

-- the totals in the state
abbrev pub totals_held : Totals → TotalsNoted
totals_held t = record {
  version = version_in t.version;
  epochs = t.epochs;
  events = t.events;
  observations = t.observations;
}

-- the findings, by the state
abbrev pub found_held : Totals → List Count → Option ℕ → Findings
found_held t types not_standard = record {
  version = version_in t.version;
  systems = types;
  epochs = t.epochs;
  events = t.events;
  observations = t.observations;
  not_standard = not_standard;
}

-- if a line moves a reading on within an epoch, the epoch has a printed line
abbrev pub HasPrinted : Made Epoch OpenEpoch → Type 0
HasPrinted (Completes unit) = ⊤
HasPrinted (Moves phase) = (lines : List (List ℕ)) × (line : List ℕ) × (printed_open phase ≡ lines ++ line ∷ [])
HasPrinted (Rejects fault) = ⊤
HasPrinted (Repeats at) = ⊤

-- the rows of an epoch so far have `observed` observations, and are no more than an epoch may have
pub record IsObserved (observed : ℕ) (rows : List Row) : Type 0 where
  pub is_sum : observed ≡ sum_by observations_of rows
  pub within : observed ≤ TYPES_LIMIT * length rows
  pub few : length rows ≤ SATELLITES_LIMIT

-- the reader's last row was read from this line, and the rows before it have `observed` observations
pub record IsBehindARow (observed : ℕ) (line : List ℕ) (reader : RinexReader) : Type 0 where
  pub rows : List Row
  pub is_last : reader.rows.rows ≡ rows ++ reader.row ∷ []
  pub types : List Count
  pub read : row_of types line ≡ Ok reader.row
  pub observed_before : IsObserved observed rows
