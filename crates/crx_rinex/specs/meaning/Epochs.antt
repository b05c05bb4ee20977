-- Observation epochs, row by row: RINEX 3.05, table A3.
use Rattle.std.specs.Prelude.{◌≡◌, ◌≤◌, ℕ, Bool, true, List, length, All}
use Rattle.std.specs.List.{list_any}
use Rattle.std.specs.Str.{bytes_eq}
use Rattle.crx_rinex.specs.meaning.Observations.{Row, Epoch}
use Rattle.crx_rinex.specs.meaning.EpochLines.{IsObservationHead}
use Rattle.crx_header.specs.meaning.EpochColumns.{satellites_of}
use Rattle.crx_header.specs.meaning.ObservationTypes.{Count}
use Rattle.crx_header.specs.meaning.Satellites.{are_apart}
use Rattle.crx_rinex.specs.meaning.SatelliteLines.{IsSoundRow, HasItsTypes}

-- whether some rows have a satellite
abbrev pub has_satellite : List ℕ → List Row → Bool
has_satellite name rows = list_any (λ row. bytes_eq row.name name) rows

-- whether no two rows have the same satellite
abbrev pub are_different : List Row → Bool
are_different rows = are_apart (λ (row : Row). row.name) rows

-- true of every epoch, also while rows are missing: its line is sound, and so are its rows, each of another
-- satellite, and no more than the line announces
pub record IsSoundEpoch (epoch : Epoch) : Type 0 where
  pub head_sound : IsObservationHead
      (record { head = epoch.head; count = satellites_of epoch.head; clock = epoch.clock })
  pub rows_sound : All IsSoundRow epoch.rows
  pub apart : are_different epoch.rows ≡ true
  pub within : length epoch.rows ≤ satellites_of epoch.head

-- an epoch that has all of its rows, with these counts of types in force
pub record IsWholeEpoch (types : List Count) (epoch : Epoch) : Type 0 where
  pub sound : IsSoundEpoch epoch
  pub full : length epoch.rows ≡ satellites_of epoch.head
  pub typed : All (HasItsTypes types) epoch.rows
