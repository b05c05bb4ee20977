-- A history after an epoch line: its satellites have rows, or the line is refused.
use Rattle.std.specs.Prelude.{◌≡◌, ℕ, List, [], All, length, map, Result, Ok, Err, Some, None, OnOk, ◌⊎◌}
use Rattle.std.specs.Prelude.{IfErr}
use Rattle.crx_base.specs.declared.fault.Fault.{Fault}
use Rattle.crx_base.specs.declared.fault.Fault.TheVariants.{OutOfMemory}
use Rattle.crx_text.specs.Texts.{patched}
use Rattle.crx_header.specs.meaning.ObservationTypes.{Count}
use Rattle.crx_header.specs.meaning.Satellites.{types_of_satellite}
use Rattle.crx_compact.specs.HeldRows.{IsAwaitedSatellite, past_of_tail}
use Rattle.crx_compact.specs.meaning.CompactPlaces.{satellites_of_line}
use Rattle.crx_compact.specs.meaning.EpochText.{Satellite}
use Rattle.crx_compact.specs.Placing.{IsAnnounced, OpenHistory}
use Rattle.crx_compact.specs.Placing.{PlacedRows, padded, padded_among, satellite_of, tail_of_history}
use Rattle.crx_compact.specs.Steps.{tail_named}
use Rattle.crx_compact.specs.Tails.{RowTail}

-- no epoch is known any more: the satellites of its rows are expected in the next one
abbrev pub history_cleared : OpenHistory → OpenHistory
history_cleared history = record history {
  text = [];
  clock = None;
  satellites = record history.satellites { rows = []; rest = history.satellites.rows };
}

-- the satellites that were named have rows, each with its system's number of types
pub record AreSatellitesRead (made : Result (List Satellite) Fault) (old new : PlacedRows) : Type 0 where
  pub satellites : List Satellite
  pub read : made ≡ Ok satellites
  pub rows : new.rows ≡ map (padded_among old.rest) satellites
  pub awaited : All IsAwaitedSatellite satellites

-- a satellite of the previous epoch has its system's number of types, and nothing of it changes
pub record IsAgain (types : List Count) (before : PlacedRows) (row : RowTail) : Type 0 where
  pub typed : types_of_satellite types row.name ≡ Some (length row.cells)
  pub own : padded_among before.rest (satellite_of row) ≡ row

-- the satellites of the previous epoch have rows again, in the same order
pub record HaveComeAgain (types : List Count) (old new : PlacedRows) : Type 0 where
  pub rows : new.rows ≡ old.rest
  pub again : All (IsAgain types old) old.rest

-- the satellites have rows; or they have this fault, or memory was refused
pub record AnswersSatellites (made : Result (List Satellite) Fault) (old new : PlacedRows)
    (answer : Result (Unit {0}) Fault) : Type 0 where
  pub ok : OnOk answer (AreSatellitesRead made old new)
  pub err : IfErr answer (λ fault. (made ≡ Err fault) ⊎ (fault ≡ OutOfMemory))

-- an epoch line was read after a history: the satellites of the text that it makes have rows
pub record IsEpochLineRead (types : List Count) (line : List ℕ) (old new : OpenHistory) : Type 0 where
  pub satellites : List Satellite
  pub read : satellites_of_line types (past_of_tail (tail_of_history old)) line ≡ Ok satellites
  pub rows : new.satellites.rows
      ≡ map (λ (s : Satellite). padded s (tail_named s.name (tail_of_history old))) satellites
  pub text : new.text ≡ patched old.text line
  pub clock : new.clock ≡ old.clock
  pub announced : IsAnnounced new

-- an epoch line was read; or it has this fault, or memory was refused
pub record AnswersEpochLine (types : List Count) (line : List ℕ) (old new : OpenHistory) (answer : Result (Unit {0}) Fault)
    : Type 0 where
  pub ok : OnOk answer (IsEpochLineRead types line old new)
  pub err : IfErr answer (λ fault.
      (satellites_of_line types (past_of_tail (tail_of_history old)) line ≡ Err fault) ⊎ (fault ≡ OutOfMemory))
