-- The long statements of this crate's laws.
use Rattle.std.specs.Prelude.{◌≡◌, ◌↔◌, ◌⊎◌, List, [], ◌∷◌, ◌++◌, length, Some}
use Rattle.crx_base.specs.meaning.AsRead.{ReadLine}
use Rattle.crx_rinex.specs.meaning.Places.{NeedsMore}
use Rattle.crx_header.specs.meaning.ObservationTypes.{Count}
use Rattle.crx_rinex.specs.meaning.EpochPlaces.{OpenEpoch, epoch_place}
use Rattle.crx_rinex.specs.EpochPlaces.{epoch_step, open_with, place_after, still_open}

-- an observation epoch needs more lines if and only if it has no line yet, or the lines so far leave it open
abbrev pub IsWantedWhereOpen : List Count → List ReadLine → Type 0
IsWantedWhereOpen types lines =
    (epoch_place types lines ≡ NeedsMore) ↔ ((lines ≡ []) ⊎ ((so_far : OpenEpoch) × (open_with types lines ≡ Some so_far)))

-- the open epoch decides the result of one more line
pub record IsDecidedByOpen (types : List Count)
    (lines : List ReadLine) (line : ReadLine) (so_far : OpenEpoch) : Type 0 where
  pub place : epoch_place types (lines ++ line ∷ []) ≡ place_after (length lines) (epoch_step so_far line)
  pub left_open : open_with types (lines ++ line ∷ []) ≡ still_open (epoch_step so_far line)
