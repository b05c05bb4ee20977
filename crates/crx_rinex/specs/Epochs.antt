-- In addition to meaning/Epochs: how code and proofs see it.
use Rattle.std.specs.Prelude.{◌≡◌, ◌≤◌, ◌+◌, ◌⊎◌, ℕ, List, Bool, [], ◌∷◌, ◌++◌, ◌==◌, length, map}
use Rattle.crx_rinex.specs.meaning.Observations.{Row, Epoch}
use Rattle.crx_rinex.specs.meaning.EpochLines.{IsObservationHead, ObservationHead}
use Rattle.crx_header.specs.meaning.EpochColumns.{satellites_of}
use Rattle.crx_rinex.specs.meaning.Epochs.{IsSoundEpoch}

-- an epoch before its first row
abbrev pub begun : ObservationHead → Epoch
begun head = record { head = head.head; clock = head.clock; rows = [] }

-- an epoch with one more row at its end
abbrev pub with_row : Epoch → Row → Epoch
with_row epoch row = record epoch { rows = epoch.rows ++ row ∷ [] }

-- whether an epoch has all rows that its line announces
abbrev pub is_full_epoch : Epoch → Bool
is_full_epoch epoch = length epoch.rows == satellites_of epoch.head

-- The parts of an epoch: its line is sound, with these rows it is a sound epoch, and the identifiers are those
-- of the rows.
abbrev pub AreEpochParts : ObservationHead → List (List ℕ) → List Row → Type 0
AreEpochParts head names rows =
    IsSoundEpoch (record { head = head.head; clock = head.clock; rows = rows }) × IsObservationHead head
    × (names ≡ map (λ (row : Row). row.name) rows)

-- an epoch without rows may have no room for them; an epoch with rows has room for all that its line announces,
-- by the `capacity` for rows and by the room for `spare` more identifiers
abbrev pub HasRowsRoom : List ℕ → List Row → ℕ → ℕ → Type 0
HasRowsRoom head rows capacity spare =
    (rows ≡ []) ⊎ ((satellites_of head ≤ capacity) × (satellites_of head ≤ length rows + spare))
