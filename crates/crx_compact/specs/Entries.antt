-- The entries of the map of a history's satellites: those with a row in the open epoch, those of the previous epoch that have none yet, and
-- those that aren't in use.
use Rattle.std.specs.Prelude.{◌≡◌, ◌≤◌, ◌<◌, ℕ, ◌+◌, List, [], ◌∷◌, ◌++◌, length, take, drop, map, slice_get, slice_index_or}
use Rattle.std.specs.Prelude.{Some, false}
use Rattle.std.specs.Str.{bytes_eq}
use Rattle.crx_compact.specs.meaning.Sequences.{named}
use Rattle.crx_header.specs.meaning.ObservationTypes.{Count}
use Rattle.crx_header.specs.meaning.Satellites.{types_of_satellite}
use Rattle.crx_compact.specs.Placing.{KeepsRooms, PlacedRows, SatelliteTail, padded}
use Rattle.crx_compact.specs.Placing.{room_of_entry, row_of_entry, satellite_of}

abbrev pub Entry : Type 0
Entry = List ℕ × SatelliteTail

abbrev pub key_of : Entry → List ℕ
key_of entry = entry.0

abbrev pub rooms_of : List Entry → List (List ℕ × ℕ)
rooms_of entries = map room_of_entry entries

abbrev pub entry_at : List Entry → ℕ → Entry
entry_at entries index = slice_index_or entries index ([], record { flags = []; cells = []; room = 0 })

-- the entries in an order of their indices
abbrev pub in_order : List ℕ → List Entry → List Entry
in_order order entries = map (entry_at entries) order

-- each of `count` indices is in the order once, and its place is known
pub record IsOrder (order places : List ℕ) (count : ℕ) : Type 0 where
  pub counted : length order ≡ count
  pub known : length places ≡ count
  pub index : (place : ℕ) → place < count → slice_index_or order place 0 < count
  pub place : (index : ℕ) → index < count → slice_index_or places index 0 < count
  pub forth : (place : ℕ) → place < count → slice_index_or places (slice_index_or order place 0) 0 ≡ place
  pub back : (index : ℕ) → index < count → slice_index_or order (slice_index_or places index 0) 0 ≡ index

-- by an order of the entries: the rows so far, which are the first `placed`, and the rest, which goes up to `live`
abbrev pub placed_rows : ℕ → ℕ → List Entry → List Entry → PlacedRows
placed_rows placed live ordered entries =
    record {
      rows = map row_of_entry (take placed ordered);
      rest = map row_of_entry (drop placed (take live ordered));
      rooms = map room_of_entry entries;
    }

-- the satellite with an identifier is at an index
pub record IsAt (name : List ℕ) (entries : List Entry) (index : ℕ) : Type 0 where
  pub satellite : SatelliteTail
  pub there : slice_get entries index ≡ Some (name, satellite)

-- the satellite is at index `found`: the old entries stay, and a new one is after them
pub record IsFound (name : List ℕ) (found : ℕ) (old new : List Entry) : Type 0 where
  pub at : IsAt name new found
  pub known : take (length old) new ≡ old
  pub rooms : KeepsRooms (rooms_of old) (rooms_of new)

-- the satellite at a place of an order has its system's number of types
pub record KeepsTypes (types : List Count) (order : List ℕ) (place : ℕ) (entries : List Entry) : Type 0 where
  pub entry : Entry
  pub there : slice_get entries (slice_index_or order place 0) ≡ Some entry
  pub typed : types_of_satellite types (key_of entry) ≡ Some (length entry.1.cells)
  pub own : padded (satellite_of (row_of_entry entry)) (Some (row_of_entry entry)) ≡ row_of_entry entry
  pub room : length entry.1.cells ≤ entry.1.room

-- the satellite at a place of an order is put next after the rows so far, and among the rest each other one is found as before
pub record IsPutNext (placed found : ℕ) (old new : List Entry) : Type 0 where
  pub come : (entry : Entry) → slice_get old found ≡ Some entry
      → take (placed + 1) new ≡ take placed old ++ entry ∷ []
  pub others : (live : ℕ) (entry : Entry) (other : List ℕ) → found < live → slice_get old found ≡ Some entry
      → bytes_eq (key_of entry) other ≡ false
      → named key_of other (drop (placed + 1) (take live new))
      ≡ named key_of other (drop placed (take live old))
