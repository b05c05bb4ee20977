-- The satellites of a history while an epoch is open: its rows so far, in the order of the file; the rows of the previous epoch whose
-- satellites have none yet, by their identifiers; and how many types there is room for.
use Rattle.std.specs.Prelude.{◌≡◌, ◌≤◌, ◌++◌, ◌∷◌, ℕ, ℤ, List, [], length, slice_index_or, Option, None, Some, false, map}
use Rattle.std.specs.Prelude.{All, unwrap_or, ◌+◌, ◌*◌, Bool, true, not, IfSome}
use Rattle.std.specs.Str.{bytes_eq}
use Rattle.crx_text.specs.meaning.EachPlace.{each_place}
use Rattle.crx_compact.specs.ArcTails.{ArcTail}
use Rattle.crx_compact.specs.meaning.CompactPlaces.{are_marks}
use Rattle.crx_compact.specs.meaning.EpochText.{Satellite}
use Rattle.crx_compact.specs.meaning.Sequences.{named}
use Rattle.std.specs.Prelude.{Err, IfErr, IfOk, IsOk, Ok, OnOk, Result, ◌⊎◌, slice_get, slice_set, take}
use Rattle.crx_header.specs.meaning.ObservationTypes.{IsAllowedCount}
use Rattle.crx_compact.specs.HeldRows.{AreHeldFlags, IsAwaitedSatellite, row_held}
use Rattle.crx_base.specs.declared.fault.Fault.{Fault}
use Rattle.crx_base.specs.declared.fault.Fault.TheVariants.{BadFlags}
use Rattle.crx_text.specs.meaning.Texts.{text_difference}
use Rattle.crx_compact.specs.Cells.{arcs_of_cells}
use Rattle.crx_compact.specs.RowsSoFar.{AreAnnounced, NamesSatellites}
use Rattle.crx_compact.specs.Steps.{cell_of_tail, flags_of_tail, flags_held, row_line_after}
use Rattle.crx_compact.specs.Tails.{RowTail, Tail}
use Rattle.crx_rinex.specs.meaning.Observations.{Row}
use Rattle.crx_rinex.specs.SatelliteLines.{AreMissingFrom}
use Rattle.crx_text.specs.meaning.Numbers.{IsValue}
use Rattle.crx_base.specs.declared.limits.TheConstants.{TYPES_LIMIT}
use Rattle.crx_header.specs.meaning.Satellites.{is_among}
use Rattle.crx_text.specs.Texts.{patched}
use Rattle.crx_text.specs.meaning.Columns.{columns, without_end_blanks}

-- the history of a satellite: its indicators without the blanks at their end, the tail of each cell's arc, and how many types it has room
-- for
pub record SatelliteTail : Type 0 where
  pub flags : List ℕ
  pub cells : List (Option ArcTail)
  pub room : ℕ

-- the row of a satellite by its identifier
abbrev pub row_tail_of : List ℕ → SatelliteTail → RowTail
row_tail_of name satellite = record { name = name; flags = satellite.flags; cells = satellite.cells }

abbrev pub row_of_entry : List ℕ × SatelliteTail → RowTail
row_of_entry entry = row_tail_of entry.0 entry.1

-- an identifier, and how many types its entry of the map has room for
abbrev pub room_of_entry : List ℕ × SatelliteTail → List ℕ × ℕ
room_of_entry entry = (entry.0, entry.1.room)

-- there are two indicators for each type that there is room for; room, and memory for indicators, don't exceed the types that a system may
-- have
abbrev pub IndicatorsMatchRoom : ℕ → ℕ → ℕ → Type 0
IndicatorsMatchRoom room indicators memory = (room ≤ TYPES_LIMIT) × (indicators ≡ 2 * room)
    × (memory ≤ 2 * TYPES_LIMIT)

-- room for `count` types was reserved or refused: the stored types stay. In both cases there is no less room than before, and at most the
-- room before or room for `count`
pub record AnswersRoom {E : Type 0} (count : ℕ) (old new : SatelliteTail) (answer : Result (Unit {0}) E) : Type 0 where
  pub flags : new.flags ≡ old.flags
  pub cells : new.cells ≡ old.cells
  pub room : OnOk answer (count ≤ new.room)
  pub kept : old.room ≤ new.room
  pub only : (new.room ≤ old.room) ⊎ (new.room ≤ count)

-- indicators of `count` types, for which the satellite has room
pub record FitsFlags (count : ℕ) (flags : List ℕ) (satellite : SatelliteTail) : Type 0 where
  pub room : count ≤ satellite.room
  pub paired : length flags ≡ 2 * count
  pub held : AreHeldFlags flags

-- a row of these values, of which only the first `filled` may be present, and of these indicators can be written after the satellite's
-- history
pub record FitsRow (filled : ℕ) (values : List (Option ℤ)) (flags : List ℕ)
    (satellite : SatelliteTail) : Type 0 where
  pub ranged : All IsValue values
  pub missing : AreMissingFrom filled values
  pub few : length values ≤ TYPES_LIMIT
  pub fits : FitsFlags (length values) flags satellite

-- cells for `count` types: the given ones, then empty ones
abbrev pub cells_for : ℕ → List (Option ArcTail) → List (Option ArcTail)
cells_for count cells = each_place count (λ place. slice_index_or cells place None)

-- the history of a satellite with `count` types
abbrev pub resized : ℕ → SatelliteTail → SatelliteTail
resized count old = record old { flags = flags_held count old.flags; cells = cells_for count old.cells }

-- the satellite has these indicators and `count` types, and `part` is the difference of the indicators
pub record IsMarked (count : ℕ) (flags : List ℕ) (old new : SatelliteTail) (part : List ℕ) : Type 0 where
  pub marked : new ≡ record old { flags = without_end_blanks flags; cells = cells_for count old.cells }
  pub marks : part ≡ text_difference old.flags flags
  pub short : length part ≤ 2 * TYPES_LIMIT

-- the rows of the open epoch so far, the rows of the previous epoch whose satellites have none yet, and the room of every known satellite
pub record PlacedRows : Type 0 where
  pub rows : List RowTail
  pub rest : List RowTail
  pub rooms : List (List ℕ × ℕ)

-- the row of a satellite without a history
abbrev pub empty_row : List ℕ → RowTail
empty_row name = record { name = name; flags = []; cells = [] }

abbrev pub row_tail_named : List ℕ → List RowTail → Option RowTail
row_tail_named name rows = named (λ (r : RowTail). r.name) name rows

-- the row with this identifier, or an empty one
abbrev pub row_or_blank : List ℕ → List RowTail → RowTail
row_or_blank name rows = unwrap_or (row_tail_named name rows) (empty_row name)

-- a satellite is known, and has room for `count` types
pub record HasRoom (name : List ℕ) (count : ℕ) (rooms : List (List ℕ × ℕ)) : Type 0 where
  pub room : ℕ
  pub there : named (λ (r : List ℕ × ℕ). r.0) name rooms ≡ Some (name, room)
  pub within : count ≤ room

-- no satellite has less room than before
abbrev pub KeepsRooms : List (List ℕ × ℕ) → List (List ℕ × ℕ) → Type 0
KeepsRooms before after = (name : List ℕ) (count : ℕ) → HasRoom name count before → HasRoom name count after

-- memory was reserved or refused: no row has changed, and no satellite has less room
pub record HasAskedRoom (old new : PlacedRows) : Type 0 where
  pub rows : new.rows ≡ old.rows
  pub rest : new.rest ≡ old.rest
  pub rooms : KeepsRooms old.rooms new.rooms

-- the same, and unless memory was refused, this room exists now
pub record AsksRoom {E : Type 0} (has_room : List (List ℕ × ℕ) → Type 0) (old new : PlacedRows)
    (answer : Result (Unit {0}) E) : Type 0 where
  pub asked : HasAskedRoom old new
  pub room : OnOk answer (has_room new.rooms)

-- a satellite was added: its row, with its history, is the last one, and the rest has the same row of each other satellite
pub record HasCome (name : List ℕ) (before after : PlacedRows) : Type 0 where
  pub rows : after.rows ≡ before.rows ++ row_or_blank name before.rest ∷ []
  pub others : (other : List ℕ) → bytes_eq other name ≡ false → row_tail_named other after.rest ≡ row_tail_named other before.rest

-- `is_new`: the satellite had no row, and has one now, with room for `count` types; otherwise nothing changes
pub record IsPlaced (name : List ℕ) (count : ℕ) (old new : PlacedRows) (is_new : Bool) : Type 0 where
  pub answer : is_new ≡ not (is_among (λ (row : RowTail). row.name) name old.rows)
  pub come : is_new ≡ true → HasCome name old new
  pub repeated : is_new ≡ false → new ≡ old
  pub room : is_new ≡ true → HasRoom name count new.rooms

-- a satellite without a row is unknown or has too little room for `count` types, and nothing changes
pub record IsUnplaced (name : List ℕ) (count : ℕ) (old new : PlacedRows) : Type 0 where
  pub absent : is_among (λ (row : RowTail). row.name) name old.rows ≡ false
  pub unchanged : new ≡ old
  pub known : HasRoom name count old.rooms → ⊥

-- whether the satellite had no row; no answer if it needs memory first
pub record AnswersPlacing (name : List ℕ) (count : ℕ) (old new : PlacedRows) (answer : Option Bool) : Type 0 where
  pub placed : IfSome answer (IsPlaced name count old new)
  pub unplaced : answer ≡ None → IsUnplaced name count old new
  pub rooms : new.rooms ≡ old.rooms

-- a row was written or refused: never refused if there was room for it; if it is its satellite's first one, there is room now; and no
-- satellite has less room than before
pub record PreparesRow {E : Type 0} (name : List ℕ) (count : ℕ) (before after : List (List ℕ × ℕ)) (answer : Result Bool E)
    : Type 0 where
  pub known : HasRoom name count before → IsOk answer
  pub room : IfOk answer (λ is_new. is_new ≡ true → HasRoom name count after)
  pub rooms : KeepsRooms before after

-- a satellite's row by its count of types, before its line
abbrev pub padded : Satellite → Option RowTail → RowTail
padded satellite kept =
    record {
      name = satellite.name;
      flags = flags_held satellite.count (flags_of_tail kept);
      cells = each_place satellite.count (λ place. cell_of_tail place kept);
    }

-- the same, by the satellite's row among `rows`
abbrev pub padded_among : List RowTail → Satellite → RowTail
padded_among rows satellite = padded satellite (row_tail_named satellite.name rows)

abbrev pub satellite_of : RowTail → Satellite
satellite_of row = record { name = row.name; count = length row.cells }

-- a satellite's row after its line, or the line's fault
abbrev pub row_read : RowTail → List ℕ → Result RowTail Fault
row_read row line = row_held (Some row) (satellite_of row) line

-- marks were read over the indicators of `count` types, which they change; or they are no marks, which is the fault BadFlags. In both cases
-- the indicators are allowed characters
pub record AnswersMarks (count : ℕ) (marks old new : List ℕ) (answer : Result (Unit {0}) Fault) : Type 0 where
  pub good : OnOk answer (are_marks count marks ≡ true)
  pub patched : OnOk answer (take (2 * count) new ≡ columns (patched (take (2 * count) old) marks) 1 (2 * count))
  pub kept : AreHeldFlags (take (2 * count) new)
  pub err : IfErr answer (λ fault. (are_marks count marks ≡ false) × (fault ≡ BadFlags))

-- a satellite's line was read, whatever its identifier: the history includes it, or its fault is returned. The number of types and the room
-- stay
pub record AnswersReading (line : List ℕ) (old new : SatelliteTail) (answer : Result (Unit {0}) Fault) : Type 0 where
  pub ok : OnOk answer ((name : List ℕ) → row_read (row_tail_of name old) line ≡ Ok (row_tail_of name new))
  pub err : IfErr answer (λ fault. (name : List ℕ) → row_read (row_tail_of name old) line ≡ Err fault)
  pub sized : length new.cells ≡ length old.cells
  pub room : new.room ≡ old.room

-- ---- the history

-- the text of the newest epoch, the clock's arc, and the satellites
pub record OpenHistory : Type 0 where
  pub text : List ℕ
  pub clock : Option ArcTail
  pub satellites : PlacedRows

-- the history before the first epoch: no satellite is known
abbrev pub no_history : OpenHistory
no_history = record { text = []; clock = None; satellites = record { rows = []; rest = []; rooms = [] } }

-- the tail of a history between two epochs
abbrev pub tail_of_history : OpenHistory → Tail
tail_of_history history =
    record { text = history.text; clock = history.clock; rows = history.satellites.rows }

-- each row's satellite is known, and has room for the row's types
abbrev pub HaveRoom : List Row → List (List ℕ × ℕ) → Type 0
HaveRoom rows rooms = All (λ (row : Row). HasRoom row.name (length row.values) rooms) rows

abbrev pub row_of_parts : List ℕ → List (Option ℤ) → List ℕ → Row
row_of_parts name values flags = record { name = name; values = values; flags = flags }

-- a satellite's history after a row of these values and indicators, and the row's compact line
abbrev pub satellite_after : List (Option ℤ) → List ℕ → SatelliteTail → SatelliteTail
satellite_after values flags old =
    record old { flags = without_end_blanks flags; cells = arcs_of_cells old.cells values }

abbrev pub line_after : List (Option ℤ) → List ℕ → SatelliteTail → List ℕ
line_after values flags old = row_line_after (Some (row_tail_of [] old)) (row_of_parts [] values flags)

-- the history of the satellite whose row is at `place`
pub record IsStoredAt (place : ℕ) (satellites : PlacedRows) (satellite : SatelliteTail) : Type 0 where
  pub name : List ℕ
  pub there : slice_get satellites.rows place ≡ Some (row_tail_of name satellite)
  pub room : (count : ℕ) → HasRoom name count satellites.rooms → count ≤ satellite.room

-- the history of the satellite whose row is at `place` became `left`, with the same room: only the row has changed
abbrev pub IsLeftAt : ℕ → PlacedRows → SatelliteTail → SatelliteTail → PlacedRows → Type 0
IsLeftAt place old satellite left new = left.room ≡ satellite.room → (name : List ℕ)
    → slice_get old.rows place ≡ Some (row_tail_of name satellite)
    → new ≡ record old { rows = slice_set old.rows place (row_tail_of name left) }

-- a row has a number of cells that is allowed for the types of a system
abbrev pub HasAllowedCount : RowTail → Type 0
HasAllowedCount row = IsAllowedCount (length row.cells)

-- the rows are of the satellites that the text announces and names, no two with one identifier
pub record IsAnnounced (history : OpenHistory) : Type 0 where
  pub announced : AreAnnounced history.text (map satellite_of history.satellites.rows)
  pub named : NamesSatellites history.text (map satellite_of history.satellites.rows)
  pub satellites : All IsAwaitedSatellite (map satellite_of history.satellites.rows)

-- the satellite line of the row at `place` was read: the row after it takes its place
pub record IsRowRead (place : ℕ) (line : List ℕ) (old new : PlacedRows) : Type 0 where
  pub row : RowTail
  pub there : slice_get old.rows place ≡ Some row
  pub left : RowTail
  pub read : row_held (Some row) (satellite_of row) line ≡ Ok left
  pub name : left.name ≡ row.name
  pub sized : length left.cells ≡ length row.cells
  pub rows : new.rows ≡ slice_set old.rows place left

-- the line was read, or its fault is returned
pub record AnswersRow (place : ℕ) (line : List ℕ) (old new : PlacedRows) (answer : Result (Unit {0}) Fault) : Type 0 where
  pub ok : OnOk answer (IsRowRead place line old new)
  pub err : IfErr answer (λ fault. (row : RowTail) → slice_get old.rows place ≡ Some row
      → row_held (Some row) (satellite_of row) line ≡ Err fault)
  pub rooms : KeepsRooms old.rooms new.rooms
