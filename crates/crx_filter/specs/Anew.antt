-- Restarts in the reading of compact text: from there on the reading depends only on the observation types in force
-- and on the lines that follow. Lists of items have the newest first.
use Rattle.std.specs.Prelude.{◌≡◌, ℕ, zero, suc, Bool, true, false, ◌&&◌, List, [], ◌∷◌, ◌++◌, if◌then◌else◌}
use Rattle.crx_base.specs.meaning.AsRead.{ReadLine, Content, Overlong}
use Rattle.crx_header.specs.meaning.EpochColumns.{begins_epoch, is_event_line}
use Rattle.crx_compact.specs.meaning.CompactPlaces.{ReadEpoch}
use Rattle.crx_filter.specs.meaning.Items.{Item, header_has_ended, records_announced, records_left, types_in_force}
use Rattle.crx_filter.specs.meaning.Reading.{Reading, Stop, reading_from}
use Rattle.crx_filter.specs.meaning.Expanded.{compact_place}

-- whether reading restarts at these lines, after some records of an event that are still to be read: after the
-- records, each line that begins a unit begins with >, up to the first unit that isn't an event
abbrev pub starts_anew : ℕ → List ReadLine → Bool
starts_anew zero [] = true
starts_anew zero (Overlong ∷ lines) = false
starts_anew zero (Content line ∷ lines) =
    begins_epoch line && (if is_event_line line then starts_anew (records_announced line) lines else true)
starts_anew (suc left) [] = true
starts_anew (suc left) (line ∷ lines) = starts_anew left lines

-- the header has ended, and no record of an event is still to be read
pub record IsBetweenUnits {E : Type 0} (items : List (Item E)) : Type 0 where
  pub header : header_has_ended items ≡ true
  pub none : records_left items ≡ 0

-- two readings, each after some items, continue with the same units and warnings, and stop alike
pub record GoOnAlike (before other : List (Item ReadEpoch)) (one two : Reading ReadEpoch) : Type 0 where
  pub more : List (Item ReadEpoch)
  pub stop : Stop
  pub first : one ≡ record { items = more ++ before; stop = stop }
  pub second : two ≡ record { items = more ++ other; stop = stop }

-- if reading restarts, the same units are read with the same types, whatever was read before
abbrev pub DependsOnTypes : Type 0
DependsOnTypes =
    (skip : Bool) (before other : List (Item ReadEpoch)) (number : ℕ) (lines : List ReadLine)
    → IsBetweenUnits before → IsBetweenUnits other
    → types_in_force before ≡ types_in_force other → starts_anew 0 lines ≡ true
    → GoOnAlike before other (reading_from compact_place skip before number lines)
    (reading_from compact_place skip other number lines)
