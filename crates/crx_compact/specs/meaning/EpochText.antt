-- The form of an epoch text (RINEX 3.05, table A3, EPOCH record, and Hatanaka's Compact RINEX 3.0, epoch line).
use Rattle.std.specs.Prelude.{ℕ, ◌+◌, ◌*◌, List, [], ◌∷◌, Option, Result, Ok, Err, if◌then◌else◌}
use Rattle.std.specs.List.{list_any}
use Rattle.std.specs.Str.{bytes_eq}
use Rattle.crx_text.specs.meaning.Columns.{columns}
use Rattle.crx_base.specs.declared.limits.TheConstants.{HEAD_WIDTH, NAME_WIDTH}
use Rattle.crx_base.specs.declared.fault.Fault.{Fault}
use Rattle.crx_base.specs.declared.fault.Fault.TheVariants.{BadSatellite, RepeatedSatellite}
use Rattle.crx_text.specs.meaning.EachPlace.{each_place}
use Rattle.crx_compact.specs.meaning.Sequences.{before_all}
pub use Rattle.crx_base.specs.meaning.Lines.{is_printable}
pub use Rattle.crx_header.specs.meaning.Label.{number_in}
pub use Rattle.crx_header.specs.meaning.EpochColumns.{begins_epoch, is_observation_flag, count_within_limit, satellites_in}
pub use Rattle.crx_header.specs.meaning.EpochColumns.{epoch_count}
pub use Rattle.crx_header.specs.meaning.Satellites.{types_of_satellite}
use Rattle.crx_header.specs.meaning.ObservationTypes.{Count}
use Rattle.crx_header.specs.meaning.InOrder.{◌or_else◌with◌}

-- the `count` identifiers after the 41 columns, three characters each
abbrev pub names_in : List ℕ → ℕ → List (List ℕ)
names_in text count = each_place count (λ k. columns text (HEAD_WIDTH + 1 + NAME_WIDTH * k) NAME_WIDTH)

-- a satellite of an epoch text: its identifier, and how many types its system has
pub record Satellite : Type 0 where
  pub name : List ℕ
  pub count : ℕ

-- a satellite before `others`, or its fault: it has no count of types, or one of the earlier identifiers is the same
abbrev pub satellite_before : List (List ℕ)
    → List ℕ → Option ℕ → Result (List Satellite) Fault → Result (List Satellite) Fault
satellite_before earlier name types others =
    types or_else Err BadSatellite with λ count.
    if list_any (bytes_eq name) earlier then Err RepeatedSatellite else
    before_all (record { name = name; count = count }) others

-- the satellites of some identifiers, from left to right, or the first fault: each is well formed, and none occurs twice
abbrev pub satellites_named : List Count → List (List ℕ) → List (List ℕ) → Result (List Satellite) Fault
satellites_named types earlier [] = Ok []
satellites_named types earlier (name ∷ names) =
    satellite_before earlier name (types_of_satellite types name) (satellites_named types (name ∷ earlier) names)
