-- The units of an observation file: RINEX 3.05, sections 5 and 6 (header records, and data records of epochs
-- and events).
use Rattle.std.specs.Prelude.{ℕ, List, [], ◌∷◌}
use Rattle.crx_rinex.specs.meaning.Observations.{Epoch}
use Rattle.crx_rinex.specs.meaning.Printing.{printed_epoch}

-- a header line; an event's first line; one of the records that an event's count announces; or an observation
-- epoch. E is an epoch as it is known: its values if RINEX is read, and its codes too if compact text is read
pub data Unit (E : Type 0) : Type 0 where
  HeaderLine : List ℕ → Unit E
  EventLine : List ℕ → Unit E
  EventRecord : List ℕ → Unit E
  Observation : E → Unit E

-- the lines of a unit in RINEX: header lines, event lines and records as they are
abbrev pub printed_unit : Unit Epoch → List (List ℕ)
printed_unit (HeaderLine line) = line ∷ []
printed_unit (EventLine line) = line ∷ []
printed_unit (EventRecord line) = line ∷ []
printed_unit (Observation epoch) = printed_epoch epoch
