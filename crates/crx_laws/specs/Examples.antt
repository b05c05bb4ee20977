-- Worked examples: an epoch of two satellites, line by line.
use Rattle.std.specs.Prelude.{ℕ, pos, List, [], ◌∷◌, Some, None, codes}
use Rattle.crx_base.specs.meaning.AsRead.{ReadLine, Content}
use Rattle.crx_rinex.specs.meaning.Observations.{Row, Epoch}
use Rattle.crx_rinex.specs.meaning.EpochPlaces.{OpenEpoch}
use Rattle.crx_header.specs.meaning.ObservationTypes.{Count}

-- one type for GPS
abbrev pub one_type : List Count
one_type = (71, 1) ∷ []

-- columns 1 to 41
abbrev pub two_satellites : List ℕ
two_satellites = codes "> 2024 01 01 00 00  0.0000000  0  2      "

abbrev pub first_line_of_two : ReadLine
first_line_of_two = Content (codes "> 2024 01 01 00 00  0.0000000  0  2")

abbrev pub g01_line : ReadLine
g01_line = Content (codes "G01         1.000")

abbrev pub g02_line : ReadLine
g02_line = Content (codes "G02          .500 7")

abbrev pub g01 : Row
g01 = record { name = codes "G01"; values = Some (pos 1000) ∷ []; flags = codes "  " }

abbrev pub g02 : Row
g02 = record { name = codes "G02"; values = Some (pos 500) ∷ []; flags = codes " 7" }

-- the epoch with its first satellite
abbrev pub half_open : OpenEpoch
half_open = record {
  types = one_type;
  head = record { head = two_satellites; count = 2; clock = None };
  rows = g01 ∷ [];
}

abbrev pub epoch_of_two : Epoch
epoch_of_two = record { head = two_satellites; clock = None; rows = g01 ∷ g02 ∷ [] }
