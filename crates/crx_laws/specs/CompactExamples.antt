-- Worked examples of compact text: the epochs, newest first, and the parts of their lines.
use Rattle.std.specs.Prelude.{ℕ, ◌+◌, ℤ, pos, neg_ℤ, true, false, List, [], ◌∷◌, ◌++◌, map, reverse, Option, Some, None}
use Rattle.std.specs.Prelude.{codes}
use Rattle.crx_rinex.specs.meaning.Observations.{Row, Epoch}
use Rattle.crx_text.specs.declared.code.Code.{Code}
use Rattle.crx_text.specs.declared.code.Code.TheVariants.{Missing, Start, Step}
use Rattle.crx_compact.specs.meaning.Compaction.{Marked}
use Rattle.crx_compact.specs.meaning.Expansion.{RawEpoch, RawRow}
use Rattle.crx_header.specs.meaning.ObservationTypes.{Count}
use Rattle.crx_laws.specs.Examples.{one_type}
use Rattle.crx_rinex.specs.meaning.Places.{Place}
use Rattle.crx_base.specs.meaning.AsRead.{ReadLine, Content}
use Rattle.crx_compact.specs.meaning.CompactPlaces.{ReadEpoch}
use Rattle.crx_compact.specs.OpenEpochs.{After, OpenRawEpoch, placed_as}
use Rattle.crx_compact.specs.ReadingLaws.{epochs_at, TypedEpoch}

-- columns 1 to 41 of the epoch at second s of 2024-01-01, with n satellites
abbrev pub head_at : ℕ → ℕ → List ℕ
head_at s n = codes "> 2024 01 01 00 00  " ++ (48 + s) ∷ codes ".0000000  0  " ++ (48 + n) ∷ codes "      "

-- the line of a full epoch
abbrev pub full_line : ℕ → ℕ → List ℕ → List ℕ
full_line s n names = head_at s n ++ names

abbrev pub full : Epoch → Marked
full epoch = record { in_full = true; epoch = epoch }

abbrev pub later : Epoch → Marked
later epoch = record { in_full = false; epoch = epoch }

-- a satellite with one observation type and its two indicators
abbrev pub satellite : List ℕ → Option ℤ → List ℕ → Row
satellite name value flags = record { name = name; values = value ∷ []; flags = flags }

abbrev pub row_of_g01 : Option ℤ → Row
row_of_g01 value = satellite (codes "G01") value (codes "  ")

abbrev pub row_of_g02 : Option ℤ → Row
row_of_g02 value = satellite (codes "G02") value (codes " 7")

-- an epoch of only G01, without a clock
abbrev pub epoch_of_one : ℕ → Option ℤ → Epoch
epoch_of_one s value = record { head = head_at s 1; clock = None; rows = row_of_g01 value ∷ [] }

-- an epoch of only G01, with a clock and no observation
abbrev pub epoch_of_clock : ℕ → Option ℤ → Epoch
epoch_of_clock s clock = record { head = head_at s 1; clock = clock; rows = row_of_g01 None ∷ [] }

abbrev pub epoch_of_pair : ℕ → ℤ → ℤ → Epoch
epoch_of_pair s first second =
    record { head = head_at s 2; clock = None; rows = row_of_g01 (Some first) ∷ row_of_g02 (Some second) ∷ [] }

-- five epochs of one satellite
abbrev pub five_epochs : List Marked
five_epochs =
    later (epoch_of_one 4 (Some (pos 20000408000))) ∷ later (epoch_of_one 3 (Some (pos 20000304500)))
    ∷ later (epoch_of_one 2 (Some (pos 20000202000))) ∷ later (epoch_of_one 1 (Some (pos 20000100500)))
    ∷ full (epoch_of_one 0 (Some (pos 20000000000))) ∷ []

-- the same, every second one full
abbrev pub five_epochs_restarted : List Marked
five_epochs_restarted =
    full (epoch_of_one 4 (Some (pos 20000408000))) ∷ later (epoch_of_one 3 (Some (pos 20000304500)))
    ∷ full (epoch_of_one 2 (Some (pos 20000202000))) ∷ later (epoch_of_one 1 (Some (pos 20000100500)))
    ∷ full (epoch_of_one 0 (Some (pos 20000000000))) ∷ []

-- the same with the third observation missing
abbrev pub one_missing : List Marked
one_missing =
    later (epoch_of_one 4 (Some (pos 20000408000))) ∷ later (epoch_of_one 3 (Some (pos 20000304500)))
    ∷ later (epoch_of_one 2 None) ∷ later (epoch_of_one 1 (Some (pos 20000100500)))
    ∷ full (epoch_of_one 0 (Some (pos 20000000000))) ∷ []

-- a satellite with an indicator that is away for an epoch
abbrev pub one_away : List Marked
one_away = later (epoch_of_pair 2 (pos 3000) (pos 7000))
    ∷ later (epoch_of_one 1 (Some (pos 2000))) ∷ full (epoch_of_pair 0 (pos 1000) (pos 5000)) ∷ []

-- an observation and its indicator that both end
abbrev pub ending : List Marked
ending =
    later (epoch_of_one 1 None)
    ∷ full (record {
      head = head_at 0 1;
      clock = None;
      rows = satellite (codes "G01") (Some (pos 5000)) (codes " 7") ∷ [];
    }) ∷ []

-- four receiver clock offsets, the second one missing
abbrev pub clocks : List Marked
clocks =
    later (epoch_of_clock 3 (Some (pos 3))) ∷ later (epoch_of_clock 2 (Some (pos 1)))
    ∷ later (epoch_of_clock 1 None) ∷ full (epoch_of_clock 0 (Some (neg_ℤ (pos 123456789012)))) ∷ []

-- the greatest and the least observation in turn
abbrev pub extremes : List Marked
extremes =
    later (epoch_of_one 4 (Some (pos 9999999999999))) ∷ later (epoch_of_one 3 (Some (neg_ℤ (pos 999999999999))))
    ∷ later (epoch_of_one 2 (Some (pos 9999999999999))) ∷ later (epoch_of_one 1 (Some (neg_ℤ (pos 999999999999))))
    ∷ full (epoch_of_one 0 (Some (pos 9999999999999))) ∷ []

-- two epochs without satellites
abbrev pub no_satellites : List Marked
no_satellites =
    later (record { head = head_at 0 0; clock = None; rows = [] })
    ∷ full (record { head = head_at 0 0; clock = None; rows = [] }) ∷ []

-- one type for GPS, and two for Galileo
abbrev pub two_systems : List Count
two_systems = (71, 1) ∷ (69, 2) ∷ []

abbrev pub e05 : Option ℤ → Option ℤ → List ℕ → Row
e05 first second flags = record { name = codes "E05"; values = first ∷ second ∷ []; flags = flags }

-- an epoch of G01 and E05
abbrev pub epoch_of_systems : ℕ → ℤ → Row → Epoch
epoch_of_systems s value row = record { head = head_at s 2; clock = None; rows = row_of_g01 (Some value) ∷ row ∷ [] }

-- the reading of some lines: the epochs, oldest first, or the first fault
abbrev pub epochs_read : List (List Count) → List ReadLine → Place (List Epoch)
epochs_read types lines = placed_as
    (λ (read : List ReadEpoch). reverse (map (λ (r : ReadEpoch). r.epoch) read)) (epochs_at types lines)

abbrev pub epochs_in : List (List Count) → List (List ℕ) → Place (List Epoch)
epochs_in types lines = epochs_read types (map Content lines)

-- an epoch of G01 before its satellite line
abbrev pub half_open_raw : OpenRawEpoch
half_open_raw =
    record {
      text = codes "> 2024 01 01 00 00  0.0000000  0  1      G01";
      clock = After None;
      rows = record { name = codes "G01"; flags = []; cells = None ∷ [] } ∷ [];
      count = 0;
    }

-- two epochs of one satellite
abbrev pub two_epochs : List Marked
two_epochs = later (epoch_of_one 1 (Some (pos 2000))) ∷ full (epoch_of_one 0 (Some (pos 1000))) ∷ []

-- the same with the counts of types in force
abbrev pub two_typed : List TypedEpoch
two_typed = map (λ (m : Marked). record { types = one_type; marked = m }) two_epochs

-- the reading of their lines
abbrev pub row_read : Code → RawRow
row_read code = record { name = codes "G01"; codes = code ∷ []; marks = [] }

abbrev pub two_raws : List RawEpoch
two_raws =
    record { line = codes "                    1"; clock = Missing; rows = row_read (Step (pos 1000)) ∷ [] }
    ∷ record { line = full_line 0 1 (codes "G01"); clock = Missing; rows = row_read (Start 3 (pos 1000)) ∷ [] }
    ∷ []
