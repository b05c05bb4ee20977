-- The compact text of epochs (Hatanaka's Compact RINEX 3.0, epoch line, clock line and satellite lines). Lists of epochs are newest first:
-- the first epoch is the one that is written.
use Rattle.std.specs.Prelude.{ℕ, ℤ, Bool, List, [], ◌∷◌, ◌++◌, map, length, Option, if◌then◌else◌, flat_map}
use Rattle.crx_text.specs.meaning.Columns.{without_end_blanks}
use Rattle.crx_text.specs.meaning.Texts.{text_difference}
use Rattle.crx_text.specs.meaning.Codes.{code_text}
use Rattle.crx_rinex.specs.meaning.Observations.{Row, Epoch, value_in}
use Rattle.crx_text.specs.declared.code.Code.{Code}
use Rattle.crx_base.specs.declared.limits.TheConstants.{WRITTEN_ORDER}
use Rattle.crx_text.specs.meaning.EachPlace.{each_place}
use Rattle.crx_compact.specs.meaning.Sequences.{back_to, named, stretch}
use Rattle.crx_compact.specs.meaning.Differences.{code_at}
use Rattle.crx_compact.specs.meaning.Cells.{cell_text}

-- an epoch, and whether it is full: its line begins with >, and nothing in it refers to an earlier epoch
pub record Marked : Type 0 where
  pub in_full : Bool
  pub epoch : Epoch

-- columns 1 to 41 of the epoch line, directly followed by the identifiers
abbrev pub epoch_text : Epoch → List ℕ
epoch_text epoch = epoch.head ++ flat_map (λ (r : Row). r.name) epoch.rows

-- a satellite's row, if the epoch holds it
abbrev pub row_named : List ℕ → List Row → Option Row
row_named name rows = named (λ (r : Row). r.name) name rows

-- the epochs from the newest back to the latest full one, this one included
abbrev pub since_full : List Marked → List Epoch
since_full epochs = map (λ (m : Marked). m.epoch) (back_to (λ (m : Marked). m.in_full) epochs)

-- a satellite's rows over the longest list of consecutive epochs that ends with the newest, of which all hold the satellite and only the
-- oldest may be full
abbrev pub run_of : List ℕ → List Marked → List Row
run_of name epochs = stretch (map (λ (e : Epoch). row_named name e.rows) (since_full epochs))

-- the values at a place over the longest stretch of rows, from the newest on, that all have one there
abbrev pub arc_of : ℕ → List Row → List ℤ
arc_of place rows = stretch (map (value_in place) rows)

-- the receiver clock offsets over the longest stretch of epochs, from the newest on, that all have one and of which only the oldest may be
-- full
abbrev pub clock_arc : List Marked → List ℤ
clock_arc epochs = stretch (map (λ (e : Epoch). e.clock) (since_full epochs))

-- the text of the newest epoch; empty if there is none
abbrev pub newest_text : List Marked → List ℕ
newest_text [] = []
newest_text (m ∷ older) = epoch_text m.epoch

-- the indicators in the epoch before the newest one of a run; none if the run has one epoch
abbrev pub indicators_before : List Row → List ℕ
indicators_before [] = []
indicators_before (row ∷ []) = []
indicators_before (row ∷ before ∷ older) = before.flags

-- the coded values of a run's newest values, one for each of `count` types
abbrev pub codes_of : ℕ → List Row → List Code
codes_of count run = each_place count (λ j. code_at WRITTEN_ORDER (arc_of j run))

-- a satellite line without blanks at its end: the coded values, and the difference of the indicators before and now
abbrev pub line_of_codes : List Code → List ℕ → List ℕ → List ℕ
line_of_codes codes before now = without_end_blanks (flat_map cell_text codes ++ text_difference before now)

-- the satellite line of a run's newest row
abbrev pub satellite_line : List Row → Row → List ℕ
satellite_line run row = line_of_codes (codes_of (length row.values) run) (indicators_before run) row.flags

-- an epoch line: the difference of the epoch text from that of the previous epoch, or from the empty text if the epoch is full
abbrev pub epoch_line : Marked → List Marked → List ℕ
epoch_line m older = text_difference (if m.in_full then [] else newest_text older) (epoch_text m.epoch)

-- the compact lines of the newest epoch: the epoch line, the clock line, and one line for each satellite
abbrev pub compact_epoch : List Marked → List (List ℕ)
compact_epoch [] = []
compact_epoch (m ∷ older) =
    epoch_line m older
    ∷ code_text (code_at WRITTEN_ORDER (clock_arc (m ∷ older)))
    ∷ map (λ (r : Row). satellite_line (run_of r.name (m ∷ older)) r) m.epoch.rows
