-- How an observation epoch is printed: RINEX 3.05, table A3.
use Rattle.std.specs.Prelude.{ℕ, ℤ, List, ◌∷◌, ◌++◌, Option, map}
use Rattle.crx_text.specs.meaning.Columns.{without_end_blanks}
use Rattle.crx_text.specs.meaning.Numbers.{clock_text}
use Rattle.crx_text.specs.meaning.PrintedCells.{printed_cells}
use Rattle.crx_rinex.specs.meaning.Observations.{Row, Epoch}

-- a satellite line: the identifier and the cells, without the blanks at its end
abbrev pub printed_row : Row → List ℕ
printed_row row = without_end_blanks (row.name ++ printed_cells row.values row.flags)

-- an epoch line: columns 1 to 41 and the clock, without the blanks at its end
abbrev pub printed_head : List ℕ → Option ℤ → List ℕ
printed_head head clock = without_end_blanks (head ++ clock_text clock)

-- the lines of an observation epoch
abbrev pub printed_epoch : Epoch → List (List ℕ)
printed_epoch epoch = printed_head epoch.head epoch.clock ∷ map printed_row epoch.rows
