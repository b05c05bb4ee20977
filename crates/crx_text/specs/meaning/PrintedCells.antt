-- How the cells of a satellite line are printed: RINEX 3.05, table A3, m(F14.3,I1,I1).
use Rattle.std.specs.Prelude.{ℕ, ℤ, List, [], ◌∷◌, ◌++◌, Option, take, drop}
use Rattle.crx_text.specs.meaning.Numbers.{observation_text}

-- each value with its two indicators
abbrev pub printed_cells : List (Option ℤ) → List ℕ → List ℕ
printed_cells [] flags = []
printed_cells (value ∷ values) flags = observation_text value ++ take 2 flags ++ printed_cells values (drop 2 flags)
