-- When the result at a place is certain: lines are read one after another, and later lines must not change the
-- result.
use Rattle.std.specs.Prelude.{◌≡◌, ◌≤◌, ◌<◌, ⊤, ℕ, List, ◌++◌, length}
use Rattle.crx_base.specs.meaning.AsRead.{ReadLine}
use Rattle.crx_rinex.specs.meaning.Places.{Place, Done, Fails, NeedsMore}

-- the result after `count` lines that needed more: the last line of the thing, or the fault's line, is after
-- these lines
abbrev pub IsDecidedAfter : {X : Type 0} → ℕ → Place X → Type 0
IsDecidedAfter count (Done x lines) = count < lines
IsDecidedAfter count (Fails offset fault) = count ≤ offset
IsDecidedAfter count NeedsMore = ⊤

-- the result of `count` lines, and the later one with more lines after them: a thing or a fault is within these
-- lines and stays, and a result that needs more lines is decided after them
abbrev pub Remains : {X : Type 0} → ℕ → Place X → Place X → Type 0
Remains count (Done x lines) later = (lines ≤ count) × (later ≡ Done x lines)
Remains count (Fails offset fault) later = (offset < count) × (later ≡ Fails offset fault)
Remains count NeedsMore later = IsDecidedAfter count later

-- whatever lines follow, the result remains
abbrev pub IsSteady : {X : Type 0} → (List ReadLine → Place X) → Type 0
IsSteady place = (lines more : List ReadLine) → Remains (length lines) (place lines) (place (lines ++ more))
