-- The satellites of an open epoch stay those that its text announces, each with its count of types.
use Rattle.crx_compact.proofs.Vocabulary.{◌≡◌, ◌≤◌, suc, List, ◌∷◌, length, map, Some, All, arith, rules}
use Rattle.crx_compact.proofs.Vocabulary.{SATELLITES_LIMIT, satellites_few, satellite_of}
use Rattle.crx_compact.proofs.Vocabulary.{ℕ, unwrap_or, same_Some, columns, IsRowRead, RowTail}
use Rattle.crx_compact.proofs.Vocabulary.{slice_get, slice_set, length-map, IsAnnounced, OpenHistory, common_steps}
use Rattle.crx_compact.specs.Placing.{HasAllowedCount}
use Rattle.std.proofs.Math.ListN.{get_or-map}

-- ---- they stay

-- another row of the same satellite
pub satellites-set : (rows : List RowTail) (place : ℕ) (row left : RowTail) → slice_get rows place ≡ Some row
    → left.name ≡ row.name → length left.cells ≡ length row.cells
    → map satellite_of (slice_set rows place left) ≡ map satellite_of rows
satellites-set (r ∷ rs) (suc place) row left there name sized =
    cc (satellites-set rs place row left there name sized)
satellites-set rows place row left there name sized = grind (arith, same_Some)

pub row-announced : (old new : OpenHistory) (place : ℕ) (line : List ℕ)
    → IsRowRead place line old.satellites new.satellites → new ≡ record old { satellites = new.satellites }
    → IsAnnounced old → IsAnnounced new
row-announced old new place line read same h = search (rules, satellite_of, satellites-set)

-- ---- their properties

-- each row has a number of cells that is allowed for the types of a system
pub rows-allowed : (history : OpenHistory) → IsAnnounced history → All HasAllowedCount history.satellites.rows
rows-allowed history h = grind (arith, common_steps, get_or-map satellite_of)

-- they are at most the satellites of an epoch
pub rows-few : (history : OpenHistory) → IsAnnounced history
    → length history.satellites.rows ≤ SATELLITES_LIMIT
rows-few history h = grind (arith, common_steps, unwrap_or, satellites_few, columns, length-map, satellite_of)
