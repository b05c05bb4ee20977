-- After an epoch line the rows are those of the satellites that its text announces.
use Rattle.crx_compact.proofs.Vocabulary.{◌≡◌, [], ◌∷◌, ℕ, List, All, Ok, map, refl}
use Rattle.crx_compact.proofs.Vocabulary.{patched, length-each_place, Count}
use Rattle.crx_compact.proofs.Vocabulary.{IsAwaitedSatellite, past_of_tail, satellites_of_line}
use Rattle.crx_compact.proofs.Vocabulary.{Satellite, IsAnnounced, OpenHistory, padded_among, satellite_of}
use Rattle.crx_compact.proofs.Vocabulary.{RowTail, Tail, arith}
use Rattle.crx_compact.proofs.EpochLines.{announced, named-by_line}

pub satellites-again : (before : List RowTail) (satellites : List Satellite)
    → map satellite_of (map (padded_among before) satellites) ≡ satellites
satellites-again before [] = refl
satellites-again before (s ∷ ss) = grind (arith, length-each_place, satellites-again before ss)

pub announced-rows : (types : List Count) (before : Tail) (line : List ℕ) (satellites : List Satellite)
    (history : OpenHistory) → satellites_of_line types (past_of_tail before) line ≡ Ok satellites
    → history.text ≡ patched before.text line
    → history.satellites.rows ≡ map (padded_among before.rows) satellites
    → All IsAwaitedSatellite satellites → IsAnnounced history
announced-rows types before line satellites history read text rows sound =
    let one = announced types before line satellites read in
    let two = named-by_line types before line satellites read in
    grind (arith, satellites-again before.rows satellites, one, two)
