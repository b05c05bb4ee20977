use Rattle.crx_compact.proofs.Vocabulary.{◌≡◌, All, List, map, IsAwaitedSatellite, Satellite}
use Rattle.crx_compact.proofs.Vocabulary.{names_in, padded_among}
use Rattle.crx_compact.proofs.{RowsByHistory.AreAwaited, Naming.NamedSoFar}
use Rattle.crx_compact.proofs.history.read_names.Given as goal

abbrev pub invariant-loop-index : goal.invariant-loop-index
invariant-loop-index l = (found : List Satellite)
    × NamedSoFar l.types (names_in l.text l.count) l.index found
    × (l.satellites.rows ≡ map (padded_among l.fn.satellites.rest) found)
    × AreAwaited (λ (s : Satellite). s.name) found l.fn.satellites.rest l.satellites.rest
    × All IsAwaitedSatellite found
