-- An epoch line after which the satellites of the previous epoch have rows again: no mark is in the columns of their identifiers.
use Rattle.crx_compact.proofs.Vocabulary.{rules, ◌≡◌, ◌≤◌, ◌+◌, ◌*◌, ℕ, List, [], ◌∷◌, Some, All, length, map}
use Rattle.crx_compact.proofs.Vocabulary.{sym, refl, replicate, subst, length-map, HEAD_WIDTH, NAME_WIDTH}
use Rattle.crx_compact.proofs.Vocabulary.{at, columns, patched, at-without_end_blanks}
use Rattle.crx_compact.proofs.Vocabulary.{columns-are, length-columns, Count, types_of_satellite}
use Rattle.crx_compact.proofs.Vocabulary.{IsAwaitedSatellite, Satellite, names_in, satellites_named}
use Rattle.crx_compact.proofs.Vocabulary.{PlacedRows, padded_among, satellite_of, RowTail, All-head, All-tail}
use Rattle.crx_compact.proofs.{Vocabulary.each_place-same, EpochLines.named-again, wayback.Overlays.at_past}
use Rattle.crx_compact.proofs.{PlaceByPlace.{at-padded, at-take}, Characters.at-by_position}
use Rattle.crx_text.proofs.Characters.{at-drop}
use Rattle.std.proofs.lemmas.List.Elements.{All-map}
use Rattle.crx_compact.specs.EpochLinesRead.{AreSatellitesRead, HaveComeAgain, IsAgain}
use Rattle.crx_compact.specs.RowsSoFar.{NamesSatellites}

-- after the marks the text stays
at-unmarked : (text line : List ℕ) (p : ℕ) → length line ≤ p → at (patched text line) p ≡ at text p
at-unmarked text line p behind = search (rules, at-without_end_blanks, at-by_position, at_past)

name-kept : (text line : List ℕ) (k : ℕ) → length line ≤ HEAD_WIDTH
    → columns (patched text line) (HEAD_WIDTH + 1 + NAME_WIDTH * k) NAME_WIDTH
    ≡ columns text (HEAD_WIDTH + 1 + NAME_WIDTH * k) NAME_WIDTH
name-kept text line k short =
    let first = HEAD_WIDTH + 1 + NAME_WIDTH * k in
    columns-are (patched text line) first 3 (columns text first 3) (length-columns text first 3) (λ p less.
    search (rules, at-unmarked, at-take, replicate, at-padded, at-drop))

pub named-kept : (text line : List ℕ) (satellites : List Satellite) → length line ≤ HEAD_WIDTH
    → NamesSatellites text satellites → NamesSatellites (patched text line) satellites
named-kept text line satellites short named = search (rules, each_place-same, name-kept)

own-rows : (types : List Count) (before : PlacedRows) (rows : List RowTail) → All (IsAgain types before) rows
    → map (padded_among before.rest) (map satellite_of rows) ≡ rows
own-rows types before [] again = refl
own-rows types before (row ∷ rows) again =
    let first = All-head (IsAgain types before) row rows again in
    cc (first.own, own-rows types before rows (All-tail (IsAgain types before) row rows again))

pub read-again : (types : List Count) (text : List ℕ) (count : ℕ) (old new : PlacedRows)
    → HaveComeAgain types old new → count ≡ length old.rest → NamesSatellites text (map satellite_of old.rest)
    → All IsAwaitedSatellite (map satellite_of old.rest)
    → AreSatellitesRead (satellites_named types [] (names_in text count)) old new
read-again types text count old new come counted named awaited =
    let typed =
    All-map (λ (s : Satellite). types_of_satellite types s.name ≡ Some s.count) satellite_of old.rest
    (λ i d within. (come.again i d within).typed) in
    search (rules, length-map, named-again, own-rows types old old.rest come.again)
