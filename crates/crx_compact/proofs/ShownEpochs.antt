-- The epoch that a history shows, row by row.
use Rattle.crx_compact.proofs.Vocabulary.{◌≡◌, slice_get, length-map, map-append, Satellite}
use Rattle.crx_compact.proofs.Vocabulary.{ℕ, List, take, Some, None, true, Result, arith, Fault}
use Rattle.crx_compact.proofs.Vocabulary.{◌==◌, [], Ok, ℤ, ◌+◌, ◌∷◌, Tail, Row}
use Rattle.crx_compact.proofs.Vocabulary.{◌<◌, length, Option, is_ok, take_all, BadEpoch, with_row, shown_row}
use Rattle.crx_compact.proofs.Vocabulary.{false, slice_get_within, length-take-le, tail_of_history}
use Rattle.crx_compact.proofs.Vocabulary.{has_satellite, satellite_of}
use Rattle.crx_compact.proofs.Vocabulary.{epoch_count, RowTail, shown_epoch, IsAnnounced, OpenHistory}
use Rattle.crx_compact.proofs.{Vocabulary.{is_some, begun, is_full_epoch, among-map, apart-map, new_at}}
use Rattle.crx_compact.proofs.{OneByOne.taken_more}
use Rattle.std.proofs.lemmas.Option.{get_or_from_slice_get}
use Rattle.std.specs.Prelude.{MatchResult}
use Rattle.crx_rinex.specs.meaning.EpochLines.{ObservationHead}

-- ---- the clock line

module _ (line : Result ObservationHead Fault) (head : List ℕ) (clock : Option ℤ)
    (h : MatchResult line (λ (l : ObservationHead). (epoch_count head ≡ Some l.count)
    × (l.head ≡ head) × (l.clock ≡ clock)) (λ fault. (epoch_count head ≡ None) × (fault ≡ BadEpoch))) where
  pub line-made : is_some (epoch_count head) ≡ true → is_ok line ≡ true
  line-made e = grind arith

  pub made-line : {l : ObservationHead} → line ≡ Ok l
      → begun l ≡ record { head = head; clock = clock; rows = [] }
  made-line e = grind arith

-- ---- rows

-- the row at an index follows those before it
pub record IsRowShown (next : Tail) (place : ℕ) (tail : RowTail) : Type 0 where
  pub new : has_satellite tail.name (shown_epoch next place).rows ≡ false
  pub wanted : is_full_epoch (shown_epoch next place) ≡ false
  pub with : with_row (shown_epoch next place) (shown_row tail) ≡ shown_epoch next (place + 1)

differ : (a b : ℕ) → a < b → (a == b) ≡ false
differ a b h = grind (arith, h)

pub row-shown : (history : OpenHistory) (index : ℕ) (row : RowTail) → IsAnnounced history
    → slice_get history.satellites.rows index ≡ Some row → IsRowShown (tail_of_history history) index row
row-shown history index row h there =
    let rows = history.satellites.rows in
    let inside = slice_get_within rows index row there in
    let apart = apart-map (λ (s : Satellite). s.name) satellite_of rows in
    let all = take_all (length rows) rows (omega arith) in
    let new = new_at (λ (r : RowTail). r.name) (length rows) rows index row (cc h.announced.apart) inside
    inside in
    let there_is = get_or_from_slice_get rows index row row there in
    record {
      new = cc (among-map (λ (r : Row). r.name) shown_row row.name (take index rows), there_is);
      wanted = grind (arith, differ, length-map, length-take-le);
      with = cc (taken_more rows index row there, map-append shown_row (take index rows) (row ∷ []));
    }
