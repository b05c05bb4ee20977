-- A satellite is added: the rows so far, and those without one yet, by the entries of the map.
use Rattle.crx_compact.proofs.Vocabulary.{◌≡◌, ℕ, ◌+◌, ◌<◌, ◌≤◌, Bool, true, false, List, [], ◌∷◌, ◌++◌}
use Rattle.crx_compact.proofs.Vocabulary.{map, take, drop, slice_get, Some, option_map}
use Rattle.crx_compact.proofs.placing.Ranges.{among-up_to, found-in_range, named-map, none-named, not-before}
use Rattle.crx_compact.proofs.Vocabulary.{◌∙◌, arith, bytes_eq, map-append, take-take, is_among, RowTail}
use Rattle.crx_compact.proofs.placing.Ranges.{rest-one_more}
use Rattle.std.specs.{List.IsDistinct, Map.keys_of}
use Rattle.std.proofs.{lemmas.Bool.or_parts, lemmas.Grind.common_steps}
use Rattle.std.proofs.{lemmas.List.{take-append-drop, Folds.list_any-append}}
use Rattle.crx_header.proofs.OtherIdentifiers.{among-map, other_way}
use Rattle.crx_compact.specs.meaning.Sequences.{named}
use Rattle.crx_compact.specs.Entries.{Entry, IsAt, IsPutNext, key_of, placed_rows}
use Rattle.crx_compact.specs.Placing.{HasCome, SatelliteTail, row_tail_named, row_of_entry}

-- its history is dropped
abbrev pub emptied : SatelliteTail → SatelliteTail
emptied satellite = record satellite { flags = []; cells = [] }

abbrev pub has_row : List ℕ → List RowTail → Bool
has_row name rows = is_among (λ (row : RowTail). row.name) name rows

among-rows : (name : List ℕ) (es : List Entry) → has_row name (map row_of_entry es) ≡ is_among key_of name es
among-rows name es = among-map (λ (row : RowTail). row.name) row_of_entry name es

-- a satellite that isn't known has no row
pub unknown-no_row : (name : List ℕ) (count : ℕ) (es : List Entry) → is_among key_of name es ≡ false
    → has_row name (map row_of_entry (take count es)) ≡ false
unknown-no_row name count es h =
    let all = take-append-drop count es in
    grind (arith, common_steps, list_any-append, all, or_parts, among-rows name (take count es))

module _ (name : List ℕ) (placed live found : ℕ) (os es fs : List Entry) (at : IsAt name os found) where
  -- it has a row already
  pub repeated : found < placed → has_row name (map row_of_entry (take placed os)) ≡ true
  repeated before = among-rows name _ ∙ among-up_to placed os found (name, at.satellite) at.there before

  module _ (apart : IsDistinct bytes_eq (keys_of os)) where
    -- it has no row yet
    pub is-new : placed ≤ found → has_row name (map row_of_entry (take placed os)) ≡ false
    is-new behind = among-rows name _ ∙ not-before placed os found (name, at.satellite) apart at.there behind

    rows-more : (entry : Entry) (new : List Entry) → take (placed + 1) new ≡ take placed os ++ entry ∷ []
        → map row_of_entry (take (placed + 1) new)
        ≡ map row_of_entry (take placed os) ++ row_of_entry entry ∷ []
    rows-more entry new e = grind (arith, common_steps, row_of_entry, map-append)

    -- a search among rows is a search among their entries
    by-entries : (other : List ℕ) (es fs : List Entry) → named key_of other es ≡ named key_of other fs
        → row_tail_named other (map row_of_entry es) ≡ row_tail_named other (map row_of_entry fs)
    by-entries other es fs e = grind (arith, common_steps, named-map, row_of_entry, option_map)

    -- a satellite of the previous epoch is added
    pub come-awaited : (new : List Entry) → placed ≤ found → found < live → IsPutNext placed found os new
        → HasCome name (placed_rows placed live os es) (placed_rows (placed + 1) live new fs)
    come-awaited new behind before put =
        let in_range =
        found-in_range placed live os found (name, at.satellite) apart at.there behind before in
        let named = named-map (λ (row : RowTail). row.name) row_of_entry name (drop placed (take live os)) in
        let more = rows-more (name, at.satellite) new (put.come (name, at.satellite) at.there) in
        record {
          rows = grind (arith, in_range, named, more);
          others = λ other differs. by-entries other _ _ (put.others live (name, at.satellite) other before
              at.there (other_way other name differs));
        }

    -- any other satellite is added
    pub come-anew : (revived new : List Entry) → placed ≤ live → live ≤ found → slice_get revived live
        ≡ Some (name, emptied at.satellite) → take live revived ≡ take live os
        → IsPutNext placed live revived new
        → HasCome name (placed_rows placed live os es) (placed_rows (placed + 1) (live + 1) new fs)
    come-anew revived new few behind there front put =
        let blank : Entry = (name, emptied at.satellite) in
        let none = none-named key_of name placed (take live os)
        (not-before live os found (name, at.satellite) apart at.there behind) in
        let named = named-map (λ (row : RowTail). row.name) row_of_entry name (drop placed (take live os)) in
        let first = take-take placed live revived few in
        let second = take-take placed live os few in
        record {
          rows = grind (arith, named, none, first, second, rows-more blank new, put.come blank there);
          others = λ other differs.
              let apart-from : bytes_eq name other ≡ false = other_way other name differs in
              let next = put.others (live + 1) blank other (omega arith) there apart-from in
              let more = rest-one_more placed live revived blank other few there apart-from in
              by-entries other _ _ (grind (arith, next, more, front));
        }
