-- The answers about a satellite that is to be added.
use Rattle.crx_compact.proofs.Vocabulary.{◌≡◌, slice_index_or, take, ℕ, ◌+◌, ◌<◌, ◌≤◌, Bool, true, false, List}
use Rattle.crx_compact.proofs.Vocabulary.{length, slice_get, refl}
use Rattle.crx_compact.proofs.Vocabulary.{Some, None, ap, arith, sym, rules, bytes_eq, is_among}
use Rattle.crx_compact.proofs.Vocabulary.{PlacedRows, RowTail}
use Rattle.crx_compact.proofs.placing.EntryChanges.{changed-is, enough-room, little-room}
use Rattle.crx_compact.proofs.placing.AddedRows.{come-anew, emptied, come-awaited}
use Rattle.crx_compact.proofs.placing.AddedRows.{is-new, repeated, unknown-no_row}
use Rattle.crx_compact.proofs.placing.EntryChanges.{shown-same}
use Rattle.crx_compact.proofs.placing.Rooms.{unknown}
use Rattle.std.proofs.{Common.{IsTrue, ◌↔◌, List, ◌∙◌, map, set, slice_get, subst, swap}}
use Rattle.std.proofs.lemmas.List.{length-map}
use Rattle.std.specs.{List.IsDistinct, Map.keys_of}
use Rattle.indexmap.proofs.ReorderLemmas.{map-swap}
use Rattle.crx_compact.proofs.placing.Orders.{apart-in_order, set-in_order, there-in_order}
use Rattle.crx_compact.proofs.placing.PutNext.{put-exchanged, revived-front, revived-there}
use Rattle.crx_compact.specs.Entries.{IsAt, IsOrder, entry_at, in_order, rooms_of}
use Rattle.indexmap.proofs.CallerLemmas.{keys-with_value_at}
use Rattle.indexmap.specs.{IndexMap.{IndexMap, IsUnique, set_value_at}, Layout.length-set_value_at}
use Rattle.crx_compact.specs.Entries.{Entry, IsPutNext, key_of, placed_rows}
use Rattle.crx_compact.specs.Placing.{AnswersPlacing, HasAskedRoom, HasCome, IsPlaced, SatelliteTail}
use Rattle.crx_compact.specs.Placing.{room_of_entry}

-- it isn't known
pub placed-unknown : {name : List ℕ} {count : ℕ} (placed live : ℕ) (os es : List Entry)
    → is_among key_of name os
    ≡ false → is_among key_of name es ≡ false
    → AnswersPlacing name count (placed_rows placed live os es) (placed_rows placed live os es) None
placed-unknown {name} {count} placed live os es absent none = search (rules, unknown-no_row, unknown)

module _ {S : Type 0} (m : IndexMap (List ℕ) SatelliteTail S) (unique : IsUnique bytes_eq m)
    {order places : List ℕ} (is : IsOrder order places (length m.entries)) (placed live : ℕ) {name : List ℕ}
    {index : ℕ} (at : IsAt name m.entries index) {place : ℕ}
    (stands : (slice_index_or order place 0 ≡ index) × (place < length m.entries)) where
  abbrev now : PlacedRows
  now = placed_rows placed live (in_order order m.entries) m.entries

  abbrev here : IsAt name (in_order order m.entries) place
  here = record {
    satellite = at.satellite;
    there = there-in_order m.entries is place _ stands.1 (ap (slice_get m.entries) stands.0 ∙ at.there);
  }

  apart : IsDistinct bytes_eq (keys_of (in_order order m.entries))
  apart = apart-in_order m.entries is unique

  -- it has a row already
  pub placed-again : {count : ℕ} → place < placed → AnswersPlacing name count now now (Some false)
  placed-again before =
      let os = in_order order m.entries in
      let again = repeated name placed live place os m.entries m.entries here before in
      grind (arith, again)

  module _ (behind : placed ≤ place) {count : ℕ} {has : Bool}
      (answer : (entry : Entry) → slice_get m.entries index ≡ Some entry
      → IsTrue has ↔ (count ≤ entry.1.room)) where
    new-here : is_among (λ (row : RowTail). row.name) name
        now.rows ≡ false
    new-here = is-new name placed live place (in_order order m.entries) m.entries m.entries here apart behind

    -- it has too little room
    pub placed-not : has ≡ false → AnswersPlacing name count now now None
    placed-not full = search (rules, new-here, little-room)

    -- it is added, and no satellite has less room
    come : has ≡ true → {new : PlacedRows} → new.rooms ≡ rooms_of m.entries
        → HasCome name now new → AnswersPlacing name count now new (Some true)
    come roomy rooms has-come =
        grind (arith, new-here, enough-room m index name at unique count has answer roomy)

    -- a satellite of the previous epoch is added
    pub placed-next : has ≡ true → place < live → {new : List Entry}
        → IsPutNext placed place (in_order order m.entries) new
        → AnswersPlacing name count now (placed_rows (placed + 1) live new m.entries) (Some true)
    placed-next roomy before {new} put = come roomy refl
        (come-awaited name placed live place _ m.entries m.entries here apart new behind before put)

    -- the same, by the order's exchange
    pub placed-exchanged : has ≡ true → place < live → {next : List ℕ} → next ≡ swap order place placed
        → AnswersPlacing name count now
        (placed_rows (placed + 1) live (in_order next m.entries) m.entries) (Some true)
    placed-exchanged roomy before {next} e =
        search (rules, placed-next, entry_at, map-swap, put-exchanged, length-map, apart)

    -- any other satellite is added
    pub placed-anew : has ≡ true → placed ≤ live → live ≤ place → {after : SatelliteTail}
        → after ≡ emptied at.satellite
        → {moved next others : List ℕ} → moved ≡ swap order place live
        → IsOrder moved others (length m.entries)
        → next ≡ swap moved live placed
        → AnswersPlacing name count now
        (placed_rows (placed + 1) (live + 1) (in_order next (set_value_at m.entries index after))
        (set_value_at m.entries index after)) (Some true)
    placed-anew roomy few beyond {after} empty {moved} {next} {others} e ordered f =
        let es = set_value_at m.entries index after in
        let blank : Entry = (name, after) in
        let changed : in_order order es ≡ set (in_order order m.entries) place blank =
        search (rules, changed-is, set-in_order) in
        let moved-is : in_order moved es ≡ swap (set (in_order order m.entries) place blank) place live =
        ap (map (entry_at es)) e ∙ map-swap _ order place live ∙ ap (λ o. swap o place live) changed in
        let long = length-set_value_at m.entries index after in
        let below : place < length (in_order order m.entries) =
        omega (arith, stands, is.counted, length-map order (entry_at m.entries)) in
        come roomy (shown-same room_of_entry m.entries index name at.satellite after at.there (cc empty))
        (come-anew name
        placed live place (in_order order m.entries) m.entries es here apart (in_order moved es)
        (in_order next es) few beyond
        (ap (λ o. slice_get o live) moved-is ∙ revived-there live place _ blank beyond below
        ∙ ap (λ (s : SatelliteTail). Some (name, s)) empty)
        (ap (take live) moved-is ∙ revived-front live place _ blank beyond below)
        (subst (IsPutNext placed live (in_order moved es))
        (sym (ap (map (entry_at es)) f ∙ map-swap _ moved live placed))
        (put-exchanged placed live (in_order moved es) few
        (omega (arith, stands, beyond, ordered.counted, length-map moved (entry_at es)))
        (apart-in_order es (subst (IsOrder moved others) (sym long) ordered)
        (subst (IsDistinct bytes_eq) (sym (keys-with_value_at m index after)) unique)))))

-- a satellite that had too little room is added after memory was reserved
pub placed-asked : {name : List ℕ} {count : ℕ} {old asked new : PlacedRows} {is_new : Bool}
    → is_among (λ (row : RowTail). row.name) name old.rows ≡ false → HasAskedRoom old asked
    → IsPlaced name count asked new is_new → IsPlaced name count old new is_new
placed-asked {name} {count} {old} {asked} {new} {is_new} absent same placed = grind arith
