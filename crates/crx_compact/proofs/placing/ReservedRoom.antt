-- A satellite gets more room, and no row changes.
use Rattle.crx_compact.proofs.Vocabulary.{take-take, length-take-le, slice_index_or}
use Rattle.std.proofs.Common.{◌≡◌, ℕ, suc, ◌<◌, ◌≤◌, List, [], ◌∷◌, length, map, take, drop, slice_get, Some}
use Rattle.std.proofs.{Common.{arith, refl}, Math.ListN.get_or-map}
use Rattle.std.proofs.{lemmas.List.{drop-map, get_or-take, length-take, take-map}}
use Rattle.std.proofs.lemmas.Grind.{common_steps}
use Rattle.indexmap.specs.IndexMap.{set_value_at}
use Rattle.crx_compact.specs.Entries.{Entry, IsOrder, entry_at, in_order}
use Rattle.crx_compact.specs.Placing.{HasAskedRoom, PlacedRows, SatelliteTail, row_of_entry}
use Rattle.crx_compact.proofs.placing.EntryChanges.{shown-same}

-- an entry that shows the same row changes no row
pub rows-same : (es : List Entry) (i : ℕ) (name : List ℕ) (before after : SatelliteTail)
    → slice_get es i ≡ Some (name, before) → after.flags ≡ before.flags → after.cells ≡ before.cells
    → map row_of_entry (set_value_at es i after) ≡ map row_of_entry es
rows-same es i name before after there flags cells =
    shown-same row_of_entry es i name before after there (cc (flags, cells))

-- the first entries show the same as before
pub rows-before : (es known new : List Entry) → take (length es) known ≡ es
    → map row_of_entry new ≡ map row_of_entry known
    → take (length es) (map row_of_entry new) ≡ map row_of_entry es
rows-before es known new front same = cc (front, same, take-map row_of_entry (length es) known)

-- no entry is lost
pub none-lost : (old new : List Entry) → take (length old) new ≡ old → length old ≤ length new
none-lost old new is = grind (arith, common_steps, length-take)

rows-front : (es new : List Entry)
    → take (length es) (map row_of_entry new) ≡ map row_of_entry es → (ks : List ℕ)
    → ((q : ℕ) → q < length ks → slice_index_or ks q 0 < length es)
    → map row_of_entry (in_order ks new) ≡ map row_of_entry (in_order ks es)
rows-front es new front [] below = refl
rows-front es new front (k ∷ ks) below =
    let d = row_of_entry (entry_at [] 0) in
    let taken = get_or-take (length es) (map row_of_entry new) k d (below 0 (omega arith)) in
    let one = get_or-map row_of_entry new k (entry_at [] 0) in
    let rest = rows-front es new front ks (λ q less. below (suc q) (omega (arith, less))) in
    cc (one, get_or-map row_of_entry es k (entry_at [] 0), taken, front, rest)

-- the rows of an order are those of the longer one that begins with it
module _ (order places longer : List ℕ) (es new : List Entry) (is : IsOrder order places (length es))
    (begins : take (length order) longer ≡ order)
    (front : take (length es) (map row_of_entry new) ≡ map row_of_entry es) where
  pub front-same : (count : ℕ) → count ≤ length es
      → map row_of_entry (take count (in_order longer new))
      ≡ map row_of_entry (take count (in_order order es))
  front-same count within =
      let front_is = rows-front es new front (take count order) in
      grind (
        arith,
        common_steps,
        take-take,
        row_of_entry,
        take-map,
        entry_at,
        front_is,
        length-take-le,
        get_or-take,
      )

  pub range-same : (placed live : ℕ) → live ≤ length es
      → map row_of_entry (drop placed (take live (in_order longer new)))
      ≡ map row_of_entry (drop placed (take live (in_order order es)))
  range-same placed live within = cc (drop-map _ placed _, front-same live within, drop-map _ placed _)

-- memory that was reserved twice
pub asked-more : {one two three : PlacedRows} → HasAskedRoom one two → HasAskedRoom two three
    → HasAskedRoom one three
asked-more first next = grind (arith, common_steps)
