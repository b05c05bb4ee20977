-- The satellites of the previous epoch have rows again.
use Rattle.crx_compact.proofs.Vocabulary.{◌≡◌, ℕ, ◌<◌, ◌≤◌, List, [], Some, length, take, sym}
use Rattle.crx_compact.proofs.Vocabulary.{arith, refl, subst, bytes_eq, Count, satellite_of, RowTail}
use Rattle.crx_compact.proofs.{Characters.length-is, RowByRow.all-at}
use Rattle.crx_compact.proofs.placing.Orders.{apart-in_order, length-in_order, there-in_order}
use Rattle.crx_compact.proofs.{placing.EntryChanges.room-here, placing.Ranges.{found-in_range, named-map}}
use Rattle.crx_compact.proofs.placing.SteppedRows.{among-placed, row-at, row-here, rows-counted, rows_of}
use Rattle.std.proofs.{lemmas.Option.{get_or_from_slice_get, slice_get-map}, lemmas.Grind.common_steps}
use Rattle.std.proofs.Common.{All, get_or, map, slice_get, true}
use Rattle.indexmap.specs.IndexMap.{IndexMap, IsUnique}
use Rattle.crx_compact.specs.Entries.{Entry, IsOrder, KeepsTypes, in_order, placed_rows}
use Rattle.crx_compact.specs.HeldRows.{IsAwaitedSatellite}
use Rattle.crx_compact.specs.EpochLinesRead.{HaveComeAgain, IsAgain}
use Rattle.crx_compact.specs.Placing.{SatelliteTail, row_of_entry}
use Rattle.crx_header.specs.meaning.ObservationTypes.{count_of}
use Rattle.crx_header.specs.meaning.Satellites.{is_identifier, types_of_satellite}

-- if there are no rows, no satellite is placed
pub none-placed : (placed live : ℕ) {order places : List ℕ} (es : List Entry)
    → (placed ≤ live) × (live ≤ length es) × IsOrder order places (length es)
    → rows_of placed (in_order order es) ≡ [] → placed ≡ 0
none-placed placed live {order} es is none =
    grind (arith, rows-counted placed (in_order order es), length-in_order es is.2)

-- an identifier's system is known by its letter
pub typed-named : (types : List Count) (name : List ℕ) → is_identifier name ≡ true
    → types_of_satellite types name ≡ count_of types (get_or name 0 0)
typed-named types name named = grind (arith, common_steps, types_of_satellite, is_identifier, length-is)

-- a satellite of the previous epoch has a well-formed identifier
pub named-before : (live : ℕ) (es : List Entry) → All IsAwaitedSatellite (map satellite_of (rows_of live es))
    → (index : ℕ) (e : Entry) → index < live → live ≤ length es → slice_get es index ≡ Some e
    → is_identifier e.0 ≡ true
named-before live es awaited index e less all there =
    let row = row-at live (subst (λ n. index < n) (sym (rows-counted live es all)) less) there in
    (all-at IsAwaitedSatellite (map satellite_of (rows_of live es)) index (satellite_of (row_of_entry e))
    awaited (cc (slice_get-map satellite_of (rows_of live es) index, row.there))).named

module _ {S : Type 0} (m : IndexMap (List ℕ) SatelliteTail S) (unique : IsUnique bytes_eq m)
    {order places : List ℕ} (is : IsOrder order places (length m.entries)) (types : List Count) (live : ℕ)
    (within : live ≤ length m.entries)
    (kept : (place : ℕ) → place < live → KeepsTypes types order place m.entries) where
  one-again : (i : ℕ) → i < live → (k : KeepsTypes types order i m.entries)
      → IsAgain types (placed_rows 0 live (in_order order m.entries) m.entries) (row_of_entry k.entry)
  one-again i less k =
      let e = k.entry in
      let os = in_order order m.entries in
      let found = found-in_range 0 live os i e (apart-in_order m.entries is unique)
      (there-in_order m.entries is i e (omega (arith, less, within)) k.there) (omega arith) less in
      let named = named-map (λ (row : RowTail). row.name) row_of_entry e.0 (take live os) in
      grind (arith, k.typed, k.own, found, named)

  pub come-again : HaveComeAgain types (placed_rows 0 live (in_order order m.entries) m.entries)
      (placed_rows live live (in_order order m.entries) m.entries)
  come-again = record {
    rows = refl;
    again = λ i d less.
        let below = among-placed live i (in_order order m.entries) less in
        let at = row-here m.entries is live less refl (kept i below).there in
        grind (arith, get_or_from_slice_get _ i _ d at.there, one-again i below (kept i below));
  }
