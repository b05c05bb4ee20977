-- The history of one satellite with a row changes: so does its row, and no other.
use Rattle.crx_compact.proofs.CellsFor.{cell-there, each_place-below}
use Rattle.crx_compact.proofs.Vocabulary.{◌≡◌, ℕ, suc, ◌-◌, ◌<◌, ◌≤◌, List, [], ◌∷◌, ◌++◌, length, map, take}
use Rattle.crx_compact.proofs.Vocabulary.{slice_get, drop, Option, Some, ap, sym, ◌∙◌, arith, slice_set}
use Rattle.crx_compact.proofs.Vocabulary.{slice_index_or, bytes_eq, length-map, length-take-le, same_Some, subst}
use Rattle.crx_compact.proofs.Vocabulary.{slice_get-map, ArcTail}
use Rattle.crx_compact.proofs.Vocabulary.{HasRoom, PlacedRows, RowTail, row_or_blank, HasCome}
use Rattle.crx_compact.proofs.{RowsByHistory.come-name, placing.LookUps.at-seam}
use Rattle.crx_compact.proofs.placing.Orders.{set-in_order, there-in_order}
use Rattle.std.proofs.Common.{set, ℤ}
use Rattle.crx_compact.proofs.placing.EntryChanges.{changed-is, room-there, shown-same}
use Rattle.std.proofs.{Math.Seq.{take-set-lt, set-append_seam}, lemmas.Grind.common_steps}
use Rattle.std.proofs.lemmas.List.{drop-set-lt, map-set, length-take, length-append}
use Rattle.crx_compact.specs.Cells.{arcs_of_cells, codes_of_cells}
use Rattle.crx_compact.specs.Entries.{Entry, IsOrder, in_order, placed_rows}
use Rattle.crx_compact.specs.Placing.{IsLeftAt, IsStoredAt, SatelliteTail, cells_for, room_of_entry}
use Rattle.crx_compact.specs.Placing.{row_tail_of, row_of_entry}
use Rattle.indexmap.specs.{IndexMap.{IndexMap, IsUnique, set_value_at}}

pub get-take : {X : Type 0} (n i : ℕ) (xs : List X) → i < n → slice_get (take n xs) i ≡ slice_get xs i
get-take (suc n) (suc i) (x ∷ xs) within = get-take n i xs (omega (arith, within))
get-take n i xs within = grind arith

abbrev pub rows_of : ℕ → List Entry → List RowTail
rows_of placed es = map row_of_entry (take placed es)

-- the number of rows is the number of satellites with one
pub rows-counted : (placed : ℕ) (es : List Entry) → placed ≤ length es → length (rows_of placed es) ≡ placed
rows-counted placed es within = length-map (take placed es) row_of_entry ∙ length-take-le placed es within

pub among-placed : (placed i : ℕ) (es : List Entry) → i < length (rows_of placed es) → i < placed
among-placed placed i es within = grind (arith, common_steps, length-map, row_of_entry, length-take)

pub row-below : (placed : ℕ) {i : ℕ} (order : List ℕ) (es : List Entry) → i < length (rows_of placed
    (in_order order es))
    → length order ≡ length es → i < length es
row-below placed order es within counted = grind (arith, common_steps, length-map, row_of_entry, length-take)

pub record IsRowAt (placed i : ℕ) (es : List Entry) (e : Entry) : Type 0 where
  pub below : i < placed
  pub there : slice_get (rows_of placed es) i ≡ Some (row_of_entry e)
  pub is : (row : RowTail) → slice_get (rows_of placed es) i ≡ Some row → row_of_entry e ≡ row

pub row-at : (placed : ℕ) {i : ℕ} {es : List Entry} {e : Entry} → i < length (rows_of placed es)
    → slice_get es i ≡ Some e → IsRowAt placed i es e
row-at placed {i} {es} {e} within entry = grind (arith, common_steps, slice_get-map, get-take)

pub row-here : {order places : List ℕ} (es : List Entry) → IsOrder order places (length es)
    → (placed : ℕ) {i : ℕ}
    {index : ℕ} {e : Entry} → i < length (rows_of placed (in_order order es))
    → index ≡ slice_index_or order i 0
    → slice_get es index ≡ Some e → IsRowAt placed i (in_order order es) e
row-here {order} es is placed {i} within same there = row-at placed within (there-in_order es is i _
    (row-below placed order es within is.counted) (ap (slice_get es) (sym same) ∙ there))

-- ---- the history of the satellite at a place changes

module _ {S : Type 0} (m : IndexMap (List ℕ) SatelliteTail S) {order places : List ℕ}
    (is : IsOrder order places (length m.entries)) (placed live : ℕ) {i index : ℕ} {name : List ℕ}
    {before : SatelliteTail} (within : i < length (rows_of placed (in_order order m.entries)))
    (same : index ≡ slice_index_or order i 0) (there : slice_get m.entries index ≡ Some (name, before)) where
  pub stored-at : IsUnique bytes_eq m
      → IsStoredAt i (placed_rows placed live (in_order order m.entries) m.entries) before
  stored-at unique = record {
    name = name;
    there = (row-here m.entries is placed within same there).there;
    room = room-there m index name before before unique there;
  }

  module _ (after : SatelliteTail) where
    changed : in_order order (set_value_at m.entries index after) ≡ set (in_order order m.entries) i
        (name, after)
    changed = ap (in_order order) (changed-is m.entries index name before after there)
        ∙ ap (λ k. in_order order (set m.entries k (name, after))) same ∙ set-in_order m.entries is i
        (name, after) (row-below placed order m.entries within is.counted)

    -- only its row changes
    pub left-at : placed ≤ live
        → IsLeftAt i (placed_rows placed live (in_order order m.entries) m.entries) before after
        (placed_rows placed live (in_order order (set_value_at m.entries index after)) (set_value_at
        m.entries index after))
    left-at few roomy other row =
        let os = in_order order m.entries in
        let below = among-placed placed i _ within in
        let own = (row-here m.entries is placed within same there).is _ row in
        let rows : rows_of placed (in_order order (set_value_at m.entries index after))
        ≡ slice_set (rows_of placed os) i (row_tail_of name after) =
        ap (rows_of placed) changed
        ∙ grind (arith, common_steps, row_of_entry, take-set-lt, among-placed, map-set) in
        let rest = ap (λ es. map row_of_entry (drop placed (take live es))) changed
        ∙ ap (λ es. map row_of_entry (drop placed es)) (take-set-lt live os i (name, after)
        (omega (arith, few, below)))
        ∙ ap (map row_of_entry) (drop-set-lt placed (take live os) i (name, after) below) in
        let rooms = shown-same room_of_entry m.entries index name before after there (cc roomy) in
        cc (rows, rest, rooms, ap (λ (r : RowTail). r.name) own)

-- ---- the satellite of the last row

last-is : {X : Type 0} (xs ys : List X) (x y : X) (i : ℕ) → xs ≡ ys ++ y ∷ [] → i ≡ length xs - 1
    → (slice_get xs i ≡ Some y) × (slice_set xs i x ≡ ys ++ x ∷ [])
last-is xs ys x y i e is =
    grind (arith, common_steps, length-append ys (y ∷ []), at-seam ys, set-append_seam ys y)

pub last-within : (name : List ℕ) (before come : PlacedRows) (place : ℕ) → HasCome name before come
    → place ≡ length come.rows - 1 → place < length come.rows
last-within name before come place has last =
    omega (arith, last, ap length has.rows, length-append before.rows (row_or_blank name before.rest ∷ []))

-- its history is the row of the previous epoch, or empty; if it changes, so does the last row
pub record IsLastStored (name : List ℕ) (place : ℕ) (before come : PlacedRows) (satellite : SatelliteTail)
    : Type 0 where
  pub is : row_tail_of name satellite ≡ row_or_blank name before.rest
  pub room : (count : ℕ) → HasRoom name count come.rooms → count ≤ satellite.room
  pub left : (left : SatelliteTail) (new : PlacedRows) → IsLeftAt place come satellite left new
      → left.room ≡ satellite.room → new ≡ record come { rows = before.rows ++ row_tail_of name left ∷ [] }

pub come-stored : (name : List ℕ) (place : ℕ) (before come : PlacedRows) (satellite : SatelliteTail)
    → HasCome name before come → place ≡ length come.rows - 1 → IsStoredAt place come satellite
    → IsLastStored name place before come satellite
come-stored name place before come satellite has last stored =
    let kept = row_or_blank name before.rest in
    let same : row_tail_of stored.name satellite ≡ kept = same_Some _ _
    (sym stored.there ∙ (last-is come.rows before.rows kept kept place has.rows last).0) in
    let named : stored.name ≡ name = ap (λ (r : RowTail). r.name) same ∙ come-name name before.rest in
    record {
      is = ap (λ n. row_tail_of n satellite) (sym named) ∙ same;
      room = λ count room. stored.room count (subst (λ n. HasRoom n count come.rooms) (sym named) room);
      left = λ left new at roomy.
          at roomy name (subst (λ n. slice_get come.rows place ≡ Some (row_tail_of n satellite)) named
          stored.there)
          ∙ ap (λ rs. record come { rows = rs })
          (last-is come.rows before.rows (row_tail_of name left) kept place has.rows last).1;
    }

-- ---- a row that is written

-- the satellite first gets the row's number of types
pub arcs-marked : (cells : List (Option ArcTail)) (values : List (Option ℤ))
    → arcs_of_cells (cells_for (length values) cells) values ≡ arcs_of_cells cells values
arcs-marked cells values = grind (arith, each_place-below, cell-there)

pub codes-marked : (cells : List (Option ArcTail)) (values : List (Option ℤ))
    → codes_of_cells (cells_for (length values) cells) values ≡ codes_of_cells cells values
codes-marked cells values = grind (arith, each_place-below, cell-there)
