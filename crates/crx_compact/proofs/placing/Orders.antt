-- The entries of a map in an order of their indices.
use Rattle.std.proofs.Common.{◌≡◌, ℕ, ◌+◌, ◌<◌, false, List, [], ◌∷◌, ◌++◌, length, set}
use Rattle.std.proofs.Common.{slice_get, get_or, Some, option_map, ap, sym, ◌∙◌, arith, length-set}
use Rattle.std.proofs.lemmas.List.{ext_get_or, get_or-map, get_or-set_other, get_or-set_same}
use Rattle.std.proofs.lemmas.List.{get_or_append_left, length-append, length-map}
use Rattle.std.proofs.lemmas.List.Folds.{list_any_at, list_any_none}
use Rattle.std.proofs.lemmas.Grind.{common_steps}
use Rattle.std.proofs.lemmas.Map.Keys.{IsDistinct-from_apart, apart_from_distinct}
use Rattle.std.proofs.lemmas.Option.{get_or_from_slice_get, slice_get-get_or, slice_get-map, slice_get_within}
use Rattle.std.specs.{Str.bytes_eq, List.IsDistinct, Map.keys_of}
use Rattle.crx_header.specs.meaning.Satellites.{is_among}
use Rattle.crx_header.proofs.OtherIdentifiers.{other_way}
use Rattle.crx_compact.specs.Entries.{Entry, IsAt, IsOrder, entry_at, in_order, key_of}
use Rattle.std.proofs.Common.{rules}

pub place-is : {order places : List ℕ} {es : List Entry} {name : List ℕ} {index place : ℕ}
    → IsOrder order places (length es) → IsAt name es index → place ≡ get_or places index 0
    → (get_or order place 0 ≡ index) × (place < length es)
place-is {order} {places} {es} {name} {index} is at e =
    let below = slice_get_within es index (name, at.satellite) at.there in
    (ap (λ n. get_or order n 0) e ∙ is.back index below, rw e (is.place index below))

module _ {order places : List ℕ} (es : List Entry) (is : IsOrder order places (length es)) where
  pub length-in_order : length (in_order order es) ≡ length es
  length-in_order = length-map order (entry_at es) ∙ is.counted

  pub there-in_order : (place : ℕ) (e : Entry) → place < length es
      → slice_get es (get_or order place 0) ≡ Some e
      → slice_get (in_order order es) place ≡ Some e
  there-in_order place e within there =
      search (rules, slice_get-map, entry_at, option_map, slice_get-get_or, get_or_from_slice_get)

  -- a satellite that isn't known isn't among them
  pub none-in_order : (name : List ℕ) → is_among key_of name es ≡ false
      → is_among key_of name (in_order order es) ≡ false
  none-in_order name none =
      list_any_none (λ (e : Entry). bytes_eq (key_of e) name) (in_order order es) (λ i d less.
      let below = is.index i (omega (arith, less, length-in_order)) in
      let test = λ (e : Entry). bytes_eq (key_of e) name in
      let at = list_any_at test es (get_or order i 0) (entry_at [] 0) below in
      grind (arith, none, at, get_or-map (entry_at es) order i 0 d, length-map order (entry_at es)))

  -- no two of them have one identifier
  pub apart-in_order : IsDistinct bytes_eq (keys_of es) → IsDistinct bytes_eq (keys_of (in_order order es))
  apart-in_order apart = IsDistinct-from_apart bytes_eq (keys_of (in_order order es)) (λ i j d less within.
      let counted : length (keys_of (in_order order es)) ≡ length es =
      length-map (in_order order es) key_of ∙ length-in_order in
      let one = get_or order i 0 in
      let other = get_or order j 0 in
      let key : (k : ℕ) → k < length es → get_or (keys_of (in_order order es)) k d
      ≡ get_or (keys_of es) (get_or order k 0) d = λ k below.
      let one = get_or-map key_of (in_order order es) k (entry_at es 0) d in
      let two = get_or-map (entry_at es) order k 0 (entry_at es 0) in
      let three = get_or-map key_of es (get_or order k 0) in
      grind (arith, one, two, three, is.index k below, is.counted, length-in_order) in
      let far : one ≡ other → ⊥ = grind arith in
      let keys : length (keys_of es) ≡ length es = length-map es key_of in
      let forth = apart_from_distinct bytes_eq (keys_of es) one other d apart in
      let back = apart_from_distinct bytes_eq (keys_of es) other one d apart in
      let turned = other_way (get_or (keys_of es) other d) (get_or (keys_of es) one d) in
      grind (arith, counted, far, forth, back, turned, key i, key j))

  -- another entry at an index is in the index's place
  pub set-in_order : (place : ℕ) (e : Entry) → place < length es
      → in_order order (set es (get_or order place 0) e)
      ≡ set (in_order order es) place e
  set-in_order place e within =
      let new = set es (get_or order place 0) e in
      let long = length-map order (entry_at es) in
      ext_get_or e (in_order order new) (set (in_order order es) place e)
      (length-map order (entry_at new) ∙ sym (length-set (in_order order es) place e ∙ long)) (λ q less.
      let below : q < length order = omega (arith, less, length-map order (entry_at new)) in
      let one = get_or-map (entry_at new) order q 0 e below in
      let two = get_or-map (entry_at es) order q 0 e below in
      let forth = is.forth q (omega (arith, below, is.counted)) in
      grind (arith, get_or-set_same, get_or-set_other, is.index place within, is.counted))

-- one more index is after the others
pub more-ordered : (order places : List ℕ) (count : ℕ) → IsOrder order places count
    → IsOrder (order ++ count ∷ []) (places ++ count ∷ []) (count + 1)
more-ordered order places count is = grind (arith, common_steps, get_or_append_left, length-append)
