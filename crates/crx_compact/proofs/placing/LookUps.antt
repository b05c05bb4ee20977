-- A satellite is found by its identifier, or added after the others.
use Rattle.std.proofs.Common.{◌≡◌, ℕ, List, [], ◌∷◌, ◌++◌, length, slice_get, get_or, position}
use Rattle.std.proofs.Common.{Option, Some, None, IfSome, is_some, refl, sym, ◌∙◌, arith}
use Rattle.std.proofs.{Common.{Bool, false}, lemmas.Slice.Eq.bytes_eq-Decides}
use Rattle.std.proofs.lemmas.Grind.{common_steps}
use Rattle.std.proofs.{lemmas.List.length-map, Math.Seq.take-append_seam}
use Rattle.std.proofs.lemmas.List.Quantifiers.{position-Some}
use Rattle.std.proofs.lemmas.Option.{get_or_from_slice_get, none-some, slice_get-map}
use Rattle.std.specs.{Str.bytes_eq, Map.{keys_of, lookup}}
use Rattle.crx_header.specs.meaning.Satellites.{is_among}
use Rattle.crx_compact.specs.{Entries.{Entry, IsAt, IsFound, key_of}, Placing.SatelliteTail}
use Rattle.crx_compact.proofs.{RowByRow.is-there, placing.Rooms.{look_up-among, rooms-kept}}

pub found-same : (name other : List ℕ) (i : ℕ) (es : List Entry) → (satellite : SatelliteTail)
    × (slice_get es i ≡ Some (other, satellite)) → other ≡ name → IsAt name es i
found-same name other i es there same = grind arith

found-by_look_up : (name : List ℕ) (i : ℕ) (es : List Entry)
    → position (bytes_eq name) (keys_of es) ≡ Some i → IsAt name es i
found-by_look_up name i es is =
    let at = position-Some (bytes_eq name) (keys_of es) i [] is in
    let entry = is-there es i (omega (arith, at.0, length-map es key_of)) in
    let same : name ≡ key_of entry.item = (bytes_eq-Decides name (get_or (keys_of es) i [])).0 at.1
    ∙ get_or_from_slice_get (keys_of es) i (key_of entry.item) []
    (cc (slice_get-map key_of es i, entry.there)) in
    found-same name (key_of entry.item) i es (entry.item.1, entry.there) (sym same)

pub found-if_some : (name : List ℕ) (es : List Entry) (r : Option ℕ)
    → position (bytes_eq name) (keys_of es) ≡ r → IfSome r (IsAt name es)
found-if_some name es x is = grind (arith, common_steps, found-by_look_up)

pub at-seam : {X : Type 0} (xs ys : List X) (x : X) → slice_get (xs ++ x ∷ ys) (length xs) ≡ Some x
at-seam [] ys x = refl
at-seam (z ∷ xs) ys x = at-seam xs ys x

look_up-more : (test : List ℕ → Bool) (es more : List Entry) (satellite : SatelliteTail)
    → lookup test es ≡ Some satellite → lookup test (es ++ more) ≡ Some satellite
look_up-more test [] more satellite h = absurd (none-some satellite h)
look_up-more test (e ∷ es) more satellite h = grind (arith, common_steps, look_up-more test es more satellite)

pub found-added : (name : List ℕ) (satellite : SatelliteTail) (es new : List Entry)
    → new ≡ es ++ (name, satellite) ∷ [] → satellite.room ≡ 0 → IsFound name (length es) es new
found-added name satellite es new is none = rw is (record {
  at = record { satellite = satellite; there = at-seam es [] _ };
  known = take-append_seam es ((name, satellite) ∷ []);
  rooms = rooms-kept es _ (λ other found known.
      grind (arith, common_steps, look_up-more (bytes_eq other) es ((name, satellite) ∷ []) found known));
})

pub none-there : {X : Type 0} (r : Option X) → is_some r ≡ false → r ≡ None
none-there r h = grind arith

-- if no look-up finds it, it isn't among them
pub not-found : (name : List ℕ) (es : List Entry) → is_some (lookup (bytes_eq name) es) ≡ false
    → is_among key_of name es ≡ false
not-found name es h = sym (look_up-among name es) ∙ h
