-- One entry of the map gets another value.
use Rattle.std.proofs.Common.{◌≡◌, ℕ, suc, ◌<◌, ◌≤◌, List, ◌∷◌, length, set, slice_get}
use Rattle.std.proofs.Common.{Some, sym, ◌∙◌, arith, length-set, Bool, true, false}
use Rattle.std.proofs.{Common.{IsTrue, ◌↔◌, map, rules}, lemmas.Slice.Eq.bytes_eq-Decides}
use Rattle.std.proofs.lemmas.Bool.{cond-true, false≢true}
use Rattle.std.proofs.{lemmas.List.get_or-set_same, lemmas.Grind.common_steps}
use Rattle.std.proofs.{lemmas.Map.Entries.hash_map_get_place, lemmas.Option.{same_Some, slice_get_read}}
use Rattle.std.specs.{Cmp.IsEquivalence, Str.bytes_eq}
use Rattle.indexmap.proofs.CallerLemmas.{updates-with_value_at}
use Rattle.indexmap.specs.IndexMap.{IndexMap, IsUnique, set_value_at}
use Rattle.crx_compact.specs.Entries.{Entry, IsAt, rooms_of}
use Rattle.crx_compact.specs.Placing.{HasRoom, KeepsRooms, SatelliteTail}
use Rattle.crx_compact.proofs.Characters.{bytes_eq-same}
use Rattle.crx_compact.proofs.placing.Rooms.{known-room, room-from_look_up, rooms-kept}

pub bytes_eq-equiv : IsEquivalence bytes_eq
bytes_eq-equiv = search rules

pub set-there : {X : Type 0} (xs : List X) (i : ℕ) (x : X) → i < length xs → slice_get (set xs i x) i ≡ Some x
set-there xs i x within = search (rules, slice_get_read, length-set, get_or-set_same)

-- the entry keeps its identifier
pub changed-is : (es : List Entry) (i : ℕ) (name : List ℕ) (before after : SatelliteTail)
    → slice_get es i ≡ Some (name, before) → set_value_at es i after ≡ set es i (name, after)
changed-is (e ∷ es) (suc i) name before after there = cc (changed-is es i name before after there)
changed-is es i name before after there = grind (arith, same_Some)

-- if it shows the same, all entries do
pub shown-same : {X : Type 0} (f : Entry → X) (es : List Entry) (i : ℕ) (name : List ℕ) (before after :
    SatelliteTail)
    → slice_get es i ≡ Some (name, before) → f (name, after) ≡ f (name, before)
    → map f (set_value_at es i after) ≡ map f es
shown-same f (e ∷ es) (suc i) name before after there same = cc (shown-same f es i name before after there
    same)
shown-same f es i name before after there same = grind (arith, same_Some)

-- ---- the room of the satellites

module _ {S : Type 0} (m : IndexMap (List ℕ) SatelliteTail S) (i : ℕ) (name : List ℕ)
    (before after : SatelliteTail)
    (unique : IsUnique bytes_eq m) (there : slice_get m.entries i ≡ Some (name, before)) where
  -- the satellite at an index is found by its identifier
  pub room-there : (count : ℕ) → HasRoom name count (rooms_of m.entries) → count ≤ before.room
  room-there count has =
      let own = hash_map_get_place bytes_eq-equiv m i name before unique there in
      grind (arith, known-room name count _ has, own)

  pub room-here : (count : ℕ) → count ≤ before.room → HasRoom name count (rooms_of m.entries)
  room-here count within = room-from_look_up name count _ before
      (hash_map_get_place bytes_eq-equiv m i name before unique there) within

  pub rooms-changed : before.room ≤ after.room
      → KeepsRooms (rooms_of m.entries) (rooms_of (set_value_at m.entries i after))
  rooms-changed more =
      let updates = updates-with_value_at m i after bytes_eq-equiv unique name before there in
      let own = hash_map_get_place bytes_eq-equiv m i name before unique there in
      grind (arith, common_steps, rooms-kept, bytes_eq-Decides name, same_Some)

  pub has-room : (count : ℕ) → count ≤ after.room
      → HasRoom name count (rooms_of (set_value_at m.entries i after))
  has-room count within =
      let updates = updates-with_value_at m i after bytes_eq-equiv unique name before there in
      grind (arith, common_steps, room-from_look_up, set_value_at, cond-true, bytes_eq, bytes_eq-same)

-- ---- the room of a satellite that is found

module _ {S : Type 0} (m : IndexMap (List ℕ) SatelliteTail S) (found : ℕ) (name : List ℕ)
    (is : IsAt name m.entries found) (unique : IsUnique bytes_eq m) (count : ℕ) (has : Bool)
    (answer : (entry : Entry) → slice_get m.entries found ≡ Some entry → IsTrue has ↔ (count ≤ entry.1.room))
  where
    pub enough-room : has ≡ true → HasRoom name count (rooms_of m.entries)
    enough-room roomy = search (rules, room-here)

    pub little-room : has ≡ false → HasRoom name count (rooms_of m.entries) → ⊥
    little-room full room = false≢true (sym full ∙ (answer _ is.there).1
        (room-there m found name is.satellite is.satellite unique is.there count room))
