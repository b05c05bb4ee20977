-- The room of the known satellites, by look-ups in their map.
use Rattle.crx_compact.proofs.Vocabulary.{◌≡◌, ℕ, ◌≤◌, false, List, [], ◌∷◌, Some, option_map, refl, sym}
use Rattle.crx_compact.proofs.Vocabulary.{◌∙◌, arith, rules, bytes_eq, false≢true, is_among}
use Rattle.crx_compact.proofs.Vocabulary.{HasRoom, KeepsRooms, is_some, ap}
use Rattle.std.specs.Map.{lookup}
use Rattle.std.proofs.{lemmas.Bool.cases_Bool, lemmas.Grind.common_steps}
use Rattle.crx_header.proofs.OtherIdentifiers.{other_way}
use Rattle.crx_compact.specs.{Entries.{Entry, key_of, rooms_of}, meaning.Sequences.named}
use Rattle.crx_compact.specs.Placing.{SatelliteTail}

-- the room of a satellite is the room of the one that a look-up finds
pub room-by_look_up : (name : List ℕ) (es : List Entry) → named (λ (r : List ℕ × ℕ). r.0) name (rooms_of es)
    ≡ option_map (λ (s : SatelliteTail). (name, s.room)) (lookup (bytes_eq name) es)
room-by_look_up name [] = refl
room-by_look_up name (e ∷ es) = search (rules, cases_Bool, bytes_eq, other_way, room-by_look_up name es)

-- a satellite with room is known, and so is its room
pub known-room : (name : List ℕ) (count : ℕ) (es : List Entry) → HasRoom name count (rooms_of es)
    → (satellite : SatelliteTail) × (lookup (bytes_eq name) es ≡ Some satellite) × (count ≤ satellite.room)
known-room name count es h = grind (arith, common_steps, lookup, bytes_eq, room-by_look_up)

pub room-from_look_up : (name : List ℕ) (count : ℕ) (es : List Entry) (satellite : SatelliteTail)
    → lookup (bytes_eq name) es ≡ Some satellite → count ≤ satellite.room → HasRoom name count (rooms_of es)
room-from_look_up name count es satellite is within = grind (arith, room-by_look_up name es)

-- each satellite that is known stays known, and has no less room
pub rooms-kept : (old new : List Entry) → ((name : List ℕ) (satellite : SatelliteTail) → lookup
    (bytes_eq name) old ≡ Some satellite → (after : SatelliteTail) × (lookup (bytes_eq name) new ≡ Some after)
    × (satellite.room ≤ after.room)) → KeepsRooms (rooms_of old) (rooms_of new)
rooms-kept old new h name count has =
    grind (arith, known-room name count old has, h name, room-from_look_up name count new)

-- a look-up finds those that are among them
pub look_up-among : (name : List ℕ) (es : List Entry) → is_some (lookup (bytes_eq name) es) ≡ is_among key_of
    name es
look_up-among name [] = refl
look_up-among name (e ∷ es) = grind (arith, common_steps, cases_Bool, other_way, look_up-among name es)

-- a satellite that isn't among them isn't known
pub unknown : (name : List ℕ) (count : ℕ) (es : List Entry)
    → is_among key_of name es ≡ false → HasRoom name count (rooms_of es) → ⊥
unknown name count es new has =
    false≢true (sym (look_up-among name es ∙ new) ∙ ap is_some (known-room name count es has).1)
