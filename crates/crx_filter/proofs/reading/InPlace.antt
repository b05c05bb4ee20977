-- The accepted units of a RINEX file are in place.
use Rattle.crx_filter.proofs.Vocabulary.{ℕ, ◌≡◌, [], List, ◌∷◌, ReadLine, Epoch, Item, Accepted, Warned}
use Rattle.crx_filter.proofs.Vocabulary.{types_in_force}
use Rattle.crx_filter.proofs.Vocabulary.{refl, subst, rinex_place, ItemsAreRead, AreInPlace, arith}
use Rattle.crx_filter.proofs.Vocabulary.{epoch_place, Done, FileUnit, Observation}
use Rattle.crx_filter.proofs.reading.{Forward.rinex_beginning, Types.counts-in_force}
use Rattle.crx_filter.proofs.reading.UnitsAtLines.{StandsAt, Stands, of-unit, of-rinex}
use Rattle.crx_rinex.proofs.SoundEpochs.{sound-epoch_place}

abbrev pub IsEpochAt : List (Item Epoch) → List ReadLine → Epoch → ℕ → Type 0
IsEpochAt items lines epoch count = epoch_place (types_in_force items) lines ≡ Done (Observation epoch) count

pub rinex-stands : (items : List (Item Epoch)) (lines : List ReadLine) (unit : FileUnit Epoch) (count : ℕ)
    → rinex_place items lines ≡ Done unit count → StandsAt (IsEpochAt items) items lines unit count
rinex-stands items lines unit count e =
    let P = Stands (IsEpochAt items) items lines in
    subst P e (of-unit P tt (λ offset fault. tt) rinex_beginning items lines
    (λ line rest is off good. rw is (refl, off, good))
    (λ line rest is on some good. rw is (refl, on, some, good))
    (λ on none. of-rinex P tt (λ offset fault. tt) (types_in_force items) lines
    (λ line rest is event counted. rw is (refl, on, none, event, counted))
    (λ epoch n read. (on, none, read))))

pub items-in_place : (items : List (Item Epoch)) → ItemsAreRead rinex_place items → AreInPlace items
items-in_place [] h = tt
items-in_place (Accepted (Observation epoch) ∷ before) h =
    let k = rinex-stands before (h.0).0 (Observation epoch) (h.0).1 (h.0).2 in
    let sound = sound-epoch_place _ (h.0).0 epoch (h.0).1 (counts-in_force before) k.2 in
    ((k.0, k.1, sound.0), items-in_place before h.1)
items-in_place (Accepted unit ∷ before) h =
    let stands = rinex-stands before (h.0).0 unit (h.0).1 (h.0).2 in grind (arith, items-in_place before h.1)
items-in_place (Warned at ∷ before) h = (h.0, items-in_place before h.1)
