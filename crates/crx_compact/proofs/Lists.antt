-- Lists whose items all have a property.
use Rattle.crx_compact.proofs.Vocabulary.{◌≡◌, refl, List, [], ◌∷◌, map, AllByRecursion}

-- two functions that agree on each of some things map them to the same
pub mapped-same : {X Y : Type 0} {P : X → Type 0} (f g : X → Y)
    → ((x : X) → P x → f x ≡ g x) → (xs : List X) → AllByRecursion P xs → map f xs ≡ map g xs
mapped-same f g same [] h = refl
mapped-same f g same (x ∷ xs) h = cc (same x h.0, mapped-same f g same xs h.1)

-- if each item has a property, and another follows from it, each has the other
pub all-from : {X : Type 0} {P : X → Type 0} (Q : X → Type 0)
    → ((x : X) → P x → Q x) → (xs : List X) → AllByRecursion P xs → AllByRecursion Q xs
all-from Q next [] h = tt
all-from Q next (x ∷ xs) h = (next x h.0, all-from Q next xs h.1)
