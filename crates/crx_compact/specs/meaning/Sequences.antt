-- Functions on lists. Lists of epochs, and the values and coded values of an arc, are newest first.
use Rattle.std.specs.Prelude.{ℕ, Bool, List, [], ◌∷◌, Option, Some, None, Result, Ok, Err, if◌then◌else◌, find}
use Rattle.std.specs.Str.{bytes_eq}

-- the items from the newest back to the first that passes the test, this one included; all of them if none passes
abbrev pub back_to : {X : Type 0} → (X → Bool) → List X → List X
back_to test [] = []
back_to test (x ∷ xs) = x ∷ (if test x then [] else back_to test xs)

-- the first item with this identifier
abbrev pub named : {X : Type 0} → (X → List ℕ) → List ℕ → List X → Option X
named name_of name xs = find (λ x. bytes_eq (name_of x) name) xs

-- the items of the longest stretch, from the newest on, that are all present
abbrev pub stretch : {X : Type 0} → List (Option X) → List X
stretch [] = []
stretch (None ∷ xs) = []
stretch (Some x ∷ xs) = x ∷ stretch xs

-- a good result with an item before its own, or its error
abbrev pub before_all : {X E : Type 0} → X → Result (List X) E → Result (List X) E
before_all x (Ok xs) = Ok (x ∷ xs)
before_all x (Err e) = Err e

-- the result of `f` for a good result, or its error
abbrev pub and_then : {X Y E : Type 0} → Result X E → (X → Result Y E) → Result Y E
and_then (Ok x) f = f x
and_then (Err e) f = Err e
