-- The values of a function at one place after another, counted from 0.
use Rattle.std.specs.Prelude.{ℕ, zero, suc, List, [], ◌∷◌}

-- f 0, f 1, .. for n places
abbrev pub each_place : {X : Type 0} → ℕ → (ℕ → X) → List X
each_place zero f = []
each_place (suc n) f = f zero ∷ each_place n (λ i. f (suc i))
