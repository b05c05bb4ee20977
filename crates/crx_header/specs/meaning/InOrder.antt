-- Tests in order: the first one that fails decides the outcome; if none fails, it is the outcome after the last
-- one.
use Rattle.std.specs.Prelude.{Bool, Option, Some, None, if◌then◌else◌, not}

infixr 1 ◌otherwise◌next◌
infixr 1 ◌or_else◌with◌
-- a test that has to hold
abbrev pub ◌otherwise◌next◌ : {X : Type 0} → Bool → X → X → X
holds otherwise outcome next rest = if not holds then outcome else rest

-- a value that has to exist, and that the rest may use
abbrev pub ◌or_else◌with◌ : {A X : Type 0} → Option A → X → (A → X) → X
None or_else outcome with rest = outcome
Some value or_else outcome with rest = rest value
