-- The state of an engine that lends every output line.
use Rattle.std.specs.Prelude.{ℕ, List, [], ◌∷◌, ◌++◌, Option, None, Some}
use Rattle.crx_filter.specs.DirectionParts.{EngineParts}
use Rattle.crx_filter.specs.EngineState.{engine_ready, engine_state}
use Rattle.crx_filter.specs.LineByLine.{RunState}
use Rattle.crx_filter.specs.declared.direction.Direction.{Ghosts}

-- its engine, and the copied line, if one is pending
pub record LenderParts (D : Type 0) : Type 0 where
  pub engine : EngineParts D
  pub copied : Option (List ℕ)

-- ready lines, and after them a copied one
abbrev pub lines_then : List (List ℕ) → Option (List ℕ) → List (List ℕ)
lines_then ready None = ready
lines_then ready (Some line) = ready ++ line ∷ []

module _ {D : Type 0} (d : Ghosts D) where
  abbrev pub lender_state : LenderParts D → RunState d.Open d.Kept
  lender_state l = engine_state d l.engine

  -- the pending lines
  abbrev pub lender_ready : LenderParts D → List (List ℕ)
  lender_ready l = lines_then (engine_ready d l.engine) l.copied
