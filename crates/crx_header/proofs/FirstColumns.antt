-- The identifier in a line's first columns.
use Rattle.std.proofs.Common.{◌≡◌, ℕ, ◌&&◌, List, ◌∷◌, refl}
use Rattle.std.proofs.Common.{arith}
use Rattle.crx_text.specs.meaning.Columns.{character_at, columns}
use Rattle.crx_header.specs.meaning.{ObservationTypes.is_system, Satellites.{has_number, is_identifier}}

-- an identifier's columns
pub identifier_columns : (line : List ℕ)
    → is_identifier (columns line 1 3) ≡ (is_system (character_at line 1) && has_number line)
identifier_columns (a ∷ b ∷ c ∷ cs) = refl
identifier_columns _ = grind arith
