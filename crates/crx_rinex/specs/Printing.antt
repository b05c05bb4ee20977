-- In addition to meaning/Printing: how code and proofs see it.
use Rattle.std.specs.Prelude.{ℕ, List, [], ◌∷◌}

abbrev pub last_line : List (List ℕ) → List ℕ
last_line [] = []
last_line (line ∷ []) = line
last_line (line ∷ next ∷ lines) = last_line (next ∷ lines)
