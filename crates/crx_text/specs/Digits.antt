-- Digits in a row of lanes.
use Rattle.std.specs.Prelude.{ℕ, ◌+◌, ◌*◌, ◌%◌, List, [], ◌∷◌}

-- how far a byte is above the character 0; bytes below that character are far above all digits
abbrev pub above_zero : ℕ → ℕ
above_zero c = (c + 208) % 256

-- the number that digits make after those of `size`
abbrev pub written : ℕ → List ℕ → ℕ
written size [] = size
written size (d ∷ ds) = written (size * 10 + d) ds
