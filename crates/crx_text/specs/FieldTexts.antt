-- A number's digits in a row of lanes, before they become its text.
use Rattle.std.specs.Prelude.{ℕ, ◌/◌, ◌%◌, List, [], ◌∷◌}

-- each group's ones, tens and hundreds, and a 0
abbrev pub group_digits : List ℕ → List ℕ
group_digits [] = []
group_digits (group ∷ groups) = group % 10 ∷ group / 10 % 10 ∷ group / 100 ∷ 0 ∷ group_digits groups
