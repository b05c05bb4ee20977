-- The plain spelling of an observation in its 14 columns: blanks, perhaps a minus, digits from the second
-- column on, the point in column 11, and three digits.
use Rattle.std.specs.Prelude.{ℕ, ◌≡◌, ◌+◌, ◌-◌, ◌*◌, Bool, true, ◌&&◌, ◌||◌, ◌==◌, List, [], ◌∷◌, ◌++◌, take, drop}
use Rattle.std.specs.Prelude.{slice_index}
use Rattle.std.specs.Char.{is_ascii_digit}
use Rattle.std.specs.Str.{all_ascii_digits}
use Rattle.std.specs.List.{list_all}
use Rattle.crx_base.specs.declared.limits.TheConstants.{OBSERVATION_WIDTH}
use Rattle.crx_text.specs.meaning.Texts.{is_kept}

-- columns after the character `before`: a digit anywhere, a blank or a minus only after a blank
abbrev pub is_plain_after : ℕ → List ℕ → Bool
is_plain_after before [] = true
is_plain_after before (c ∷ cs) = (is_ascii_digit c || (before == 32 && (c == 32 || c == 45))) && is_plain_after c cs

-- columns in a row of lanes, perhaps with further lanes after them: a cell's indicators
pub record IsPlain (columns : List ℕ) : Type 0 where
  pub first : (slice_index columns 0 == 32 || slice_index columns 0 == 45) ≡ true
  pub whole : is_plain_after 32 (take 10 columns) ≡ true
  pub point : slice_index columns 10 ≡ 46
  pub fraction : all_ascii_digits (take 3 (drop 11 columns)) ≡ true
  pub kept : list_all is_kept (drop OBSERVATION_WIDTH columns) ≡ true

-- the columns of the digits
abbrev pub plain_digits : List ℕ → List ℕ
plain_digits columns = take 9 (drop 1 columns) ++ take 3 (drop 11 columns)

-- the number that digits make after those of `size`; a blank and a minus count as 0
abbrev pub weighed : ℕ → List ℕ → ℕ
weighed size [] = size
weighed size (c ∷ cs) = weighed (size * 10 + (c - 48)) cs
