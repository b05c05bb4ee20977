-- The columns of an epoch line before the clock have its first character and its flag.
use Rattle.std.proofs.lemmas.Grind.{common_steps}
use Rattle.std.proofs.Common.{◌≡◌, ◌<◌, ◌++◌, ℕ, List, take, get_or}
use Rattle.std.proofs.Common.{replicate, arith, refl, true, false, None, Some}
use Rattle.std.proofs.Common.{if◌then◌else◌, [], drop, length, ◌≤◌}
use Rattle.std.proofs.lemmas.List.{drop_all}
use Rattle.std.specs.List.{list_all}
use Rattle.crx_text.specs.meaning.{Columns.{character_at, columns, is_blank}, Numbers.{clock_of, number_of}}
use Rattle.crx_text.specs.meaning.{Texts.is_kept}
use Rattle.crx_header.specs.meaning.EpochColumns.{begins_epoch, epoch_count, is_observation_flag}
use Rattle.crx_header.specs.meaning.EpochColumns.{satellites_in}

character_by : (line : List ℕ) (width n : ℕ) → n < width
    → get_or (take width (line ++ replicate width 32)) n 32 ≡ get_or line n 32
character_by line width n less = grind (arith, common_steps)

first_in : (line : List ℕ) → character_at (columns line 1 41) 1 ≡ character_at line 1
first_in line = character_by line 41 0 (omega arith)

flag_in : (line : List ℕ) → character_at (columns line 1 41) 32 ≡ character_at line 32
flag_in line = character_by line 41 31 (omega arith)

-- Their characters and their count decide the count that they announce.
pub announced : (line : List ℕ) → begins_epoch line ≡ true → is_observation_flag (character_at line 32) ≡ true
    → epoch_count (columns line 1 41) ≡ (if list_all is_kept (columns line 1 41) then
    satellites_in (columns line 1 41) else None)
announced line begins flag = rw (first_in line, flag_in line, begins, flag) refl

-- Without the flag of an observation epoch they announce nothing.
pub unannounced : (line : List ℕ) → is_observation_flag (character_at line 32) ≡ false
    → epoch_count (columns line 1 41) ≡ None
unannounced line flag = grind (arith, common_steps, flag_in)

-- A line that ends before the clock's columns has no clock, and nothing after them.
pub clockless : (line : List ℕ) → length line ≤ 41
    → (list_all is_blank (drop 56 line) ≡ true) × (clock_of (columns line 42 15) ≡ Some None)
unfolding number_of
clockless line short =
    let none : drop 41 line ≡ [] = drop_all 41 line short in
    let past : drop 56 line ≡ [] = drop_all 56 line (omega (arith, short)) in
    (rw past refl, rw none refl)
