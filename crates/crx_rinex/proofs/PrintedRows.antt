-- Satellite lines whose fields are all the printed texts of their values.
use Rattle.std.proofs.Common.{rules}
use Rattle.std.proofs.Common.{◌≡◌, ◌≢◌, inl, inr, ℕ, ℤ, zero, suc, ◌+◌}
use Rattle.std.proofs.Common.{◌-◌, ◌*◌, ◌<◌, ◌≤◌, true, List, [], ◌∷◌, ◌++◌}
use Rattle.std.proofs.Common.{length, take, drop, replicate, get_or, Option}
use Rattle.std.proofs.Common.{Some, None, Ok, refl, sym, ap, ◌∙◌, subst, arith}
use Rattle.std.proofs.lemmas.{Bool.{cases_lt}, Grind.common_steps, Option.{none-some, same_Some}}
use Rattle.std.proofs.lemmas.List.{drop_all, drop-drop, drop-take, get_or-drop, get_or-take}
use Rattle.std.proofs.lemmas.List.{length-append, length-drop, take-take, take_all}
use Rattle.std.{proofs.lemmas.List.Folds.list_all_at, specs.List.{concat, list_all}}
use Rattle.std.specs.Option.{option_and_then}
use Rattle.crx_text.proofs.Characters.{at, at-append, at-append_past, at-drop, columns-are, length-columns}
use Rattle.crx_text.proofs.Blanks.{end_blanks_columns}
use Rattle.crx_text.proofs.{EndBlanks.{ended_at, nothing_after}, Spellings.printed_blank}
use Rattle.crx_text.specs.meaning.Columns.{character_at, columns, is_blank, without_end_blanks}
use Rattle.crx_text.specs.meaning.EachPlace.{each_place}
use Rattle.crx_text.specs.meaning.{Numbers.{observation_of}, PrintedCells.printed_cells}
use Rattle.crx_header.specs.meaning.{ObservationTypes.Count, Satellites.types_of_satellite}
use Rattle.crx_rinex.proofs.{Cells.{field_inside, field_past}, PrintedForms.Prints}
use Rattle.crx_rinex.proofs.ReadingBack.{cells-are, from-next, from-none}
use Rattle.crx_rinex.specs.meaning.{Observations.Row, Printing.printed_row, SatelliteLines.{all_some, field}}
use Rattle.crx_rinex.specs.meaning.SatelliteLines.{values_in, flags_at, flags_in}
use Rattle.crx_rinex.specs.meaning.SatelliteLines.{row_with, row_of_types, row_of}

-- ---- fields

-- a field in the last lanes of a row
pub inside_prints : (line : List ℕ) (k : ℕ) → 16 * k + 1 + 16 ≤ length line
    → Prints (drop 2 (take 16 (take (16 * k + 1 + 16 - (16 * k + 1)) (drop (16 * k + 1) line))))
    → Prints (field line k)
inside_prints line k within =
    grind (
      arith,
      common_steps,
      field_inside line k,
      take-take 16 16 (drop (16 * k + 1) line),
      drop-take 2 14 (drop (16 * k + 1) line),
      drop-drop 2 (16 * k + 1) line,
    )

-- so are the fields before it
pub next_prints : (line : List ℕ) (k : ℕ) → ((j : ℕ) → j < k → Prints (field line j)) → Prints (field line k)
    → (j : ℕ) → j < k + 1 → Prints (field line j)
next_prints line k before now j less = elim (cases_lt j k) [
  | inl near ↦ before j near
  | inr far ↦ let last : k ≡ j = omega (arith, less, far) in subst (λ i. Prints (field line i)) last now
]

-- one that is past the line's end
pub past_prints : (line : List ℕ) (k : ℕ) → length line ≤ 16 * k + 3 → Prints (field line k)
past_prints line k past value reads =
    grind (arith, common_steps, field, drop_all, field_past, printed_blank)

-- all fields, if the first ones are, and the line has nothing of the other ones
pub all_print : (line : List ℕ) (k : ℕ) → ((j : ℕ) → j < k → Prints (field line j)) → length line ≤ 16 * k + 3
    → (j : ℕ) → Prints (field line j)
all_print line k before past j = grind (arith, common_steps, cases_lt j k, past_prints)

-- ---- columns one after another

at-padded : (k : ℕ) (text : List ℕ) (p : ℕ) → at (text ++ replicate k 32) p ≡ at text p
at-padded (suc k) [] (suc p) = at-padded k [] p
at-padded k (c ∷ cs) (suc p) = at-padded k cs p
at-padded k text p = grind (arith, common_steps)

pub at-column : (text : List ℕ) (first width p : ℕ) → p < width
    → at (columns text first width) p ≡ at text (first - 1 + p)
at-column text first width p less = grind (arith, common_steps, get_or-take, at-padded, at-drop)

columns_split : (line : List ℕ) (first a b : ℕ)
    → columns line (first + 1) (a + b) ≡ columns line (first + 1) a ++ columns line (first + a + 1) b
columns_split line first a b =
    let left : List ℕ = columns line (first + 1) a in
    let right : List ℕ = columns line (first + a + 1) b in
    let wide = length-columns line (first + 1) a in
    let rest = length-columns line (first + a + 1) b in
    columns-are line (first + 1) (a + b) (left ++ right) (omega (arith, wide, rest, length-append left right))
    (λ p less.
    let near = at-append left right p in
    let far = at-append_past left right a (p - a) wide in
    let one = at-column line (first + 1) a p in
    let two = at-column line (first + a + 1) b (p - a) in
    grind arith)

two_columns : (line : List ℕ) (n : ℕ)
    → columns line (n + 1) 2 ≡ character_at line (n + 1) ∷ character_at line (n + 2) ∷ []
two_columns line n = grind (arith, common_steps, columns-are)

pub cell_split : (line : List ℕ) (k n : ℕ) → columns line (16 * k + 3 + 1) (16 * suc n) ≡ field line k
    ++ character_at line (16 * k + 18) ∷ character_at line (16 * k + 19)
    ∷ columns line (16 * (k + 1) + 3 + 1) (16 * n)
cell_split line k n =
    let width : 16 * suc n ≡ 14 + (2 + 16 * n) = omega arith in
    let one : 16 * k + 18 ≡ 16 * k + 3 + 14 + 1 = omega arith in
    let two : 16 * k + 19 ≡ 16 * k + 3 + 14 + 2 = omega arith in
    let next : 16 * (k + 1) + 3 + 1 ≡ 16 * k + 3 + 14 + 2 + 1 = omega arith in
    grind (arith, common_steps, width, one, two, next, columns_split, two_columns)

-- ---- cells

-- if all fields are read, the first one is, and the others are
first_read : (o : Option (Option ℤ)) (rest : List (Option (Option ℤ))) (values : List (Option ℤ))
    → all_some (o ∷ rest) ≡ Some values → (v : Option ℤ) × (vs : List (Option ℤ)) × (o ≡ Some v)
    × (all_some rest ≡ Some vs) × (v ∷ vs ≡ values)
first_read None rest values is = absurd (none-some values is)
first_read (Some v) rest values is =
    grind (arith, common_steps, all_some, option_and_then, none-some, same_Some)

module _ (line : List ℕ) (prints : (j : ℕ) → Prints (field line j)) where
  -- the first of some cells, and those after it
  put : (n k : ℕ) (v : Option ℤ) (vs : List (Option ℤ)) → observation_of (field line k) ≡ Some v
      → printed_cells vs (concat (each_place n (λ j. flags_at line (k + 1 + j))))
      ≡ columns line (16 * (k + 1) + 3 + 1) (16 * n)
      → printed_cells (v ∷ vs) (concat (each_place (suc n) (λ j. flags_at line (k + j))))
      ≡ columns line (16 * k + 3 + 1) (16 * suc n)
  put n k v vs first is =
      search (rules, character_at, printed_cells, from-next, flags_at, cells-are, each_place, cell_split)

  cells_columns : (n k : ℕ) (values : List (Option ℤ))
      → all_some (each_place n (λ j. observation_of (field line (k + j)))) ≡ Some values
      → printed_cells values (concat (each_place n (λ j. flags_at line (k + j))))
      ≡ columns line (16 * k + 3 + 1) (16 * n)
  cells_columns zero k values reads =
      subst (λ (vs : List (Option ℤ)). printed_cells vs [] ≡ []) (same_Some [] values reads) refl
  cells_columns (suc n) k values reads =
      let parts = first_read (observation_of (field line k))
      (each_place n (λ j. observation_of (field line (k + 1 + j)))) values
      (sym (ap all_some (from-next n k (λ j. observation_of (field line j)))) ∙ reads) in
      rw (← parts.4) (put n k parts.0 parts.1 parts.2 (cells_columns n (k + 1) parts.1 parts.3))

  row_columns : (m : ℕ) (values : List (Option ℤ)) → values_in m line ≡ Some values
      → columns line 1 3 ++ printed_cells values (flags_in m line) ≡ columns line 1 (3 + 16 * m)
  row_columns m values reads =
      ap (λ t. columns line 1 3 ++ t)
      (ap (λ (fs : List (List ℕ)). printed_cells values (concat fs)) (from-none m (flags_at line))
      ∙ cells_columns m 0 values
      (sym (ap all_some (from-none m (λ j. observation_of (field line j)))) ∙ reads))
      ∙ sym (columns_split line 0 3 (16 * m))

  -- ---- a row

  module _ (some : 0 < length line) (ends : get_or line (length line - 1) 0 ≢ 32) where
    trimmed : without_end_blanks line ≡ line
    trimmed = grind (arith, common_steps, ended_at, line, nothing_after, take_all)

    reach : (n : ℕ) → list_all is_blank (drop n line) ≡ true → length line ≤ n
    reach n blank = grind (arith, common_steps, get_or-drop, line, list_all_at, length-drop)

    by_values : (m : ℕ) (row : Row) (o : Option (List (Option ℤ))) → values_in m line ≡ o
        → row_with m line o ≡ Ok row → printed_row row ≡ line
    by_values m row None reads is = grind (arith, common_steps)
    by_values m row (Some values) reads is =
        let columns = row_columns m values in
        let ends = end_blanks_columns line 1 (3 + 16 * m) in
        let whole = take_all (3 + 16 * m) line in
        let wide = reach (3 + 16 * m) in
        grind (arith, common_steps, trimmed)

    by_types : (row : Row) (o : Option ℕ) → row_of_types line o ≡ Ok row → printed_row row ≡ line
    by_types row None is = grind (arith, common_steps)
    by_types row (Some m) is = by_values m row (values_in m line) refl is

    -- the row read from the line is printed as the line
    pub line_printed : (types : List Count) (row : Row) → row_of types line ≡ Ok row → printed_row row ≡ line
    line_printed types row is = by_types row (types_of_satellite types line) is
