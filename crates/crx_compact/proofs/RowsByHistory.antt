-- Rows that are added one by one, each after its satellite's history: the row of the previous epoch, or an empty one.
use Rattle.crx_compact.proofs.Vocabulary.{rules, ◌≡◌, ◌++◌, ◌∷◌, [], ℕ, List, true, false, Some}
use Rattle.crx_compact.proofs.Vocabulary.{length, take, slice_get, refl, arith}
use Rattle.crx_compact.proofs.Vocabulary.{is_among, Row, Satellite, PlacedRows, padded}
use Rattle.crx_compact.proofs.Vocabulary.{padded_among, row_or_blank, row_line_after, row_line_in, row_tail_after}
use Rattle.crx_compact.proofs.Vocabulary.{row_tail_in, RowTail, are_different, take_all, slice_get_within}
use Rattle.crx_compact.proofs.Characters.{bytes_eq-is}
use Rattle.std.proofs.{lemmas.Bool.or_parts, lemmas.Option.get_or_from_slice_get, lemmas.Grind.common_steps}
use Rattle.std.proofs.lemmas.List.Folds.{list_any-append}
use Rattle.crx_header.proofs.OtherIdentifiers.{other_way, new_at}
use Rattle.crx_compact.specs.Placing.{HasCome, row_tail_named}

-- ---- an empty row is none

pub come-row : (rest before : List RowTail) (row : Row) → row_tail_named row.name rest ≡ row_tail_named
    row.name before
    → (row_tail_after (Some (row_or_blank row.name rest)) row ≡ row_tail_in before row)
    × (row_line_after (Some (row_or_blank row.name rest)) row ≡ row_line_in before row)
come-row rest before row same = grind arith

pub come-padded : (rest before : List RowTail) (satellite : Satellite)
    → row_tail_named satellite.name rest ≡ row_tail_named satellite.name before
    → padded satellite (Some (row_or_blank satellite.name rest)) ≡ padded_among before satellite
come-padded rest before satellite same = grind arith

-- ---- the identifier of the added row

pub come-name : (name : List ℕ) (rest : List RowTail) → (row_or_blank name rest).name ≡ name
come-name name [] = refl
come-name name (row ∷ rest) = grind (arith, common_steps, bytes_eq-is, come-name name rest)

-- the rows that are still expected, by identifier, are as before
abbrev pub AreAwaited : {X : Type 0} → (X → List ℕ) → List X → List RowTail → List RowTail → Type 0
AreAwaited name_of come before rest = (name : List ℕ)
    → is_among name_of name come ≡ false → row_tail_named name rest ≡ row_tail_named name before

pub awaited-after : {X : Type 0} (f : X → List ℕ) (come : List X) (x : X) (before : List RowTail)
    (old new : PlacedRows)
    → AreAwaited f come before old.rest → HasCome (f x) old new
    → AreAwaited f (come ++ x ∷ []) before new.rest
awaited-after f come x before old new awaited has =
    grind (arith, common_steps, list_any-append, or_parts, other_way)

-- ---- the next row of an epoch

-- the row at an index is of none of the satellites before it
pub row-new : (rows : List Row) (index : ℕ) (row : Row) → are_different rows ≡ true
    → slice_get rows index ≡ Some row → is_among (λ (r : Row). r.name) row.name (take index rows) ≡ false
row-new rows index row apart here =
    let within = slice_get_within rows index row here in
    let own = new_at (λ (r : Row). r.name) (length rows) rows index row
    (search (rules, take_all)) within within in
    rw (get_or_from_slice_get rows index row row here) at own
