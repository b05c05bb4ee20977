use Rattle.std.proofs.Common.{◌≡◌, ℕ, ◌+◌, ◌*◌, true, Some, List, [], ◌∷◌, ◌++◌, length, take, drop, get_or}
use Rattle.std.proofs.Common.{refl, ap, sym, ◌∙◌, arith}
use Rattle.std.proofs.lemmas.{Bool.{and_from, and_parts}, Simd.{length-put_chunk, take_more_put_chunk}}
use Rattle.std.proofs.lemmas.List.Folds.{list_all-append}
use Rattle.std.specs.List.{list_all}
use Rattle.crx_text.proofs.{Characters.length-columns, LaneBits.sixteen}
use Rattle.crx_text.specs.meaning.{Numbers.observation_of, Texts.is_kept}
use Rattle.crx_rinex.proofs.{Cells.{cell_parts, cells_more, keeps_empty}, PrintedRows.cell_split}
use Rattle.crx_rinex.specs.meaning.SatelliteLines.{field, flags_at}
use Rattle.crx_rinex.proofs.row_buffer.read_cell.Goals as goal

-- a cell's two last columns, as they are put among the indicators
abbrev pair : List ℕ → List ℕ
pair cell = get_or (cell ++ cell) 14 0 ∷ get_or (cell ++ cell) 15 0 ∷ []

last_two : (cell : List ℕ) → length cell ≡ 16 → drop 14 cell ≡ pair cell
last_two cell long = let whole = sixteen cell long in rw whole refl

pub returns-in_err-is_seen-clause-read : goal.returns-in_err-is_seen-clause-read
returns-in_err-is_seen-clause-read c line read is =
    let k = c.args.k in
    let parts = cell_parts (field line k) c.args.cell _ _ (length-columns line (16 * k + 3 + 1) 14)
    (is ∙ cell_split line k 0) in
    rw c.from_residual.ensures (ap observation_of (sym parts.0) ∙ c.in_err-is_seen.ensures.value)

pub returns-clause-read : goal.returns-clause-read
returns-clause-read c line read is =
    let k = c.args.k in
    let flags = c.args.flags.now in
    let cell = c.args.cell in
    let parts = cell_parts (field line k) cell _ _ (length-columns line (16 * k + 3 + 1) 14) (is
    ∙ cell_split line k 0) in
    let pairs : pair cell ≡ flags_at line k = rw (parts.1, parts.2) refl in
    cells_more line c.args.values.now flags _ k _ read c.requires.within
    (ap observation_of (sym parts.0) ∙ c.in_ok-is_seen.ensures.value)
    c.in_ok-is_seen.ensures.in_range
    (length-put_chunk (2 * k) flags (pair cell))
    (take_more_put_chunk (2 * k) flags (pair cell) (2 * (k + 1)) (omega arith) (omega
    (arith, c.requires.within, c.requires.paired.0))
    ∙ ap (λ t. take (2 * k) flags ++ t) pairs)

pub returns-clause-seen : goal.returns-clause-seen
returns-clause-seen c before seen both =
    let k = c.args.k in
    let flags = c.args.flags.now in
    let cell = c.args.cell in
    let parts = and_parts before c.in_ok-is_seen.is_seen both in
    let kept : list_all is_kept (pair cell) ≡ true =
    ap (list_all is_kept) (sym (last_two cell c.fits-cell.0))
    ∙ c.in_ok-is_seen.ensures.kept (ap Some parts.1) in
    ap (list_all is_kept) (take_more_put_chunk (2 * k) flags (pair cell) (2 * (k + 1)) (omega arith) (omega
    (arith, c.requires.within, c.requires.paired.0)))
    ∙ list_all-append is_kept (take (2 * k) flags) (pair cell) ∙ and_from _ _ (seen parts.0) kept

pub returns-clause-others : goal.returns-clause-others
returns-clause-others c n less empty = keeps_empty c.args.values.now c.args.flags.now c.args.k n _ _ refl
    less empty
