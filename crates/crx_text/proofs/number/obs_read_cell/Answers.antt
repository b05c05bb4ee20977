use Rattle.std.proofs.Common.{ℕ, List, length, replicate, Some, None, ◌≡◌, ◌++◌, ◌∙◌, take, drop, w64, rules}
use Rattle.std.proofs.Common.{refl, ap, sym, subst, arith}
use Rattle.std.proofs.{lemmas.{Int.to_z-of_z}}
use Rattle.std.{proofs.lemmas.List.{length-take-le, take-append-drop}}
use Rattle.crx_text.proofs.{LaneBits.{others, same_rows}, PlainSpellings.{plain_number, number_in}}
use Rattle.crx_text.specs.{Fields.IsPlain, meaning.Numbers.{number_of, observation_of}}
use Rattle.crx_text.proofs.number.obs_read_cell.Goals as goal

-- a cell that is compared with blanks
blank_cell : (cell : List ℕ) → length cell ≡ 16 → others cell (replicate 16 32) ≡ 0 → cell ≡ replicate 16 32
blank_cell cell long same = same_rows cell (replicate 16 32) (sym long) (omega (arith, long)) same

blank_value : observation_of (replicate 14 32) ≡ Some None
unfolding number_of
blank_value = refl

pub returns-then-cell-eq0-clause-value : goal.returns-then-cell-eq0-clause-value
returns-then-cell-eq0-clause-value c =
    rw (blank_cell c.args.cell c.fits-cell.0 c.if-cell-eq0.true) blank_value

pub returns-then-cell-eq0-clause-kept : goal.returns-then-cell-eq0-clause-kept
returns-then-cell-eq0-clause-kept c _ = rw (blank_cell c.args.cell c.fits-cell.0 c.if-cell-eq0.true) refl

pub returns-then-is_plain-clause-value : goal.returns-then-is_plain-clause-value
returns-then-is_plain-clause-value c =
    let cell = c.args.cell in
    let are : cell ≡ take 14 cell ++ drop 14 cell = sym (take-append-drop 14 cell) in
    let number = plain_number (take 14 cell) (drop 14 cell) (length-take-le 14 cell
    (omega (arith, c.fits-cell.0)))
    (subst IsPlain are (c.is_plain.ensures c.if-is_plain.true)) in
    rw ((to_z-of_z w64 c.value.result (search rules)), c.value.ensures.value ∙ ap number_in are) number
