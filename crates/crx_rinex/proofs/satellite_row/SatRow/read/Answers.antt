use Rattle.std.proofs.Common.{◌≡◌, ◌*◌, All, length, ap, subst, sym, ◌∙◌, arith}
use Rattle.std.proofs.lemmas.{Grind.common_steps, List.take_all}
use Rattle.crx_header.specs.meaning.Satellites.{is_identifier}
use Rattle.crx_text.specs.meaning.Numbers.{IsValue}
use Rattle.crx_rinex.proofs.Cells.{cells_none, sound-written}
use Rattle.crx_rinex.proofs.satellite_row.SatRow.read.Goals.{After-all_kept}
use Rattle.crx_rinex.proofs.satellite_row.SatRow.read.Goals as goal

pub returns-in_default-read_cell-clause-err : goal.returns-in_default-read_cell-clause-err
returns-in_default-read_cell-clause-err c = grind (arith, common_steps, cells_none)

-- all cells are read
long : (c : After-all_kept) → (length c.loop-k.read ≡ c.in-Some.m) × (length c.loop-k.marks ≡ 2 * c.in-Some.m)
long c = (
  omega (arith, c.loop-k.auto.read, ap length c.as_mut_slice-read.ensures.value, c.in_ok-values.ensures.counted.0),
  omega (arith, c.loop-k.auto.marks, ap length c.as_mut_slice-marks.ensures.value, c.in_ok-values.ensures.counted.1),
)

pub returns-then-not-all_kept-clause-err : goal.returns-then-not-all_kept-clause-err
returns-then-not-all_kept-clause-err c = grind (arith, common_steps)

pub invariant_of-result : goal.invariant_of-result
invariant_of-result c =
    let long = long (goal.at.invariant_of-result c).After-all_kept in
    let whole = take_all c.loop-k.k c.loop-k.read (omega (arith, long.0, c.loop-k-test.false)) in
    sound-written c.identifier.result c.loop-k.read _ c.loop-k.marks _ c.in-Some.m
    _ _ (ap is_identifier c.identifier.ensures.value ∙ c.in-Some.ensures.named) c.in-Some.ensures.allowed
    long.0 long.1 c.in_ok-values.ensures.counted.0 c.in_ok-values.ensures.counted.1
    (subst (All IsValue) whole c.loop-k.invariant.ranged) (sym c.if-not-all_kept.ensures.value)

pub returns-clause-sound : goal.returns-clause-sound
returns-clause-sound c = invariant_of-result c
