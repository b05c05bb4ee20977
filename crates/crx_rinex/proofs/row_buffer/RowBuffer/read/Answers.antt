use Rattle.std.proofs.Common.{rules, arith, ◌*◌, MatchBool, take, ◌≡◌, Err}
use Rattle.std.proofs.lemmas.{Grind.common_steps, List.length-take-le}
use Rattle.crx_base.specs.Padded.{line_in}
use Rattle.crx_base.specs.declared.fault.Fault.TheVariants.{BadFlags}
use Rattle.crx_rinex.proofs.Cells.{less_empty, row_made}
use Rattle.crx_rinex.specs.SatelliteLines.{row_by_cells, IsRowOf}
use Rattle.crx_rinex.proofs.row_buffer.RowBuffer.read.Goals.{After-are_kept}
use Rattle.crx_rinex.proofs.row_buffer.RowBuffer.read.Goals.{in-None, in-Some-read_first_cells+else-are_kept}
use Rattle.crx_rinex.proofs.row_buffer.RowBuffer.read.Goals as goal

pub empty_cells-requires : goal.empty_cells-requires
empty_cells-requires c = search (rules, less_empty)

-- the indicators decide whether it is a row
made : (c : After-are_kept) → MatchBool c.are_kept.result
    (IsRowOf c.in-Some.count (line_in c.args.line) (take c.in-Some.count c.empty_cells.new.values)
    (take (2 * c.in-Some.count) c.empty_cells.new.flags))
    (row_by_cells c.in-Some.count (line_in c.args.line) ≡ Err BadFlags)
made c =
    row_made (line_in c.args.line) _ c.empty_cells.new.values _ c.empty_cells.new.flags
    c.in-Some-read_first_cells.reached c.in-Some.count c.are_kept.result
    c.in-Some-read_first_cells.ensures.read.0 c.empty_cells.ensures.empty
    (omega (arith, c.in-Some.ensures.allowed))
    c.empty_cells.ensures.values c.empty_cells.ensures.flags c.are_kept.ensures

pub invariant_of-self : goal.invariant_of-self
invariant_of-self c =
    let made = made (goal.at.invariant_of-self c).After-are_kept in
    grind (arith, common_steps, length-take-le)

pub returns-then-are_kept-clause-ok : goal.returns-then-are_kept-clause-ok
returns-then-are_kept-clause-ok c =
    let made = made (goal.at.returns-then-are_kept-clause-ok c).After-are_kept in grind (arith, common_steps)

pub returns-clause-err : goal.returns-clause-err
returns-clause-err c = elim c.match-read_first_cells.branch [
  | in-None w ↦ grind (arith, common_steps)
  | in-Some-read_first_cells+else-are_kept w ↦
      let made = row_made (line_in c.args.line) _ w.empty_cells.new.values _ w.empty_cells.new.flags
      w.in-Some-read_first_cells.reached c.in-Some.count w.are_kept.result
      w.in-Some-read_first_cells.ensures.read.0 w.empty_cells.ensures.empty
      (omega (arith, c.in-Some.ensures.allowed, w.empty_cells.auto.values, c.read_first_cells.auto.values))
      w.empty_cells.ensures.values w.empty_cells.ensures.flags w.are_kept.ensures in
      search (rules, made)
]
