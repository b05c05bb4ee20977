use Rattle.crx_compact.proofs.Vocabulary.{◌≡◌, ◌≤◌, ◌<◌, arith, common_steps, drop, length, sym, ◌∙◌, subst}
use Rattle.crx_compact.proofs.CellsRead.{ReadUpTo, read-none, read-next, next-refused, read-all}
use Rattle.crx_compact.proofs.cells.read_cells.Goals.{After-as_mut_slice-arcs, in-Some}
use Rattle.crx_compact.proofs.Vocabulary.{err_from_is_err_and, length-each_place, take_at}
use Rattle.crx_compact.proofs.cells.read_cells.Goals.{in-None+in_ok-length-in-None}
use Rattle.crx_compact.proofs.CellsFor.{first-cells, same-cells}
use Rattle.crx_compact.specs.Placing.{cells_for}
use Rattle.crx_base.specs.Padded.{line_in}
use Rattle.std.proofs.lemmas.List.{take_rest}
use Rattle.crx_compact.proofs.cells.read_cells.Goals as goal

-- there is an arc for each cell that the line may reach
kept : (c : After-as_mut_slice-arcs) → (c.as_mut_slice-arcs.result.now
    ≡ cells_for c.min-reached.result c.args.arcs.now.items)
    × (length c.as_mut_slice-arcs.result.now ≡ c.min-reached.result)
    × (c.min-reached.result ≤ length (cells_for c.args.count c.args.arcs.now.items))
kept c = grind (arith, common_steps, same-cells, length-each_place)

pub loop-index-init : goal.loop-index-init
loop-index-init c =
    let arcs = kept (goal.at.loop-index-init c).After-as_mut_slice-arcs in
    subst (ReadUpTo _ _ 0 0 c.min-reached.result) (first-cells _ _ _ (omega arith) ∙ sym arcs.0)
    (read-none (cells_for c.args.count c.args.arcs.now.items) (line_in c.args.line) c.min-reached.result)

pub returns-in_err-length-in-None-clause-err : goal.returns-in_err-length-in-None-clause-err
returns-in_err-length-in-None-clause-err c =
    let p = err_from_is_err_and c.from_residual.result c.from_residual.ensures.1 in
    let arcs = kept (goal.at.returns-in_err-length-in-None-clause-err c).After-as_mut_slice-arcs in
    rw (p.1, p.2) (next-refused _ (line_in c.args.line) _ _ _ _ c.loop-index.invariant arcs.2 c.args.count
    (length-each_place _ _) (omega (arith, arcs.1, c.loop-index-test.true))
    (rw (c.in-None.ensures.none, take_rest c.line.result.now c.loop-index.at, c.line.ensures.value)
    at c.in_err-length-in-None.ensures.err))

pub returns-in_err-length-in-None-clause-arcs : goal.returns-in_err-length-in-None-clause-arcs
returns-in_err-length-in-None-clause-arcs c =
    let arcs = kept (goal.at.returns-in_err-length-in-None-clause-arcs c).After-as_mut_slice-arcs in
    grind (arith, take_at, length-each_place)

pub loop-index-preserved : goal.loop-index-preserved
loop-index-preserved c =
    let arcs = kept (goal.at.loop-index-preserved c).After-as_mut_slice-arcs in
    let less : c.loop-index.index < c.min-reached.result = omega (arith, arcs.1, c.loop-index-test.true) in
    elim c.match-read_cell_fast.branch [
      | in-Some w ↦ rw (w.at-is) (read-next _ _ _ _ _ _ c.loop-index.invariant arcs.2 c.args.count
          (length-each_place _ _) less w.in-Some.ensures.some w.arcs-is)
      | in-None+in_ok-length-in-None w ↦
          let rest = take_rest w.line.result.now c.loop-index.at in
          let cell = rw (
            w.in-None.ensures.none,
            rest,
            w.line.ensures.value,
          ) at w.in_ok-length-in-None.ensures.ok in
          rw (w.at-is) (read-next _ _ _ _ _ _ c.loop-index.invariant arcs.2 c.args.count
          (length-each_place _ _) less cell w.arcs-is)
    ]

pub returns-clause-ok : goal.returns-clause-ok
returns-clause-ok c =
    let arcs = kept (goal.at.returns-clause-ok c).After-as_mut_slice-arcs in
    let same = take_at c.loop-index.arcs (drop (length c.loop-index.arcs) c.if-len-reached.arcs.items)
    c.if-len-reached.arcs.len
    (omega (arith, arcs.1)) in
    rw same (read-all _ (line_in c.args.line) _ _ _ _ c.loop-index.invariant arcs.2 c.args.count
    (length-each_place _ _)
    (omega (arith, arcs.1, c.loop-index-test.false, c.loop-index.auto.index-end))
    (grind (arith, common_steps)))

pub returns-clause-arcs : goal.returns-clause-arcs
returns-clause-arcs c =
    let arcs = kept (goal.at.returns-clause-arcs c).After-as_mut_slice-arcs in
    grind (arith, take_at, length-each_place)

pub returns-in_err-length-in-None-clause-reached : goal.returns-in_err-length-in-None-clause-reached
returns-in_err-length-in-None-clause-reached c =
    let arcs = kept (goal.at.returns-in_err-length-in-None-clause-reached c).After-as_mut_slice-arcs in
    grind (arith, take_at, length-each_place)

pub returns-clause-reached : goal.returns-clause-reached
returns-clause-reached c =
    let arcs = kept (goal.at.returns-clause-reached c).After-as_mut_slice-arcs in
    grind (arith, take_at, length-each_place)
