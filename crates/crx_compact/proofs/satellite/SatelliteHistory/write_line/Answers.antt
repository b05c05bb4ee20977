use Rattle.crx_compact.proofs.Vocabulary.{rules, List, Option, ArcTail, ◌≡◌, ◌∙◌, ap}
use Rattle.crx_compact.proofs.Vocabulary.{length, length-each_place, arith, common_steps}
use Rattle.crx_compact.proofs.satellite.SatelliteHistory.write_line.Goals.{After-self}
use Rattle.crx_compact.proofs.placing.SteppedRows.{arcs-marked, codes-marked}
use Rattle.crx_compact.specs.Placing.{SatelliteTail, cells_for}
use Rattle.crx_compact.specs.Cells.{codes_of_cells}
use Rattle.crx_text.proofs.WrittenTexts.{line-written}
use Rattle.crx_compact.proofs.satellite.SatelliteHistory.write_line.Goals as goal

-- it has the row's number of types
marked : (c : After-self) → (cells_for (length c.args.values.now)
    c.self.inside.arcs.items
    ≡ cells_for (length c.args.values.now) c.args.self.now.cells)
    × (c.self.inside.count ≡ length c.args.values.now)
marked c =
    let cells = ap (λ (t : SatelliteTail). t.cells) (c.self.view_is ∙ c.mark-has_marks.ensures.marked) in
    let many = ap length cells in
    grind (arith, length-each_place)

pub returns-clause-after : goal.returns-clause-after
returns-clause-after c =
    let marked = marked (goal.at.returns-clause-after c).After-self in
    grind (arith, common_steps, arcs-marked)

pub returns-clause-put : goal.returns-clause-put
returns-clause-put c =
    let marked = marked (goal.at.returns-clause-put c).After-self in
    let cells = c.write_cells-end.ensures.written in
    let codes = ap (λ (cs : List (Option ArcTail)). codes_of_cells cs c.args.values.now) marked.0 in
    search (rules, cells, codes, codes-marked, line-written)

pub invariant_of-self : goal.invariant_of-self
invariant_of-self c =
    let marked = marked (goal.at.invariant_of-self c).After-self in
    let few = c.requires.fits.missing.0 in
    grind (arith, common_steps)
