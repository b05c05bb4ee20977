use Rattle.crx_compact.proofs.Vocabulary.{rules, ◌≡◌, None, slice_index_or}
use Rattle.std.proofs.lemmas.List.{get_or_default}
use Rattle.std.proofs.Common.{◌∙◌, sym}
use Rattle.crx_compact.proofs.cells.read_cell.Goals.{After-index-arcs-index}
use Rattle.crx_compact.proofs.cells.read_cell.Goals as goal

-- the arc at the place
there : (c : After-index-arcs-index) → slice_index_or c.args.arcs.now c.args.index None ≡ c.index-arcs-index.result
there c = get_or_default _ _ None c.index-arcs-index.result c.requires.within ∙ sym c.index-arcs-index.is

pub returns-in_err-apply : goal.returns-in_err-apply
returns-in_err-apply c =
    let there = there (goal.at.returns-in_err-apply c).After-index-arcs-index in
    search rules

pub returns : goal.returns
returns c =
    let there = there (goal.at.returns c).After-index-arcs-index in
    search rules
