use Rattle.std.proofs.Common.{arith, ap, ◌∙◌}
use Rattle.std.proofs.lemmas.{Grind.common_steps, List.{length-append, take_all, take_more}}
use Rattle.std.proofs.lemmas.List.Elements.{filter-append}
use Rattle.std.specs.Prelude.{filter, is_some, length, take, ◌≡◌}
use Rattle.crx_rinex.proofs.Cells.{observed}
use Rattle.crx_rinex.specs.meaning.Observations.{observations_of}
use Rattle.crx_rinex.proofs.row_buffer.RowBuffer.observations.Goals as goal

pub loop-k-preserved : goal.loop-k-preserved
loop-k-preserved c = grind (arith, common_steps, filter, is_some, filter-append, length-append, take_more)

pub returns-clause-value : goal.returns-clause-value
returns-clause-value c =
    let row = c.self.inside in
    let counted : c.loop-k.count ≡ length (filter is_some (take row.filled row.values)) =
    grind (arith, common_steps, take_all) in
    counted ∙ observed row.values row.flags row.filled row.count c.self.invariant.3 c.self.invariant.2
    ∙ ap observations_of c.self.view_is
