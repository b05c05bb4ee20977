use Rattle.crx_compact.proofs.Vocabulary.{◌≡◌, ◌+◌, ◌*◌, ℕ, List, ap, ◌∙◌, arith, take}
use Rattle.crx_compact.proofs.{Vocabulary.RowTail, OneByOne.texts_more}
use Rattle.crx_compact.proofs.placing.{Orders.length-in_order, SteppedRows.{row-here, rows-counted}}
use Rattle.crx_compact.specs.{Entries.in_order, Placing.row_tail_of}
use Rattle.crx_compact.proofs.satellites.Satellites.put_names.Goals as goal

pub loop-index-preserved : goal.loop-index-preserved
loop-index-preserved c =
    let self = c.self.inside in
    let es = self.known.entries in
    let few = c.self.invariant.0 in
    let all = c.self.invariant.1 in
    let index = c.loop-index.index in
    let counted = rows-counted self.placed (in_order self.order.items es)
    (omega (arith, few, all, length-in_order es c.self.invariant.2)) in
    let at = row-here es c.self.invariant.2 self.placed (omega (arith, counted, c.loop-index-test.true))
    c.number_at.ensures.value c.key_at-name.ensures.there.1 in
    let so_far : List ℕ = take (41 + 3 * index) c.loop-index.text in
    let after : 41 + 3 * (index + 1) ≡ 41 + 3 * index + 3 = omega arith in
    rw (← c.self.view_is) (texts_more (λ (r : RowTail). r.name) (take 41 c.args.text.now) _ index
    (row_tail_of c.key_at-name.result c.key_at-name.ensures.there.0) so_far
    (take (41 + 3 * (index + 1)) c.put_identifier.new.bytes)
    (rw (← c.self.view_is) at c.loop-index.invariant) at.there
    (ap (λ n. take n c.put_identifier.new.bytes) after ∙ c.put_identifier.ensures.put))
