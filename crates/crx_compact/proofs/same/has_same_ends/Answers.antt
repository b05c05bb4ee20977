use Rattle.crx_compact.proofs.SameTexts.{first-ends_decide, last-ends_decide}
use Rattle.crx_compact.proofs.same.has_same_ends.Goals as goal

pub returns-then-text-other-eq0 : goal.returns-then-text-other-eq0
returns-then-text-other-eq0 g c = last-ends_decide g.row.N c.args.text.now c.args.other.now c.requires.narrow
    c.requires.some c.requires.few c.requires.same_length c.if-text-other-eq0.true

pub returns-else-text-other-eq0 : goal.returns-else-text-other-eq0
returns-else-text-other-eq0 g c =
    first-ends_decide g.row.N c.args.text.now c.args.other.now c.if-text-other-eq0.false
