use Rattle.std.proofs.Common.{rules}
use Rattle.crx_rinex.proofs.HeadColumns.{announced, clockless}
use Rattle.crx_rinex.proofs.epoch_line.Head.read.Goals as goal

pub invariant_of-result : goal.invariant_of-result
invariant_of-result c = search (rules, announced)

pub returns-then-line-le-HEAD_WIDTH : goal.returns-then-line-le-HEAD_WIDTH
returns-then-line-le-HEAD_WIDTH c =
    let none = clockless c.args.line.now c.if-line-le-HEAD_WIDTH.true in
    search (rules, announced)
