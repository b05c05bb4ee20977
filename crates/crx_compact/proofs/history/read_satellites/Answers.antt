use Rattle.std.proofs.Common.{rules}
use Rattle.crx_compact.proofs.RepeatedNames.{read-again}
use Rattle.crx_compact.proofs.history.read_satellites.Goals as goal

pub returns-then-repeat_rows : goal.returns-then-repeat_rows
returns-then-repeat_rows c =
    let come = read-again c.args.types.now c.args.text.now c.in-Some.count c.args.satellites.now
    c.repeat_rows.new.self c.if-repeat_rows.ensures.again c.if-repeat_rows.ensures.counted
    (c.requires.named c.if-are_same.true) (c.requires.awaited c.if-are_same.true) in
    search rules
