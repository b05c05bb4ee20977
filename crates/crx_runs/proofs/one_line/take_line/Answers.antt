use Rattle.std.proofs.Common.{Ok, ap, ◌∙◌}
use Rattle.crx_lines.specs.Reading.{line_shown}
use Rattle.crx_runs.proofs.LinesTaken.{answered-next}
use Rattle.crx_runs.proofs.one_line.take_line.Goals as goal

pub returns-in-Ok-false-clause-taken : goal.returns-in-Ok-false-clause-taken
returns-in-Ok-false-clause-taken g c =
    let is = c.in-Ok-false.is ∙ ap Ok c.in-Ok-false.field-0-test in
    let held = rw (is) at c.feed_line.ensures.taken in
    rw (← c.feed_line.ensures.untouched is) (answered-next g.E.Engine c.args.engine.now c.feed_line.new.engine
    c.carry_out_answer.new.engine (line_shown c.args.line) held.1 held.2 c.carry_out_answer.ensures.taken)
