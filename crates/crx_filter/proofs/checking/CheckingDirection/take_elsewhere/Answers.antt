use Rattle.crx_filter.proofs.steps.CheckerSteps.{line-taken, noted-takes, refused-takes, nothing_kept}
use Rattle.crx_filter.proofs.steps.CheckerSteps.{refused-reads}
use Rattle.crx_filter.proofs.steps.CheckerSteps.{step-counted, step-held, still-drained}
use Rattle.crx_filter.proofs.steps.EngineAnswers.{short-line}
use Rattle.{crx_lines.specs.Reading.{line_shown}, std.proofs.lemmas.Result.err_from_is_err_and}
use Rattle.crx_filter.proofs.checking.CheckingDirection.take_elsewhere.Goals as goal

pub returns-in_err-step : goal.returns-in_err-step
returns-in_err-step c =
    let p = err_from_is_err_and c.from_residual.result c.from_residual.ensures.1 in
    let drained = rw (← c.self.view_is) at c.requires.asked.drained in
    let closed = rw (← c.self.view_is) at c.requires.closed in
    rw (← c.self.view_is, p.1, p.2, ← c.bytes.ensures.content) (record {
      takes = refused-takes (refused-reads _ c.self.inside.reader
          c.take.new.self c.self.inside.noted.totals c.bytes.result.now _ _
          c.in_err-step.ensures.reads.same closed
          (c.in_err-step.ensures.reads.refuses nothing_kept)
          (still-drained c.self.inside.handed_out _ _ drained));
    })

pub note-requires-clause-held : goal.note-requires-clause-held
note-requires-clause-held c = step-held _ _ _ _ _ (c.in_ok-step.ensures.reads.takes nothing_kept)

pub invariant_of-self-2 : goal.invariant_of-self-2
invariant_of-self-2 c = step-counted _ _ _ _ _ (c.in_ok-step.ensures.reads.takes nothing_kept)
    c.note.new.self c.note.ensures.begun

pub returns : goal.returns
returns c =
    let was = c.self.inside in
    let takes = rw c.bytes.ensures.content at (c.in_ok-step.ensures.reads.takes nothing_kept) in
    let drained = rw (← c.self.view_is) at c.requires.asked.drained in
    rw (← c.self.view_is) (record {
      takes = noted-takes was.reader c.take.new.self was.noted c.note.new.self (line_shown c.args.line) _
          (short-line (line_shown c.args.line) c.args.line.short)
          (line-taken (line_shown c.args.line).content was.reader c.take.new.self _ c.in_ok-step.step takes)
          (c.note.ensures.notes _ _ takes) (still-drained was.handed_out _ _ drained);
    })
