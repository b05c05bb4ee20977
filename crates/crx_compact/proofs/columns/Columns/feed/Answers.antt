use Rattle.crx_compact.proofs.Vocabulary.{rules, ◌≡◌, ◌∙◌, ◌<◌, sym, ap, subst, arith, length, Some}
use Rattle.crx_compact.proofs.Vocabulary.{None, eqb-true, Content, HasMade, begins_epoch, step_in}
use Rattle.crx_compact.proofs.reading.Stages.{row-was_awaited, state-rows, step-by-stage}
use Rattle.crx_compact.proofs.Vocabulary.{step_with_rows, tail_of_history, Tail}
use Rattle.crx_compact.proofs.reading.{Blocks.{more-block, more-refused}, NoMemory.no-memory-in-epoch}
use Rattle.crx_compact.proofs.{reading.StepsByCode.{made-more, made-whole, step-whole}}
use Rattle.crx_compact.proofs.columns.Columns.feed.Goals as goal

pub returns-in-Ok-clause-made : goal.returns-in-Ok-clause-made
returns-in-Ok-clause-made c =
    let new = c.read_line.new in
    let rows = c.in-Ok-true.ensures.ok in
    let tail : Tail = tail_of_history new.history in
    let come : new.count ≡ length new.history.satellites.rows =
    eqb-true new.count (length new.history.satellites.rows) (sym rows.whole ∙ c.in-Ok-true.field-0-test) in
    let step : step_in c.args.self.now (Content c.args.line.now) ≡ step_with_rows tail new.count =
    search (rules, step-by-stage, c.self.view_is, c.in-Ok-true.ensures.ok) in
    made-whole _ tail new.count step (omega (arith, come)) c.in-Ok.ensures.ok

pub returns-in-Err-epoch-clause-memory : goal.returns-in-Err-epoch-clause-memory
returns-in-Err-epoch-clause-memory c = λ out.
    let inside = c.self.inside in
    let new = c.read_line.new in
    let rows = c.in-Ok-true.ensures.ok in
    let come : new.count ≡ length new.history.satellites.rows =
    eqb-true new.count (length new.history.satellites.rows) (sym rows.whole ∙ c.in-Ok-true.field-0-test) in
    let some : 0 < length new.history.satellites.rows = c.in-Err-epoch.ensures.memory.1 in (
      ap begins_epoch (sym c.of-padded.ensures.line) ∙ rows.start,
      row-was_awaited inside.is_kept inside.expected inside.count inside.history c.args.self.now
          c.self.view_is (rows.awaited (omega (arith, come, some))),
      step-whole _ (tail_of_history new.history) new.count
          (search (rules, step-by-stage, c.self.view_is, c.in-Ok-true.ensures.ok)) (omega (arith, come)),
    )

-- the line has a fault, which isn't OutOfMemory
pub returns-in-Err-clause-memory : goal.returns-in-Err-clause-memory
returns-in-Err-clause-memory c = λ out. absurd (no-memory-in-epoch c.args.self.now c.args.line.now
    c.in-Err.fault (search (rules, step-by-stage, c.self.view_is, c.in-Err.ensures.err)) out)

pub returns-in-Ok-false-clause-made : goal.returns-in-Ok-false-clause-made
returns-in-Ok-false-clause-made c =
    let new = c.read_line.new in
    let rows = c.in-Ok-false.ensures.ok in
    subst (λ s. HasMade (step_in c.args.self.now (Content c.args.line.now)) s None) (sym (state-rows
    c.self.inside.is_kept new.expected new.count new.history rows.rows)) (made-more _ (tail_of_history
    new.history) new.count (search (rules, step-by-stage, c.self.view_is, c.in-Ok-false.ensures.ok))
    (sym rows.whole ∙ c.in-Ok-false.field-0-test) rows.within)

pub returns-in-Ok-false-clause-block : goal.returns-in-Ok-false-clause-block
returns-in-Ok-false-clause-block c = λ types older lines r. record {
  made = more-block types older lines c.args.line.now r None _ (returns-in-Ok-false-clause-made c);
  refused = search rules;
}

pub returns-in-Ok-clause-block : goal.returns-in-Ok-clause-block
returns-in-Ok-clause-block c = λ types older lines r. record {
  made = more-block types older lines c.args.line.now r (Some c.in-Ok.epoch) _ (returns-in-Ok-clause-made c);
  refused = search rules;
}

pub returns-in-Err-clause-block : goal.returns-in-Err-clause-block
returns-in-Err-clause-block c = λ types older lines r.
    record { made = search rules; refused = more-refused types older lines c.args.line.now r (search rules) }
