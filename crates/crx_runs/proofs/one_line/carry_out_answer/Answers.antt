use Rattle.std.proofs.lemmas.{Grind.common_steps, Result.err_from_is_err_and}
use Rattle.std.proofs.Common.{◌≡◌, [], ◌∷◌, true, false, List, Ok, Err, Some, arith, refl, sym, ap, ◌∙◌}
use Rattle.std.specs.Prelude.{⊤}
use Rattle.crx_base.specs.meaning.Lines.{InputLine}
use Rattle.crx_lines.specs.Reading.{line_shown}
use Rattle.crx_runs.proofs.{DeviceSpans.{joins-idle, span-joins}}
use Rattle.crx_runs.proofs.LinesTaken.{again-out, handed-becomes, line-becomes, ready-all, ready-cut}
use Rattle.crx_runs.proofs.LinesTaken.{stays-then}
use Rattle.crx_runs.proofs.one_line.carry_out_answer.{Given.Over, Goals.After-take}
use Rattle.crx_runs.specs.Engines.{Awaited, EngineAnswers, answer_given, lines_handed_out}
use Rattle.crx_runs.specs.declared.engine.Step.TheVariants.{Warned}
use Rattle.crx_runs.specs.declared.one_line.Halt.TheVariants.{Unwritten}
use Rattle.crx_runs.specs.meaning.{Messages.notices_text, Spans.{TookAll, span}}
use Rattle.crx_runs.proofs.one_line.carry_out_answer.Goals as goal

is-again : (g : Over) (c : After-take g) → c.in_ok-step.step ≡ Warned c.in-Warned-default-true.notice true
is-again = grind (arith, common_steps)

-- The line, and the warning after which it is fed again.
abbrev line : (g : Over) → After-take g → InputLine
line g c = line_shown c.args.line

abbrev first : (g : Over) → After-take g → Awaited
first g c = record { notice = c.in-Warned-default-true.notice; line = line g c }

first-out : (g : Over) (c : After-take g) → TookAll (span g.W.Sink c.args.writer.now c.write_step.new.writer)
    []
    × TookAll (span g.M.Sink c.args.messages.now c.write_step.new.messages)
    (notices_text (c.in-Warned-default-true.notice ∷ [])) × (c.in_ok-warned.warned ≡ true)
first-out g c = again-out (g.E.Engine.ready c.args.engine.now) _ _ _ (is-again g c)
    (rw (sym c.answer.ensures.value ∙ c.in_ok-step.was) at c.requires.drained) c.in_ok-warned.ensures.settled

-- The answer to the line fed again.
second : (g : Over) (c : After-take g) (lines : List InputLine)
    → EngineAnswers (g.E.Engine.filter c.args.engine.now) (g.E.Engine.shows c.args.engine.now)
    (g.E.Engine.has_ended c.args.engine.now) (g.E.Engine.ready c.args.engine.now) lines [] (Some (line g c))
    (g.E.Engine.answer c.args.engine.now)
    → EngineAnswers (g.E.Engine.filter c.args.engine.now) (g.E.Engine.shows c.take.new.self)
    (g.E.Engine.has_ended c.take.new.self) (lines_handed_out
    c.take.result (line g c).content (g.E.Engine.ready c.take.new.self)) lines
    (first g c ∷ []) (Some (line g c)) (answer_given c.take.result (g.E.Engine.answer c.take.new.self))
second g c lines a = grind (arith, common_steps, is-again)

pub returns-in_err-warned-clause-taken : goal.returns-in_err-warned-clause-taken
returns-in_err-warned-clause-taken g c =
    let p = err_from_is_err_and c.from_residual-in_err-warned.result c.from_residual-in_err-warned.ensures.1
    in
    let is = sym c.answer.ensures.value ∙ c.in_ok-step.was in
    rw (p.1, p.2) (record {
      filter = c.write_step.ensures.kept.filter;
      drained = tt;
      becomes = λ lines next comes. line-becomes joins-idle joins-idle (g.E.Engine.filter c.args.engine.now)
          lines next [] (refl, refl) (refl, refl) g.E.Engine c.args.engine.now (g.E.Engine.ready
          c.args.engine.now) c.in_ok-step.step (rw (is) at c.requires.drained) (rw (is) at comes.0) ⊤ (λ
          shown. tt) (Err _) _ refl tt c.in_err-warned.ensures.settled;
    })

pub returns-in-Ok-clause-taken : goal.returns-in-Ok-clause-taken
returns-in-Ok-clause-taken g c =
    let at = (goal.at.returns-in-Ok-clause-taken g c).After-take in
    let out = first-out g at in
    let kept = c.write_line_output.ensures.kept in
    record {
      filter = kept.filter ∙ c.take.ensures.stepped.filter ∙ c.write_step.ensures.kept.filter;
      drained = c.in-Ok.ensures.drained;
      becomes = λ lines next comes. rw (comes.1) (handed-becomes (span-joins g.W.Sink g.met.W.Sink.took_both)
          (span-joins g.M.Sink g.met.M.Sink.took_both) (g.E.Engine.filter c.args.engine.now) lines (Some (line
          g at)) (first g at ∷ []) out.0 out.1 g.E.Engine c.take.new.self _ c.in-Some.handed_out
          (g.E.Engine.answer c.take.new.self) (rw c.in-Some.is at (second g at lines (rw comes.1 at comes.0)))
          (rw c.in-Some.is at c.take.ensures.stepped.drained) _ (kept.shows _ []) (Ok false) _ (ap Ok out.2)
          (ready-all _ _ _ (rw (c.bytes.ensures.content) at c.in-Ok.ensures.all) (
            g.met.M.Sink.took_none _,
            refl,
          )));
    }

pub returns-in-Err-clause-taken : goal.returns-in-Err-clause-taken
returns-in-Err-clause-taken g c =
    let at = (goal.at.returns-in-Err-clause-taken g c).After-take in
    let out = first-out g at in
    let kept = c.write_line_output.ensures.kept in
    record {
      filter = kept.filter ∙ c.take.ensures.stepped.filter ∙ c.write_step.ensures.kept.filter;
      drained = tt;
      becomes = λ lines next comes. rw (comes.1) (handed-becomes (span-joins g.W.Sink g.met.W.Sink.took_both)
          (span-joins g.M.Sink g.met.M.Sink.took_both) (g.E.Engine.filter c.args.engine.now) lines (Some (line
          g at)) (first g at ∷ []) out.0 out.1 g.E.Engine c.take.new.self _ c.in-Some.handed_out
          (g.E.Engine.answer c.take.new.self) (rw c.in-Some.is at (second g at lines (rw comes.1 at comes.0)))
          (rw c.in-Some.is at c.take.ensures.stepped.drained) ⊤ (λ shown. tt) (Err Unwritten) _ refl
          (ready-cut _ _ _ (rw (c.bytes.ensures.content) at c.in-Err.ensures.part) (
            g.met.M.Sink.took_none _,
            refl,
          )));
    }

pub returns-in_err-write_step-in-None-clause-taken : goal.returns-in_err-write_step-in-None-clause-taken
returns-in_err-write_step-in-None-clause-taken g c =
    let at = (goal.at.returns-in_err-write_step-in-None-clause-taken g c).After-take in
    let out = first-out g at in
    let made = c.from_residual-in_err-write_step-in-None in
    let p = err_from_is_err_and made.result made.ensures.1 in
    let is = sym c.answer-in-None.ensures.value ∙ c.in_ok-second-in-None.was in
    rw (p.1, p.2) (record {
      filter = grind (arith, common_steps);
      drained = tt;
      becomes = λ lines next comes. rw (comes.1) (line-becomes (span-joins g.W.Sink g.met.W.Sink.took_both)
          (span-joins g.M.Sink g.met.M.Sink.took_both) (g.E.Engine.filter c.args.engine.now) lines (Some (line
          g at)) (first g at ∷ []) out.0 out.1 g.E.Engine c.take.new.self (g.E.Engine.ready c.take.new.self)
          c.in_ok-second-in-None.second (rw (c.in-None.is, is) at c.take.ensures.stepped.drained) (rw
          (c.in-None.is, is) at (second g at lines (rw comes.1 at comes.0))) ⊤ (λ shown. tt) (Err _) _ refl tt
          c.in_err-write_step-in-None.ensures.settled);
    })

pub returns-in_ok-write_step-in-None-clause-taken : goal.returns-in_ok-write_step-in-None-clause-taken
returns-in_ok-write_step-in-None-clause-taken g c =
    let at = (goal.at.returns-in_ok-write_step-in-None-clause-taken g c).After-take in
    let then = c.take.new.self in
    let out = first-out g at in
    let kept = c.write_step-in-None.ensures.kept in
    let is = sym c.answer-in-None.ensures.value ∙ c.in_ok-second-in-None.was in
    record {
      filter = kept.filter ∙ c.take.ensures.stepped.filter ∙ c.write_step.ensures.kept.filter;
      drained = c.in_ok-write_step-in-None.ensures.drained;
      becomes = λ lines next comes. let answered = rw (c.in-None.is, is) at (second g at lines (rw comes.1 at
          comes.0)) in rw (comes.1) (line-becomes (span-joins g.W.Sink g.met.W.Sink.took_both) (span-joins
          g.M.Sink g.met.M.Sink.took_both) (g.E.Engine.filter c.args.engine.now) lines (Some (line g at))
          (first g at ∷ []) out.0 out.1 g.E.Engine then (g.E.Engine.ready then) c.in_ok-second-in-None.second
          (rw (c.in-None.is, is) at c.take.ensures.stepped.drained) answered _ (kept.shows _ []) (Ok _) _ (ap
          Ok out.2) (stays-then (g.E.Engine.filter c.args.engine.now) g.E.Engine then (g.E.Engine.ready then)
          lines (first g at) (Some (line g at)) c.in_ok-second-in-None.second answered)
          c.in_ok-write_step-in-None.ensures.settled);
    }
