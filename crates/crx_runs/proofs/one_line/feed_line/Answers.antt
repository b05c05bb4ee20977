use Rattle.std.proofs.Common.{[], List, Err, Some, arith, refl, ◌∙◌}
use Rattle.std.specs.Prelude.{⊤}
use Rattle.std.proofs.lemmas.{Grind.common_steps, Result.err_from_is_err_and}
use Rattle.crx_base.specs.meaning.Lines.{InputLine}
use Rattle.crx_lines.specs.Reading.{line_shown}
use Rattle.crx_runs.proofs.{DeviceSpans.joins-idle, LinesTaken.{handed-becomes, ready-cut}}
use Rattle.crx_runs.proofs.one_line.feed_line.{Given.Over, Goals.After-take}
use Rattle.crx_runs.specs.declared.one_line.Halt.TheVariants.{Unwritten}
use Rattle.crx_runs.specs.Engines.{EngineAnswers, answer_given, lines_handed_out}
use Rattle.crx_runs.proofs.one_line.feed_line.Goals as goal

-- The engine's answer to the line.
answered : (g : Over) (c : After-take g) (lines : List InputLine) → g.E.Engine.shows c.args.engine.now lines
    []
    → EngineAnswers (g.E.Engine.filter c.args.engine.now) (g.E.Engine.shows c.take.new.self)
    (g.E.Engine.has_ended c.take.new.self)
    (lines_handed_out c.take.result (line_shown c.args.line).content (g.E.Engine.ready c.take.new.self)) lines
    [] (Some (line_shown c.args.line)) (answer_given c.take.result (g.E.Engine.answer c.take.new.self))
answered g c lines shown = c.take.ensures.answers lines [] shown tt

pub returns-in_err-write_line_output-in-Some : goal.returns-in_err-write_line_output-in-Some
returns-in_err-write_line_output-in-Some g c =
    let at = (goal.at.returns-in_err-write_line_output-in-Some g c).After-take in
    let kept = c.write_line_output.ensures.kept in
    let p = err_from_is_err_and c.from_residual.result c.from_residual.ensures.1 in
    record {
      taken = rw (p.1) (record {
        filter = kept.filter ∙ c.take.ensures.stepped.filter;
        drained = tt;
        becomes = λ lines next comes. rw (comes.1) (handed-becomes joins-idle joins-idle (g.E.Engine.filter
            c.args.engine.now) lines (Some _) [] (refl, refl) (refl, refl) g.E.Engine c.take.new.self _
            c.in-Some.handed_out (g.E.Engine.answer c.take.new.self) (rw c.in-Some.is at (answered g at lines
            comes.0)) (rw c.in-Some.is at c.take.ensures.stepped.drained) ⊤ (λ shown. tt) (Err Unwritten) _ refl
            (ready-cut _ _ _ (rw (c.bytes.ensures.content) at c.in_err-write_line_output-in-Some.ensures.part)
            (g.met.M.Sink.took_none _, refl)));
      });
      untouched = λ is. absurd (grind (arith, common_steps, p));
      awaited = c.write_line_output.ensures.awaited;
    }
