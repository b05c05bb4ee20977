use Rattle.std.proofs.{lemmas.Grind.common_steps}
use Rattle.rnxcmp_c.proofs.{EndAtLine.end-kept, WithinLemmas.{marks-within, step-stays, step-stops}}
use Rattle.rnxcmp_c.proofs.GoingLemmas.{all-ended, all-but_last, end-taken, stopped, taken-more}
use Rattle.rnxcmp_c.proofs.Vocabulary.{◌≡◌, ◌≤◌, ◌+◌, ℕ, List, [], ◌∷◌, length, false, arith, sym, refl, ap}
use Rattle.rnxcmp_c.proofs.Vocabulary.{err_from_is_err_and, ended_lines_of, length-append, piece_line, lines_of}
use Rattle.rnxcmp_c.proofs.Vocabulary.{IfErr-weaker, on_ok_weaker, BothTexts, TaskRun, None, ◌∙◌}
use Rattle.rnxcmp_c.specs.Going.{IsRunning, IsSoFar}
use Rattle.rnxcmp_c.proofs.lines.take_last.{Given.Over, Goals.{Joined-not-is_empty, else-not-is_empty}}
use Rattle.rnxcmp_c.proofs.lines.take_last.Goals as goal

-- all lines of the input were taken before its end
reached : (g : Over) (c : Joined-not-is_empty g) (run : TaskRun) (fed : List ℕ) (taken : BothTexts)
    → IsRunning g.E.Engine run c.args.engine.now c.args.held.now fed taken
    → IsSoFar run c.if-not-is_empty.held taken (lines_of fed)
    × g.E.Engine.shows c.if-not-is_empty.engine (lines_of fed) []
    × (g.E.Engine.filter c.if-not-is_empty.engine ≡ run.filter) × (c.if-not-is_empty.held.number ≤ length fed)
reached g c run fed taken is =
    grind (arith, common_steps, all-but_last is.1, taken-more is.1.after, all-ended is.1)

pub take_end-taken-requires-clause-within : goal.take_end-taken-requires-clause-within
take_end-taken-requires-clause-within g c =
    let r = c.requires.going in
    let at = (goal.at.take_end-taken-requires-clause-within g c).Joined-not-is_empty in
    let last = reached g at r.0 r.1 r.2 r.3 in
    omega (
      arith,
      g.met.E.Engine.counted c.if-not-is_empty.engine (lines_of r.1) [] last.1,
      last.0.number,
      last.3,
      r.4,
    )

pub count_output-requires : goal.count_output-requires
count_output-requires g c =
    let r = c.requires.going in
    let last = reached g (goal.at.count_output-requires g c).Joined-not-is_empty r.0 r.1 r.2 r.3 in
    let held = c.if-not-is_empty.held in
    let taken = c.take_end-taken in
    let step = end-kept _ _ held.output taken.new.writer held.messages taken.new.messages _ held.number _
    taken.result (taken.ensures.taken.becomes (lines_of r.1) None (last.1, refl)) in
    marks-within _ _ _ _ _ _ _ _ c.mark-mark.ensures _ step.0 step.1

pub returns-clause-ends : goal.returns-clause-ends
returns-clause-ends g c run fed taken is =
    let last = reached g (goal.at.returns-clause-ends g c).Joined-not-is_empty run fed taken is in
    let held = c.if-not-is_empty.held in
    let end = c.take_end-taken in
    let step = rw last.2 at (end-kept _ _ held.output end.new.writer held.messages end.new.messages _
    held.number _ end.result (end.ensures.taken.becomes (lines_of fed) None (last.1, refl))) in
    end-taken last.0 c.count_output.new.held fed refl _ _ (
      on_ok_weaker c.count_output.result (λ counted. step-stays 0 None _ _ _ _ _ _ _ c.mark-mark.ensures refl refl
          refl _ step.0 counted) c.count_output.ensures.good,
      IfErr-weaker _ _ _ (λ stop s. step-stops _ _ _ _ _ _ _ _ _ c.mark-mark.ensures refl refl _ step.0
          step.1 stop s) c.count_output.ensures.stops,
    )

pub returns-in_err-take_within-clause-ends : goal.returns-in_err-take_within-clause-ends
returns-in_err-take_within-clause-ends g c run fed taken is =
    let p = err_from_is_err_and c.from_residual.result c.from_residual.ensures.1 in
    let last = piece_line is.1.tail false in
    let whole =
    all-but_last is.1 (grind (arith, common_steps, c.is_empty.ensures, c.if-not-is_empty.true)) in
    rw (p.1, p.2) (
      tt,
      stopped is.1.after _ _ fed (last ∷ []) whole (length (ended_lines_of fed) + 1) refl
          (sym (ap length whole ∙ length-append (ended_lines_of fed) (last ∷ []))) _
          (rw (sym is.0) at (c.in_err-take_within.ensures.step _ is.1.tail is.1.shown is.1.kept).1),
    )
