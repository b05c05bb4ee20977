use Rattle.std.proofs.Common.{arith, ◌+◌, length, ap, ◌∙◌, rules}
use Rattle.std.proofs.lemmas.Result.{err_from_is_err_and}
use Rattle.std.specs.List.{Contains}
use Rattle.crx_lines.proofs.SeekLemmas.{Seeking-start, Seeking-step}
use Rattle.crx_lines.proofs.SeekLemmas.{Seeking-ends, Seeking-filled, Seeking-not_old}
use Rattle.crx_lines.specs.{Seeking.Seeking, Window.kept}
use Rattle.crx_lines.proofs.seek.seek.Given.{Over}
use Rattle.crx_lines.proofs.seek.seek.Goals.{After-fill}
use Rattle.crx_lines.proofs.seek.seek.Goals as goal

pub seeking-init : goal.seeking-init
seeking-init g c = search (rules, Seeking-start)

-- all that is held has been searched
module _ (g : Over) (c : After-fill g) where
  searched : Seeking (λ given. g.R.Source.gave c.args.reader.now given c.seeking.reader)
      (kept c.args.window.now) (kept c.drop_long_line.new.self) c.args.before c.seeking.room
      (c.seeking.passed + c.drop_long_line.result) (length (kept c.drop_long_line.new.self))
  searched =
      Seeking-step _ _ _ _ _ _ _ _ _ _ c.seeking.invariant.0 c.as_slice-in-seeking.ensures.value
      c.in_default.ensures.none c.drop_long_line.ensures.count

  not_old : Contains (kept c.args.window.now) 10 → ⊥
  not_old = Seeking-not_old _ _ _ _ _ _ searched

pub returns-in_err-count-clause-fault : goal.returns-in_err-count-clause-fault
returns-in_err-count-clause-fault g c =
    let at = (goal.at.returns-in_err-count-clause-fault g c).After-fill in
    let p = err_from_is_err_and c.from_residual.result c.from_residual.ensures.1 in
    let end = rw (c.seeking.invariant.1, c.seeking.invariant.2) at c.in_err-count.ensures.fault in
    rw (p.1, p.2) (Seeking-ends _ _ _ _ _ _ (searched g at) _ (λ given. g.R.Source.gave _ given _)
    (λ given more. g.met.R.Source.gave_both _ c.seeking.reader _ given more) _ _ _ end)

pub returns-in_err-count-clause-unasked : goal.returns-in_err-count-clause-unasked
returns-in_err-count-clause-unasked g c has =
    absurd (not_old g (goal.at.returns-in_err-count-clause-unasked g c).After-fill has)

pub returns-then-count-eq0-clause-ok : goal.returns-then-count-eq0-clause-ok
returns-then-count-eq0-clause-ok g c =
    let at = (goal.at.returns-then-count-eq0-clause-ok g c).After-fill in
    let more = c.in_ok-count.ensures.ok in (
      _,
      Seeking-filled _ _ _ _ _ _ (searched g at) (λ given. g.R.Source.gave _ given _) _ more.0 _ _
          (λ given lead. g.met.R.Source.gave_both _ c.seeking.reader _ given more.0 lead more.4) more.1 more.2
          more.3 (ap length c.as_slice-searched.ensures.value),
    )

pub returns-then-count-eq0-clause-unasked : goal.returns-then-count-eq0-clause-unasked
returns-then-count-eq0-clause-unasked g c has =
    absurd (not_old g (goal.at.returns-then-count-eq0-clause-unasked g c).After-fill has)

pub seeking-preserved : goal.seeking-preserved
seeking-preserved g c =
    let at = (goal.at.seeking-preserved g c).After-fill in
    let more = c.in_ok-count.ensures.ok in (
      Seeking-filled _ _ _ _ _ _ (searched g at) (λ given. g.R.Source.gave _ given _) _ more.0 _ _
          (λ given lead. g.met.R.Source.gave_both _ c.seeking.reader _ given more.0 lead more.4) more.1 more.2
          more.3 (ap length c.as_slice-searched.ensures.value),
      c.in_ok-count.ensures.counted.0 ∙ c.seeking.invariant.1,
      grind (arith, c.in_ok-count.ensures.counted.1, c.seeking.invariant.2),
      λ has. absurd (not_old g at has),
    )
