use Rattle.crx_filter.proofs.Vocabulary.{common_steps, arith, sym, ◌∙◌, ◌≡◌, ap, and_parts, List, ℕ, Ok}
use Rattle.crx_filter.proofs.steps.EngineAnswers.{goes-on}
use Rattle.crx_filter.proofs.steps.EngineFaults.{ends-failed, ends-skipped, ends-well}
use Rattle.crx_filter.proofs.engine.LineEngine.end.{Given.Over, Goals.{After-conclude, After-stage-stage}}
use Rattle.crx_filter.specs.DirectionParts.{DirectionParts, EngineParts, answer_for}
use Rattle.crx_filter.specs.EngineSteps.{answer_of_step}
use Rattle.crx_filter.specs.{EngineState.{EngineGoes, TakesEnd}}
use Rattle.crx_filter.specs.declared.engine.LineEngine.TheInside.{Inside}
use Rattle.crx_runs.specs.declared.engine.Step.{Step}
use Rattle.crx_runs.specs.declared.engine.Step.TheVariants as Steps
use Rattle.crx_filter.proofs.engine.LineEngine.end.Goals as goal

-- the engine before the end
abbrev engine : {D : Type 0} → Inside D → EngineParts D
engine e = record { options = e.options; number = e.number; direction = e.direction; answer = e.answer }

goes : (g : Over) (c : After-stage-stage g) → EngineGoes g.D.Direction (engine c.self.inside)
goes g c = goes-on g.D.Direction _ c.self.invariant.3 c.stage-stage.ensures.lawful

-- an end without a fault
concluded : (g : Over) (c : After-conclude g) (step : Step) → EngineGoes g.D.Direction (engine c.self.inside)
    → answer_of_step (Ok step) ≡ answer_for c.conclude.result
    → TakesEnd g.D.Direction (engine c.self.inside) (Ok step) (g.D.Direction.ready c.conclude.new.self)
    (record (engine c.self.inside) { direction = c.conclude.new.self })
concluded g c step goes answered =
    let d = g.D.Direction in
    let was = engine c.self.inside in
    let ends = c.conclude.ensures in
    let steps = ends-well d.by_line was.options was.number (d.parts was.direction) (d.parts
    c.conclude.new.self) c.stage-stage.result c.stage-stage.ensures.value c.stage-stage.ensures.held
    c.in_default.not-Ended (ap (λ (p : DirectionParts _ _). p.types) ends.parts) (d.lines_at_end was.direction) (Ok
    step) _ (answered ∙ ends.value) ends.ready (ap (λ (p : DirectionParts _ _). p.stage) ends.parts)
    (ap (λ (p : DirectionParts _ _). p.kept) ends.parts)
    (sym c.fault_at_end.ensures.value ∙ c.in_default-fault_at_end.is) in
    grind (arith, common_steps, d, was, ends, steps)

pub returns-then-conclude : goal.returns-then-conclude
returns-then-conclude g c =
    let at = goal.at.returns-then-conclude g c in
    grind (arith, common_steps, at, concluded g at.After-conclude Steps.Ready (goes g at.After-stage-stage))

pub returns-in_default-fault_at_end : goal.returns-in_default-fault_at_end
returns-in_default-fault_at_end g c =
    let at = goal.at.returns-in_default-fault_at_end g c in
    grind (arith, common_steps, at, concluded g at.After-conclude Steps.Quiet (goes g at.After-stage-stage))

pub returns-then-skip-may_skip : goal.returns-then-skip-may_skip
returns-then-skip-may_skip g c =
    let on = (and_parts _ _ (and_parts _ _ c.if-skip-may_skip.true).0).0 in
    rw (← c.self.view_is) (record {
      takes = record {
        goes = goes g (goal.at.returns-then-skip-may_skip g c).After-stage-stage;
        steps = grind (arith, common_steps, ends-skipped);
        closes = λ lines come known. (
          grind (arith, common_steps, ends-skipped),
          g.D.Direction.no_report_when_skipping _ _ lines come.taken_as (sym c.skip.ensures.value ∙ on),
        );
        stays = λ choices lines known. tt;
      };
    })

pub returns : goal.returns
returns g c =
    let d = g.D.Direction in
    let was = c.self.inside in
    let gone = c.end_with-2.ensures in
    let steps = λ (closing : List (List ℕ)). ends-failed d.by_line was.options was.number (d.parts
    was.direction) (d.parts c.end_with-2.new.self) c.stage-stage.result c.stage-stage.ensures.value
    c.stage-stage.ensures.held c.in_default.not-Ended gone.types closing c.in-Some.fault _ _ _
    c.skip.ensures.value c.may_skip.ensures.value c.is_skippable.ensures.value (sym
    c.fault_at_end.ensures.value ∙ c.in-Some.is) gone.kept gone.stage c.if-skip-may_skip.false in
    rw (← c.self.view_is) (record {
      takes = grind (arith, common_steps, d, was, gone, steps);
    })

pub returns-in-Ended : goal.returns-in-Ended
returns-in-Ended g c = rw (← c.self.view_is) (record {
  takes = grind (arith, common_steps);
})
