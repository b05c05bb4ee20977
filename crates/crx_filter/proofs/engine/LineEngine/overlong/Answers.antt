use Rattle.crx_filter.proofs.Vocabulary.{common_steps, arith, ap, refl, ◌∙◌, sym, ◌+◌, inl, List, [], ℕ, LineStep}
use Rattle.crx_filter.proofs.Vocabulary.{step_made, LineTooLong, Overlong}
use Rattle.crx_filter.proofs.steps.EngineAnswers.{as-read-long, goes-on}
use Rattle.crx_filter.proofs.steps.EngineFaults.{long-next, none-handed, refused-takes}
use Rattle.crx_filter.specs.{DirectionParts.EngineParts, EngineState.engine_state}
use Rattle.crx_filter.proofs.engine.LineEngine.overlong.Goals as goal

pub returns-in_default : goal.returns-in_default
returns-in_default g c =
    let d = g.D.Direction in
    let now = c.stage-stage.ensures in
    let then = c.fail.new.self in
    let was : EngineParts _ = record {
      options = c.self.inside.options;
      number = c.self.inside.number;
      direction = c.self.inside.direction;
      answer = c.self.inside.answer;
    } in
    let law = now.lawful was.options c.self.invariant.3 in
    let next = long-next d.by_line law.too_long_first law.too_long_next was.options was.number
    c.stage-stage.result (d.parts was.direction) now.value now.held (grind (
      arith,
      common_steps,
      c.in_default.not-Looking,
      c.in_default.not-Closed,
      c.in_default.not-Ended,
    )) in
    let stopped = c.fail.ensures.fails _ c.may_skip.ensures.value c.is_in_epoch-is_open.ensures.value
    (d.parts was.direction) Overlong was.number
    (record { stage_was = sym now.value; held = now.held; types = refl; kept = refl; goes = refl })
    (c.requires.next.next ∙ ap (λ (e : EngineParts _). e.number + 1) (sym c.self.view_is)) in
    let drained = ap (λ (s : LineStep _ _). s.handed_out) stopped ∙ none-handed d.by_line (engine_state d was)
    Overlong LineTooLong in
    let made = ap (λ (ls : List (List ℕ)). step_made then.answer ls (engine_state d then)) (sym drained)
    ∙ stopped in
    rw (ap (λ (e : EngineParts _). e.answer) c.self-in_default.view_is, ← c.self.view_is) (record {
      steps = made ∙ sym next;
      drained = drained;
      takes = λ line long. refused-takes d was then line
          (goes-on d was c.self.invariant.3 now.lawful) now.passes c.fail.ensures.stays LineTooLong
          Overlong _ [] made (as-read-long line long) (inl (made ∙ sym next));
      once = c.fail.ensures.once refl;
    })
