use Rattle.std.proofs.{Common.rules, lemmas.Bool.lt-ltb}
use Rattle.rnxcmp_c.proofs.{EndAtLine.line-kept, PieceLemmas.{long-where_long, whole-where_not_long}}
use Rattle.rnxcmp_c.proofs.WithinLemmas.{marks-within, step-stays, step-stops}
use Rattle.rnxcmp_c.proofs.Vocabulary.{◌≡◌, ℕ, List, [], None, Some, ap, refl, subst, sym, ◌∙◌, take, take_all}
use Rattle.rnxcmp_c.proofs.Vocabulary.{IfErr-weaker, on_ok_weaker, InputLine, piece_line, LINE_ROOM}
use Rattle.crx_lines.specs.Reading.{line_shown}
use Rattle.rnxcmp_c.specs.Going.{LineIsGiven}
use Rattle.rnxcmp_c.proofs.lines.take_within.Given.{Over}
use Rattle.rnxcmp_c.proofs.lines.take_within.Goals.{Joined-content-gt-LINE_LIMIT, then-is_ended}
use Rattle.rnxcmp_c.proofs.lines.take_within.Goals.{else-is_ended, then-content-gt-LINE_LIMIT}
use Rattle.rnxcmp_c.proofs.lines.take_within.Goals.{else-content-gt-LINE_LIMIT}
use Rattle.rnxcmp_c.proofs.lines.take_within.Goals as goal

-- the engine was fed the line, too long or not, and the state besides the texts is unchanged
given : (g : Over) (c : Joined-content-gt-LINE_LIMIT g) (lines : List InputLine) (whole : List ℕ)
    → g.E.Engine.shows c.args.engine.now lines [] → c.args.held.now.tail.bytes.items ≡ take LINE_ROOM whole
    → LineIsGiven c.if-content-gt-LINE_LIMIT.taken (g.E.Engine.filter c.args.engine.now)
    (g.E.Engine.shows c.if-content-gt-LINE_LIMIT.engine) lines (piece_line whole c.args.is_ended)
    c.args.held.now.output c.if-content-gt-LINE_LIMIT.held.output c.args.held.now.messages
    c.if-content-gt-LINE_LIMIT.held.messages × (c.if-content-gt-LINE_LIMIT.held.limit ≡ c.args.held.now.limit)
    × (c.if-content-gt-LINE_LIMIT.held.left ≡ c.args.held.now.left)
    × (c.if-content-gt-LINE_LIMIT.held.warned ≡ c.args.held.now.warned)
given g c lines whole shown kept =
    let held = c.args.held.now in
    let bytes = c.deref.ensures.value ∙ kept in
    elim c.if-content-gt-LINE_LIMIT.branch [
      | then-content-gt-LINE_LIMIT w ↦
          let taken = w.take_overlong-taken in
          let long = lt-ltb _ _ (long-where_long _ whole bytes
          (rw c.content_of-has_return.ensures.content at w.if-content-gt-LINE_LIMIT.true)) in
          rw (w.taken-is, w.engine-is, w.held-is) (
            line-kept _ _ held.output taken.new.writer held.messages taken.new.messages _ _ _ _
                (taken.ensures.taken.becomes lines (Some (piece_line whole _)) (shown, (_, refl, long))),
            refl,
            refl,
            refl,
          )
      | else-content-gt-LINE_LIMIT w ↦
          let taken = w.take_line-taken in
          let all = whole-where_not_long _ whole bytes
          (rw c.content_of-has_return.ensures.content at w.if-content-gt-LINE_LIMIT.false) in
          let same : line_shown w.of-line.result ≡ piece_line c.deref.result.now c.args.is_ended =
          elim w.if-is_ended.branch [ then-is_ended v ↦ search rules | else-is_ended v ↦ search rules ] in
          rw (w.taken-is, w.engine-is, w.held-is) (
            subst (λ (line : InputLine).
                LineIsGiven taken.result (g.E.Engine.filter c.args.engine.now)
                (g.E.Engine.shows taken.new.engine) lines line held.output taken.new.writer held.messages
                taken.new.messages) (same ∙ ap (λ bs. piece_line bs c.args.is_ended) all)
                (line-kept _ _ held.output taken.new.writer held.messages taken.new.messages _ _ _ _
                (taken.ensures.taken.becomes lines _ (shown, refl))),
            refl,
            refl,
            refl,
          )
    ]

pub count_output-requires : goal.count_output-requires
count_output-requires g c =
    let kept = c.args.held.now.tail.bytes.items in
    let step =
    given g (goal.at.count_output-requires g c).Joined-content-gt-LINE_LIMIT
    c.requires.shown.1.0 kept c.requires.shown.1.1
    (sym (take_all LINE_ROOM kept c.args.held.now.tail.within)) in
    marks-within _ _ _ _ _ _ _ _ c.mark-mark.ensures _ step.0.0 step.0.1

pub returns-clause-step : goal.returns-clause-step
returns-clause-step g c = λ lines whole shown kept.
    let at = (goal.at.returns-clause-step g c).Joined-content-gt-LINE_LIMIT in
    let number = c.requires.next ∙ g.met.E.Engine.counted _ lines [] shown in
    let step = rw (← number) at (given g at lines whole shown kept) in
    rw (← number) (
      on_ok_weaker _ (λ counted. step-stays 0 None _ _ _ _ _ _ _ c.mark-mark.ensures step.1 step.2 step.3 _
          step.0.0 counted) c.count_output.ensures.good,
      IfErr-weaker _ _ _ (λ stop s. step-stops _ _ _ _ _ _ _ _ _ c.mark-mark.ensures step.1 step.2 _ step.0.0
          step.0.1 stop s) c.count_output.ensures.stops,
    )
