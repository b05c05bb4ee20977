use Rattle.crx_filter.proofs.Vocabulary.{common_steps, arith, ◌≡◌, List, ℕ, Bool, false, [], None, Some}
use Rattle.crx_filter.proofs.Vocabulary.{if◌then◌else◌}
use Rattle.crx_filter.proofs.{lender.Lender.feed.{Given.Over, Goals.After-answer_line}}
use Rattle.{crx_filter.specs.LenderState.lines_then, crx_lines.specs.Reading.line_shown}
use Rattle.crx_filter.proofs.lender.Lender.feed.Goals as goal

-- no line is pending before it
none-pending : (ready : List (List ℕ)) (is_pending : Bool) (line : List ℕ)
    → lines_then ready (if is_pending then Some line else None) ≡ [] → is_pending ≡ false
none-pending ready is_pending line none = grind (arith, common_steps)

not-pending : (g : Over) (c : After-answer_line g) → c.self.inside.is_pending ≡ false
not-pending g c = none-pending _ _ _ (rw (← c.self.view_is) at c.requires.next.drained)

pub returns-in-None : goal.returns-in-None
returns-in-None g c =
    let drained = not-pending g (goal.at.returns-in-None g c).After-answer_line in
    grind (arith, common_steps, drained)

pub returns-in-Some-Nothing : goal.returns-in-Some-Nothing
returns-in-Some-Nothing g c =
    let takes = rw (c.in-Some-Nothing.is, c.in-Some-Nothing.field-0-is) at c.answer_line.ensures.takes in
    grind (arith, common_steps, takes, not-pending)

pub returns-in-Some-Lines : goal.returns-in-Some-Lines
returns-in-Some-Lines g c =
    rw (← c.self.view_is, not-pending g (goal.at.returns-in-Some-Lines g c).After-answer_line)
    (record { takes = rw (c.in-Some-Lines.is, c.in-Some-Lines.field-0-is) at c.answer_line.ensures.takes })

pub returns-in-Some-AsItIs : goal.returns-in-Some-AsItIs
returns-in-Some-AsItIs g c =
    let text : c.append.new.text ≡ (line_shown c.args.line).content = grind (arith, common_steps) in
    grind (arith, common_steps, text)
