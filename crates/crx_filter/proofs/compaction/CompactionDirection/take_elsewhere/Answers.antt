use Rattle.crx_filter.proofs.Vocabulary.{common_steps, arith, ap, refl, sym, ◌∙◌}
use Rattle.crx_filter.proofs.Vocabulary.{◌≡◌, ◌+◌, true, false, Choices, Header}
use Rattle.{crx_filter.proofs.Vocabulary.is_at_every, crx_compact.specs.Encoding.EncoderState}
use Rattle.crx_filter.proofs.steps.CompactionKnows.{compaction_of, copied-takes}
use Rattle.crx_filter.proofs.steps.CompactionKnows.{ended-takes, kept_in, moved-takes}
use Rattle.crx_filter.proofs.steps.CompactionKnows.{refused-takes}
use Rattle.crx_filter.proofs.steps.CompactionSteps.{copied-closed, is_copied, is_first_line}
use Rattle.crx_filter.proofs.steps.CompactionParts.{begun-asked, begun-open, begun-rows}
use Rattle.crx_filter.proofs.steps.CompactionParts.{begun-together, begun-whole, closed-together, none-there}
use Rattle.crx_filter.proofs.steps.CompactionParts.{same-together, served-closed, served-open}
use Rattle.{crx_filter.proofs.compaction.CompactionDirection.take_elsewhere.Goals.{After-begin_epoch, After-reset}}
use Rattle.crx_filter.proofs.compaction.CompactionDirection.take_elsewhere.Goals.{
  in_default-via-in-Header+else-this,
}
use Rattle.crx_filter.proofs.compaction.CompactionDirection.take_elsewhere.Goals.{in_default-via-in_default}
use Rattle.{crx_lines.specs.Reading.line_shown}
use Rattle.std.proofs.lemmas.Result.{err_from_is_err_and}
use Rattle.crx_filter.proofs.compaction.CompactionDirection.take_elsewhere.Goals as goal

-- an epoch that was begun is full if it is due
due : (c : After-begin_epoch) (choices : Choices) → choices ≡ c.args.options.now
    → c.begin_epoch.new.self.in_full ≡ is_at_every choices.every c.self.inside.index
due c choices chosen = ap (λ (e : EncoderState). e.in_full) c.begin_epoch.ensures.begun ∙ c.is_at_every.ensures
    ∙ ap (λ n. is_at_every n c.self.inside.index) c.every.ensures.value
    ∙ ap (λ (o : Choices). is_at_every o.every c.self.inside.index) (sym chosen)

pub invariant_of-self : goal.invariant_of-self
invariant_of-self c = same-together _ _ _ c.self.invariant c.in_err-take.ensures.reads.same

pub returns-in_err-take : goal.returns-in_err-take
returns-in_err-take c =
    let p = err_from_is_err_and c.from_residual.result c.from_residual.ensures.1 in
    let was = c.self.inside in
    let read = rw c.bytes.ensures.content at c.in_err-take.ensures.reads in
    let drained = rw (← c.self.view_is) at c.requires.asked.drained in
    let closed = rw (← c.self.view_is, ← read.same.stage) at c.requires.closed in
    rw (← c.self.view_is, p.1, p.2) (record {
      takes = refused-takes _ (compaction_of was.index was.reader was.encoder)
          (compaction_of was.index c.take.new.self was.encoder) (line_shown c.args.line) _
          (read.refuses (kept_in was))
          read.same.types refl
          (λ choices chosen. served-closed _ _ _ closed) drained;
    })

pub invariant_of-self-in-Nothing-1 : goal.invariant_of-self-in-Nothing-1
invariant_of-self-in-Nothing-1 c =
    let takes = c.in_ok-take.ensures.reads.takes (kept_in c.self.inside) in
    grind (arith, common_steps, closed-together, none-there, takes)

pub returns-in-Nothing : goal.returns-in-Nothing
returns-in-Nothing c =
    let was = c.self.inside in
    let takes =
    rw (c.in-Nothing.is, c.bytes.ensures.content) at (c.in_ok-take.ensures.reads.takes (kept_in was)) in
    let drained = rw (← c.self.view_is) at c.requires.asked.drained in
    rw (← c.self.view_is) (record {
      takes = moved-takes _ (compaction_of was.index was.reader was.encoder)
          (compaction_of was.index c.take.new.self was.encoder) (line_shown c.args.line) _
          takes.0 refl (λ choices chosen. served-closed _ _ _ takes.1) drained;
    })

pub invariant_of-self-then-is_in_epoch : goal.invariant_of-self-then-is_in_epoch
invariant_of-self-then-is_in_epoch c =
    grind (arith, common_steps, begun-together, c.in_ok-take.ensures.reads.takes (kept_in c.self.inside))

pub returns-then-is_in_epoch : goal.returns-then-is_in_epoch
returns-then-is_in_epoch c =
    let was = c.self.inside in
    let takes =
    rw (c.in-Begun.is, c.bytes.ensures.content) at (c.in_ok-take.ensures.reads.takes (kept_in was)) in
    let begun = c.begin_epoch.ensures.begun in
    let opened = sym c.is_in_epoch.ensures.value ∙ c.if-is_in_epoch.true in
    rw (← c.self.view_is) (record {
      takes = moved-takes _ (compaction_of was.index was.reader was.encoder)
          (compaction_of was.index c.take.new.self c.begin_epoch.new.self)
          (line_shown c.args.line) _
          (begun-open _ _ _ takes opened) (rw begun refl)
          (λ choices chosen.
          served-open _ _ _ (due (goal.at.returns-then-is_in_epoch c).After-begin_epoch choices chosen))
          (ap (λ (e : EncoderState). e.pending) begun);
    })

pub end_epoch-requires : goal.end_epoch-requires
end_epoch-requires c =
    let begins = rw c.in-Begun.is at (c.in_ok-take.ensures.reads.takes (kept_in c.self.inside)) in
    record {
      whole = begun-asked c.self.inside.encoder begins c.begin_epoch.ensures.begun
          (sym c.is_in_epoch.ensures.value ∙ c.if-is_in_epoch.false);
    }

pub invariant_of-self-in-Begun-1 : goal.invariant_of-self-in-Begun-1
invariant_of-self-in-Begun-1 c =
    let begins = rw c.in-Begun.is at (c.in_ok-take.ensures.reads.takes (kept_in c.self.inside)) in
    let closed = sym c.is_in_epoch.ensures.value ∙ c.if-is_in_epoch.false in
    let ends = c.end_epoch.ensures.ends _ (begun-whole _ _ _ begins closed).held in
    closed-together _ _ closed ends.closed ends.rows

pub returns-else-is_in_epoch : goal.returns-else-is_in_epoch
returns-else-is_in_epoch c =
    let was = c.self.inside in
    let takes =
    rw (c.in-Begun.is, c.bytes.ensures.content) at (c.in_ok-take.ensures.reads.takes (kept_in was)) in
    let begun = c.begin_epoch.ensures.begun in
    let done = begun-whole _ _ _ takes (sym c.is_in_epoch.ensures.value ∙ c.if-is_in_epoch.false) in
    let ends = c.end_epoch.ensures.ends done.head done.held in
    rw (← c.self.view_is) (record {
      takes = ended-takes _ (compaction_of was.index was.reader was.encoder)
          (compaction_of (was.index + 1) c.take.new.self c.end_epoch.new.encoder) (line_shown c.args.line) _
          done
          c.begin_epoch.new.self (due (goal.at.returns-else-is_in_epoch c).After-begin_epoch)
          (ap (λ (e : EncoderState). e.before) begun) (begun-rows was.encoder takes begun)
          ends refl;
    })

pub invariant_of-self-then-this : goal.invariant_of-self-then-this
invariant_of-self-then-this c =
    grind (arith, common_steps, closed-together, c.in_ok-take.ensures.reads.takes (kept_in c.self.inside))

pub returns-in-Header-true : goal.returns-in-Header-true
returns-in-Header-true c =
    let was = c.self.inside in
    let takes = rw (c.in-Header-true.is, c.bytes.ensures.content)
    at (c.in_ok-take.ensures.reads.takes (kept_in was)) in
    rw (← c.self.view_is) (record {
      takes = copied-takes _ (compaction_of was.index was.reader was.encoder)
          (compaction_of was.index c.take.new.self c.put_first_lines.new.self) (line_shown c.args.line) _
          (Header c.in-Header-true.is_first)
          c.date.result.now refl takes (λ choices chosen. rw chosen (sym c.date.ensures.value))
          (rw (c.in-Header-true.is_first-test, c.put_first_lines.ensures.put) refl) refl;
    })

-- the line is copied, and isn't the first header line
is-copied : (c : After-reset)
    → (is_copied c.in_ok-take.field-0 ≡ true) × (is_first_line c.in_ok-take.field-0 ≡ false)
is-copied c = elim c.in_default.branch [
  | in_default-via-in-Header+else-this w ↦ grind (arith, common_steps)
  | in_default-via-in_default w ↦ grind (arith, common_steps)
]

pub invariant_of-self-in_default : goal.invariant_of-self-in_default
invariant_of-self-in_default c =
    let copied = is-copied (goal.at.invariant_of-self-in_default c).After-reset in
    let takes = c.in_ok-take.ensures.reads.takes (kept_in c.self.inside) in
    let closed = copied-closed _ _ _ _ _ copied.0 takes in
    grind (arith, common_steps, closed-together, closed)

pub returns-in_default : goal.returns-in_default
returns-in_default c =
    let was = c.self.inside in
    let copied = is-copied (goal.at.returns-in_default c).After-reset in
    let takes = rw c.bytes.ensures.content at (c.in_ok-take.ensures.reads.takes (kept_in was)) in
    rw (← c.self.view_is) (record {
      takes = copied-takes _ (compaction_of was.index was.reader was.encoder)
          (compaction_of was.index c.take.new.self c.reset.new.self) (line_shown c.args.line) _
          _
          c.args.options.now.date copied.0 takes (λ choices chosen. rw chosen refl)
          (rw (copied.1, c.reset.ensures.emptied) refl) refl;
    })
