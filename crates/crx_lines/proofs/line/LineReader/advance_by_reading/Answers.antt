use Rattle.std.proofs.Common.{◌≡◌, ℕ, ◌+◌, ◌-◌, ◌≤◌, ⊎_elim, inl, inr, cond, List, length}
use Rattle.std.proofs.{Common.{true, ◌<◌, ◌⊎◌, take, drop, sym, ap, ◌∙◌, refl, arith, rules}}
use Rattle.std.proofs.{lemmas.List.length-drop}
use Rattle.crx_lines.proofs.AdvanceLemmas.{piece_at, passed-within, takes, some-byte, whole-piece, held-is}
use Rattle.crx_lines.proofs.AdvanceLemmas.{some-read, too-long, none-passed, content-long, fault-answers}
use Rattle.crx_lines.specs.{Readers.reading, Window.{cut_shown, kept}}
use Rattle.crx_lines.specs.Reading.{ReaderState, TakesPiece}
use Rattle.crx_lines.specs.declared.phase.Phase.TheVariants.{Open, Ended}
use Rattle.crx_base.specs.{declared.limits.TheConstants.INPUT_LIMIT, meaning.Lines.{InputLine, line_of}}
use Rattle.crx_lines.proofs.line.LineReader.advance_by_reading.Given.{Over}
use Rattle.crx_lines.proofs.line.LineReader.advance_by_reading.Goals.{After-cut_line-cut}
use Rattle.crx_lines.proofs.line.LineReader.advance_by_reading.Goals.{then-found-2, else-found-2}
use Rattle.crx_lines.proofs.line.LineReader.advance_by_reading.Goals as goal
use Rattle.std.proofs.lemmas.Grind.{common_steps}

pub returns-in-Err-clause-answers : goal.returns-in-Err-clause-answers
returns-in-Err-clause-answers g c = grind (arith, common_steps, fault-answers)

-- the taken line, and the bytes left after it
module _ (g : Over) (c : After-cut_line-cut g) where
  abbrev held : List ℕ
  held = kept c.seek.new.window

  abbrev n : ℕ
  n = c.in-Ok.found.len + c.from.result

  start-is : kept c.deref_mut.result.now ≡ kept c.args.self.now.window.value
  start-is = ap kept c.deref_mut.ensures.value

  count : n ≡ c.in-Ok.found.len + cond c.in-Ok.found.is_ended 1 0
  count = held-is c.in-Ok.found.len _ _ c.from.ensures

  within : c.args.self.now.passed + (c.in-Ok.found.passed + n) + (length held - n) ≤ INPUT_LIMIT
  within =
      passed-within _ _ _ _ c.in-Ok.ensures.ok.0 _ _ _ _ _ c.in-Ok.ensures.ok.1 c.in-Ok.ensures.end count

  some : (0 < c.in-Ok.found.passed + c.in-Ok.found.len) ⊎ (c.in-Ok.found.is_ended ≡ true)
  some = some-read c.in-Ok.found.passed c.in-Ok.found.len _ c.if-found.false

  left : kept c.cut_line-cut.new.self ≡ drop n held
  left = grind (arith, common_steps)

  line : cut_shown c.cut_line-cut.new.self.bytes.items c.cut_line-cut.result
      ≡ line_of (record { bytes = take c.in-Ok.found.len held; is_ended = c.in-Ok.found.is_ended })
  line = grind (arith, common_steps)

  taken : (after : ReaderState) → after.rest ≡ kept c.cut_line-cut.new.self
      → after.passed ≡ c.args.self.now.passed + (c.in-Ok.found.passed + n)
      → after.number ≡ c.args.self.now.number + 1 → after.phase ≡ cond c.in-Ok.found.is_ended Open Ended
      → TakesPiece (reading c.args.self.now) c.in-Ok.ensures.ok.1.given (g.R.Source.at_end c.seek.new.reader)
      (piece_at c.in-Ok.ensures.ok.1.front held c.in-Ok.found.len c.in-Ok.found.is_ended) after
  taken after rest passes number phase =
      takes _ _ _ _ _ _ _ _ _ _ c.in-Ok.ensures.ok.1 c.in-Ok.ensures.end count some (reading c.args.self.now)
      after (sym start-is) refl (rest ∙ left) passes number phase

pub overflow_add-self : goal.overflow_add-self
overflow_add-self g c = omega (arith, within g (goal.at.overflow_add-self g c).After-cut_line-cut)

pub overflow_add-self-2 : goal.overflow_add-self-2
overflow_add-self-2 g c = omega (arith, within g (goal.at.overflow_add-self-2 g c).After-cut_line-cut)

pub invariant_of-self-2 : goal.invariant_of-self-2
invariant_of-self-2 g c = grind (arith, common_steps, some-byte, length-drop)

pub returns-then-found-cut-clause-answers : goal.returns-then-found-cut-clause-answers
returns-then-found-cut-clause-answers g c =
    let at = (goal.at.returns-then-found-cut-clause-answers g c).After-cut_line-cut in
    let s = c.in-Ok.ensures.ok.1 in
    let found = c.in-Ok.found in
    let cut = c.cut_line-cut.result in
    let over = ⊎_elim (λ h. inl h) (λ h. inr (omega (arith, h, c.cut_line-cut.ensures.cut.3)))
    (too-long found.passed (cut.to - cut.from) c.if-found-cut.true) in (
      s.given,
      s.lead,
      (
        piece_at s.front (held g at) found.len found.is_ended,
        taken g at _ refl refl refl
            (elim c.if-found-2.branch [ then-found-2 w ↦ search rules | else-found-2 w ↦ search rules ]),
        content-long _ _ _ _ _ _ _ _ _ _ s c.in-Ok.ensures.end (count g at) _
            (ap (λ (l : InputLine). l.content) (line g at)) over,
        refl,
        c.in-Ok.ensures.counted,
      ),
    )

pub returns-clause-answers : goal.returns-clause-answers
returns-clause-answers g c =
    let at = (goal.at.returns-clause-answers g c).After-cut_line-cut in
    let s = c.in-Ok.ensures.ok.1 in
    let found = c.in-Ok.found in
    let whole = whole-piece _ _ _ _ _ _ _ _ _ _ s c.in-Ok.ensures.end (count g at)
    (none-passed found.passed _ c.if-found-cut.false) in (
      s.given,
      s.lead,
      (
        piece_at s.front (held g at) found.len found.is_ended,
        taken g at _ refl refl refl
            (elim c.if-found-2.branch [ then-found-2 w ↦ search rules | else-found-2 w ↦ search rules ]),
        line g at ∙ ap (λ bytes. line_of (record { bytes = bytes; is_ended = found.is_ended })) (sym whole),
        refl,
        c.in-Ok.ensures.counted,
      ),
    )
