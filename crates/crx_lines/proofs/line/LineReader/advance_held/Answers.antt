use Rattle.std.proofs.Common.{◌≡◌, ℕ, true, ◌+◌, ◌-◌, List, length, [], inr, drop, IsTrue, ap, ◌∙◌}
use Rattle.std.proofs.Common.{refl}
use Rattle.std.proofs.{Common.{arith, subst}, lemmas.Bool.lt-ltb}
use Rattle.crx_base.specs.declared.limits.TheConstants.{INPUT_LIMIT}
use Rattle.crx_base.specs.meaning.Lines.{Piece, line_of}
use Rattle.crx_lines.proofs.AdvanceLemmas.{EndIs, piece_at, takes, whole-piece}
use Rattle.crx_lines.proofs.SeekLemmas.{Seeking-start, Seeking-searched}
use Rattle.crx_lines.specs.{Readers.reading, Reading.{ReaderState, TakesPiece}, Window.{cut_shown, kept}}
use Rattle.crx_lines.proofs.line.LineReader.advance_held.Goals.{After-cut_line-cut}
use Rattle.crx_lines.proofs.line.LineReader.advance_held.Goals as goal
use Rattle.std.proofs.lemmas.Grind.{common_steps}

abbrev after : After-cut_line-cut → ReaderState
after c =
    let old = c.args.self.now in
    record {
      rest = kept c.cut_line-cut.new.self;
      passed = old.passed + (c.in-Some.len + 1);
      number = old.number + 1;
      phase = old.phase;
    }

-- the taken line is the first of the pending bytes
taken : (c : After-cut_line-cut) → (p : Piece) × (p.is_ended ≡ true)
    × TakesPiece (reading c.args.self.now) [] ⊥ p (after c)
    × (cut_shown c.cut_line-cut.new.self.bytes.items c.cut_line-cut.result ≡ line_of p)
taken c =
    let old = c.args.self.now in
    let held = kept old.window.value in
    let len = c.in-Some.len in
    let shown = c.as_slice.ensures.value ∙ ap kept c.deref.ensures in
    let gave = λ (given : List ℕ). given ≡ [] in
    let feed = rw shown at c.in-Some.ensures in
    let s = Seeking-searched gave held held old.passed _ 0 0 len (Seeking-start gave held old.passed
    (INPUT_LIMIT - old.passed - length held) refl (omega (arith, old.limit))) (omega (arith, feed.within))
    feed.first in
    let cut = c.cut_line-cut.ensures in
    let now = cut.kept ∙ ap (λ w. drop (len + 1) (kept w)) c.deref_mut.ensures.value in
    let end : EndIs held len true ⊥ = (feed.within.1, feed.found) in
    let whole = whole-piece gave held held old.passed _ 0 len (len + 1) ⊥ true s end refl refl in
    let piece = piece_at s.front held len true in (
      piece,
      refl,
      subst (λ given. TakesPiece (reading old) given ⊥ piece (after c)) s.lead
          (takes gave held held old.passed _ 0 len (len + 1) ⊥ true s end refl (inr refl) (reading old)
          (after c) refl refl now (omega arith) refl c.requires),
      grind (arith, common_steps, len, cut, whole),
    )

pub returns-then-cut-gt-LINE_LIMIT-clause-answers : goal.returns-then-cut-gt-LINE_LIMIT-clause-answers
returns-then-cut-gt-LINE_LIMIT-clause-answers c =
    let t = taken (goal.at.returns-then-cut-gt-LINE_LIMIT-clause-answers c).After-cut_line-cut in
    let over = c.if-cut-gt-LINE_LIMIT.true in
    let long = c.cut_line-cut.ensures.cut.3 in grind (arith, common_steps, t, over, long, IsTrue, lt-ltb)

pub returns-clause-answers : goal.returns-clause-answers
returns-clause-answers c =
    let t = taken (goal.at.returns-clause-answers c).After-cut_line-cut in
    (t.0, t.1, t.2, t.3, refl)
