use Rattle.std.proofs.Common.{to_z, of_z, rules, w64, OnSome, arith, ◌≡◌}
use Rattle.std.proofs.Common.{◌+◌, ◌≤◌, ◌∙◌, Bool, true, false, cond, ltb}
use Rattle.std.proofs.Common.{ℕ, List, [], ◌∷◌, ap, sym, refl, drop, length}
use Rattle.std.proofs.lemmas.Int.{to_z-of_z}
use Rattle.std.proofs.lemmas.List.{set-get_or}
use mir.Val.{SFits, bool_byte}
use Rattle.crx_text.proofs.FirstCells.{next_cell, next_within}
use Rattle.crx_text.specs.meaning.Codes.{after_cell, first_cell}
use Rattle.crx_text.specs.declared.code.Code.TheVariants.{Step}
use Rattle.crx_compact.proofs.Vocabulary.{ArcTail, IfSome, None, OBSERVATION_WIDTH, Ok, Option, Some, arc_of_code}
use Rattle.crx_compact.proofs.Vocabulary.{code_of, is_some, slice_index_or, slice_set, value_of_code, ℤ}
use Rattle.crx_compact.specs.Cells.{IsCellRead}
use Rattle.crx_compact.proofs.cells.read_cell_fast.Goals as goal
use Rattle.std.proofs.lemmas.Grind.{common_steps}
use Rattle.crx_compact.proofs.cells.read_cell_fast.Goals.{After-index-arcs-index}
use Rattle.std.proofs.lemmas.List.{get_or_default}

-- the length of a cell with its blank, if the line has one
taken : (line : List ℕ) (at n len more : ℕ) → at ≤ length line → n ≡ length (first_cell (drop at line))
    → len ≡ length line → more ≡ bool_byte (ltb (at + n) len)
    → (drop (n + more) (drop at line) ≡ after_cell (drop at line)) × (n + more ≤ length (drop at line))
taken line at n len more before counted whole is =
    let in_line = ap (ltb (at + n)) (sym whole) in
    rw (is ∙ byte (ltb (at + n) len))
    (next_cell line at n counted _ in_line, next_within line at n counted _ before in_line)
  where
    byte : (b : Bool) → bool_byte b ≡ cond b 1 0
    byte true = refl
    byte false = refl

nothing : (xs : List ℕ) → 0 ≡ length xs → xs ≡ []
nothing [] none = refl
nothing (x ∷ xs) none = absurd (omega (arith, none))

-- a difference, as a text and as a number, that has a value
stepped : (before : List (Option ArcTail)) (place : ℕ) (text : List ℕ) (number held : ℤ) (answer : Option ℤ)
    (arc arc' : Option ArcTail) (taken : ℕ)
    → IfSome answer (λ value. value_of_code OBSERVATION_WIDTH (Step held) arc ≡ Ok (Some value))
    → OnSome answer (arc' ≡ arc_of_code (Step held) arc)
    → slice_index_or before place None ≡ arc
    → held ≡ number → true ≡ is_some answer → code_of (first_cell text) ≡ Some (Step number)
    → drop taken text ≡ after_cell text → taken ≤ length text
    → IsCellRead before place text before (slice_set before place arc') taken
stepped before place text number held (Some v) arc arc' taken given arc_is there is some formed after within =
    record {
      code = Step number;
      value = Some v;
      formed = formed;
      given = rw (there, ← is) given;
      left = ap (slice_set before place) (rw (there, ← is) arc_is);
      after = after;
      within = within;
    }
stepped before place text number held None arc arc' taken given arc_is there is some formed after within =
    absurd (cc)

-- the arc at the place
there : (c : After-index-arcs-index) → slice_index_or c.args.arcs.now c.args.index None ≡ c.index-arcs-index.result
there c = get_or_default _ _ None c.index-arcs-index.result c.requires.within ∙ sym c.index-arcs-index.is

pub returns-then-characters-eq0 : goal.returns-then-characters-eq0
returns-then-characters-eq0 c = rw (c.end.ensures.ended) (grind (arith, common_steps))

pub returns-then-is_some : goal.returns-then-is_some
returns-then-is_some c =
    let counted = c.cell_length-characters.ensures.value c.in-Some.ensures.few in
    let next = taken _ _ _ _ _ c.requires.before counted c.len.ensures.value c.from.ensures in
    let fits : SFits w64 c.in-Some.number = search rules in
    record {
      some = stepped _ c.args.index _ c.in-Some.number
          (to_z w64 (of_z w64 c.in-Some.number)) c.apply_third.result _ _ _
          c.apply_third.ensures.value c.apply_third.ensures.arc
          (get_or_default _ _ None c.index-arcs-index.result c.requires.within)
          (to_z-of_z w64 _ fits) c.if-is_some.ensures c.in-Some.ensures.value next.0 next.1;
      none = tt;
    }

pub returns-in_err-apply_step : goal.returns-in_err-apply_step
returns-in_err-apply_step c =
    let there = there (goal.at.returns-in_err-apply_step c).After-index-arcs-index in
    search (rules, set-get_or)

pub returns : goal.returns
returns c =
    let counted = c.cell_length-characters.ensures.value c.in-Some.ensures.few in
    let next = taken _ _ _ _ _ c.requires.before counted c.len.ensures.value c.from.ensures in
    let there = there (goal.at.returns c).After-index-arcs-index in
    search (rules, set-get_or, next.0, next.1)
