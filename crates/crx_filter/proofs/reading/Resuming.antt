-- A reading continues from its stop with more lines.
use Rattle.crx_filter.{specs.Laws.IsResumed, proofs.Vocabulary.{common_steps, ℕ, zero, suc, ◌≡◌, ◌+◌, max, ◌<◌}}
use Rattle.crx_filter.proofs.Vocabulary.{◌≤◌, Bool, true, false, List, [], ◌∷◌, ◌++◌, length, drop, refl, arith}
use Rattle.crx_filter.proofs.Vocabulary.{◌∙◌}
use Rattle.crx_filter.proofs.Vocabulary.{drop-append-le, length-drop, ReadLine, Fault, Place}
use Rattle.crx_filter.proofs.Vocabulary.{Done, Fails, NeedsMore, FileUnit, Item, Accepted, Warned, Reading}
use Rattle.crx_filter.proofs.Vocabulary.{AtLines, is_skipped, can_go_on, looked_for, after_fault}
use Rattle.crx_filter.proofs.Vocabulary.{reading_within, reading_from, continued_reading, IsReadForward, by_bool}

-- ---- the unit at a place

module _ {E : Type 0} (place : List (Item E) → List ReadLine → Place (FileUnit E)) (h : IsReadForward place)
    (items : List (Item E)) (lines : List ReadLine) where
  -- a unit has at least one line, and its lines are among these
  pub here-within : (unit : FileUnit E) (count : ℕ)
      → place items lines ≡ Done unit count → (0 < count) × (count ≤ length lines)
  here-within unit count e =
      (rw e at (rw (h.wants items) at (h.steady items [] lines)), (rw e at (h.steady items lines [])).0)

  pub wrong-within : (offset : ℕ) (fault : Fault)
      → place items lines ≡ Fails offset fault → offset < length lines
  wrong-within offset fault e = (rw e at (h.steady items lines [])).0

  -- it stays the same with more lines
  pub here-stays : (more : List ReadLine) (unit : FileUnit E) (count : ℕ)
      → place items lines ≡ Done unit count → place items (lines ++ more) ≡ Done unit count
  here-stays more unit count e = (rw e at (h.steady items lines more)).1

  pub wrong-stays : (more : List ReadLine) (offset : ℕ) (fault : Fault)
      → place items lines ≡ Fails offset fault → place items (lines ++ more) ≡ Fails offset fault
  wrong-stays more offset fault e = (rw e at (h.steady items lines more)).1

-- ---- one unit of a reading

module _ {E : Type 0} (place : List (Item E) → List ReadLine → Place (FileUnit E)) (skip : Bool) (units : ℕ)
    (items : List (Item E)) (number : ℕ) (lines : List ReadLine) where
  pub within-here : (unit : FileUnit E) (count : ℕ)
      → place items lines ≡ Done unit count → reading_within place skip (suc units) items number lines
      ≡ reading_within place skip units (Accepted unit ∷ items) (number + count) (drop count lines)
  within-here unit count e = rw (e, reading_within) refl

  pub within-wrong : (offset : ℕ) (fault : Fault)
      → place items lines ≡ Fails offset fault → reading_within place skip (suc units) items number lines
      ≡ after_fault skip (reading_within place skip units) items number lines offset fault
  within-wrong offset fault e = rw (e, reading_within) refl

  pub within-wanted : place items lines ≡ NeedsMore → reading_within place skip (suc units) items number lines
      ≡ record { items = items; stop = AtLines number lines }
  within-wanted e = rw (e, reading_within) refl

module _ {E : Type 0} (skip : Bool) (read : List (Item E) → ℕ → List ReadLine → Reading E)
    (items : List (Item E)) (number : ℕ) (lines : List ReadLine) (offset : ℕ) (fault : Fault) where
  -- a fault that is skipped, and one that isn't
  pub fault-skipped : is_skipped skip items fault ≡ true → after_fault skip read items number lines
      offset fault ≡ looked_for (read (Warned (record { line = number + offset; fault = fault }) ∷ items))
      (Warned (record { line = number + offset; fault = fault }) ∷ items)
      (number + max offset 1) (drop (max offset 1) lines)
  fault-skipped e = rw (e, after_fault) refl

module _ {E : Type 0} (read : ℕ → List ReadLine → Reading E) (items : List (Item E))
    (number : ℕ) (line : ReadLine) (lines : List ReadLine) where
  pub looked-here : can_go_on line ≡ true
      → looked_for read items number (line ∷ lines) ≡ read number (line ∷ lines)
  looked-here e = rw (e, looked_for) refl

  pub looked-on : can_go_on line ≡ false
      → looked_for read items number (line ∷ lines) ≡ looked_for read items (number + 1) lines
  looked-on e = rw (e, looked_for) refl

pub by_place : {Y X : Type 0} (p : Place Y) → ((x : Y) (count : ℕ) → p ≡ Done x count → X)
    → ((offset : ℕ) (fault : Fault) → p ≡ Fails offset fault → X) → (p ≡ NeedsMore → X) → X
by_place p here wrong wanted = grind (arith, common_steps)

-- ---- the bound on units doesn't matter if it is high enough

looked-same : {E : Type 0} (items : List (Item E)) (one two : ℕ
    → List ReadLine → Reading E) (bound number : ℕ) (lines : List ReadLine)
    → ((number : ℕ) (lines : List ReadLine) → length lines < bound → one number lines ≡ two number lines)
    → length lines < bound → looked_for one items number lines ≡ looked_for two items number lines
looked-same items one two bound number [] h short = refl
looked-same items one two bound number (line ∷ lines) h short =
    grind (arith, looked-same items one two bound (number + 1) lines h (omega arith))

pub enough-units : {E : Type 0} (place : List (Item E) → List ReadLine → Place (FileUnit E))
    → IsReadForward place → (skip : Bool) (one two : ℕ)
    (items : List (Item E)) (number : ℕ) (lines : List ReadLine) → length lines < one → length lines < two
    → reading_within place skip one items number lines ≡ reading_within place skip two items number lines
enough-units place h skip zero two items number lines short_one short_two = absurd (omega arith)
enough-units place h skip (suc one) zero items number lines short_one short_two = absurd (omega arith)
enough-units place h skip (suc one) (suc two) items number lines short_one short_two =
    grind (
      arith,
      common_steps,
      here-within place h items lines,
      length-drop,
      enough-units place h skip one two,
      looked-same,
      wrong-within place h items lines,
    )

-- ---- a reading, by the unit at its lines

module _ {E : Type 0} (place : List (Item E) → List ReadLine → Place (FileUnit E)) (h : IsReadForward place)
    (skip : Bool) (items : List (Item E)) (number : ℕ) (lines : List ReadLine) where
  one-more : reading_from place skip items number lines
      ≡ reading_within place skip (suc (length lines)) items number lines
  one-more = enough-units place h skip (length lines + 1) (suc (length lines)) items number lines (omega
      arith) (omega arith)

  pub from-here : (unit : FileUnit E) (count : ℕ) → place items lines ≡ Done unit count
      → reading_from place skip items number lines
      ≡ reading_from place skip (Accepted unit ∷ items) (number + count) (drop count lines)
  from-here unit count e =
      let within = here-within place h items lines unit count e in
      grind (arith, common_steps, within, one-more, within-here, enough-units, length-drop)

  pub from-wrong : (offset : ℕ) (fault : Fault) → place items lines ≡ Fails offset fault
      → reading_from place skip items number lines
      ≡ after_fault skip (reading_from place skip) items number lines offset fault
  from-wrong offset fault e = one-more ∙ within-wrong place skip (length lines) items number lines offset
      fault e ∙ by_bool (is_skipped skip items fault) (λ on. rw (on, after_fault)
      (looked-same passed (reading_within place skip (length lines) passed) (reading_from place skip passed)
      (length lines) (number + max offset 1) (drop (max offset 1) lines)
      (λ m ls few. enough-units place h skip (length lines) (length ls + 1) passed m ls few (omega arith))
      (omega (arith, wrong-within place h items lines offset fault e, length-drop (max offset 1) lines))))
      (λ off. rw (off, after_fault) refl)
    where
      passed : List (Item E)
      passed = Warned (record { line = number + offset; fault = fault }) ∷ items

  pub from-wanted : place items lines ≡ NeedsMore
      → reading_from place skip items number lines ≡ record { items = items; stop = AtLines number lines }
  from-wanted e = one-more ∙ within-wanted place skip (length lines) items number lines e

-- ---- more lines

module _ {E : Type 0} (place : List (Item E) → List ReadLine → Place (FileUnit E)) (h : IsReadForward place)
    (skip : Bool) (more : List ReadLine) where
  -- the reading of fewer than `bound` lines and more continues the reading of the first
  abbrev GoesOn : ℕ → List (Item E) → Type 0
  GoesOn bound items = (number : ℕ) (lines : List ReadLine) → length lines < bound
      → reading_from place skip items number (lines ++ more)
      ≡ continued_reading place skip (reading_from place skip items number lines) more

  looked-more : (items : List (Item E)) (bound number : ℕ) (lines : List ReadLine) → GoesOn bound items
      → length lines < bound → looked_for (reading_from place skip items) items number (lines ++ more)
      ≡ continued_reading place skip (looked_for (reading_from place skip items) items number lines) more
  looked-more items bound number [] h short = refl
  looked-more items bound number (line ∷ lines) h short =
      grind (arith, looked-more items bound (number + 1) lines h (omega arith))

  resumed-within : (bound : ℕ) (items : List (Item E)) → GoesOn bound items
  resumed-within zero items number lines short = absurd (omega arith)
  resumed-within (suc bound) items number lines short = by_place (place items lines) (λ unit count e.
      let within = here-within place h items lines unit count e in
      rw (
        from-here place h skip items number lines unit count e,
        from-here place h skip items number (lines ++ more) unit count
            (here-stays place h items lines more unit count e),
        drop-append-le count lines more within.1,
      ) (resumed-within bound (Accepted unit ∷ items) (number + count) (drop count lines)
      (omega (arith, within.0, within.1, length-drop count lines)))) (λ offset fault e.
      let few = wrong-within place h items lines offset fault e in
      rw (
        from-wrong place h skip items number lines offset fault e,
        from-wrong place h skip items number (lines ++ more) offset fault
            (wrong-stays place h items lines more offset fault e),
      ) (by_bool (is_skipped skip items fault) (λ on.
      rw (on, after_fault, drop-append-le (max offset 1) lines more (omega (arith, few)))
      (looked-more _ bound (number + max offset 1) (drop (max offset 1) lines) (resumed-within bound _)
      (omega (arith, few, length-drop (max offset 1) lines)))) (λ off. rw (off, after_fault) refl)))
      (λ e. rw (from-wanted place h skip items number lines e) refl)

pub resumed : {E : Type 0} (place : List (Item E) → List ReadLine → Place (FileUnit E))
    → IsReadForward place → IsResumed place
resumed place h skip items number lines more =
    resumed-within place h skip more (suc (length lines)) items number lines (omega arith)
