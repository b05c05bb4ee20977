-- Each line's fate, through a whole reading: the lines that each item owns.
use Rattle.crx_filter.proofs.Vocabulary
use Vocabulary.{ℕ, zero, suc, ◌≡◌, ◌+◌, ◌-◌, max, ◌<◌, ◌≤◌, Bool, true, false, not, List, [], ◌∷◌, ◌++◌, take}
use Vocabulary.{drop}
use Vocabulary.{length, refl, arith, subst, ⊤, sym, ap, ◌∙◌, common_steps, append_assoc, append-nil, length-append}
use Vocabulary.{list_all, Option, Some, None, Fault, At, ReadLine, Place, Done, FileUnit, Item, Accepted, Warned}
use Vocabulary.{Reading, Stop, AtLines, AtFault, Looking, is_skipped, can_go_on, looked_for, after_fault}
use Vocabulary.{reading_within, reading_from, whole_reading, ended_reading, ended_with, WholeReading, fault_at_end}
use Vocabulary.{by_bool, IsReadForward, Remains, drop-append-le}
use Rattle.std.proofs.lemmas.List.{take-append-drop, length-take-le, drop_all, Folds.list_all-append}
use Rattle.crx_filter.proofs.reading.Resuming.{by_place, within-here, within-wrong, within-wanted}
use Rattle.crx_filter.proofs.reading.Resuming.{here-within}
use Rattle.crx_filter.proofs.reading.Resuming.{wrong-within}
use Rattle.crx_filter.specs.meaning.Fate.{OwnInOrder}

split : (n : ℕ) (front lines : List ReadLine) → front ++ lines ≡ (front ++ take n lines) ++ drop n lines
split n front lines = cc (take-append-drop n lines, append_assoc front (take n lines) (drop n lines))

abbrev stays_off : ReadLine → Bool
stays_off line = not (can_go_on line)

module _ {E : Type 0} (place : List (Item E) → List ReadLine → Place (FileUnit E)) (h : IsReadForward place)
    (skip : Bool) (start : ℕ) (all : List ReadLine) where
  -- a unit is read only from its own lines
  alone : (items : List (Item E)) (lines : List ReadLine) (unit : FileUnit E) (count : ℕ)
      → place items lines ≡ Done unit count
      → place items (take count lines) ≡ Done unit (length (take count lines))
  alone items lines unit count e =
      let within = here-within place h items lines unit count e in
      let few = length-take-le count lines within.1 in
      rw few (by_found (place items (take count lines)) few
      (rw (take-append-drop count lines, e) at (h.steady items (take count lines) (drop count lines))))
    where
      by_found : (p : Place (FileUnit E)) → length (take count lines) ≡ count
          → Remains (length (take count lines)) p (Done unit count) → p ≡ Done unit count
      by_found p few r = grind (arith, common_steps, few, r)

  -- the items own the lines so far, and the next line has this number
  pub record SoFar (items : List (Item E)) (number : ℕ) (rest : List ReadLine) : Type 0 where
    pub front : List ReadLine
    pub kept : List ReadLine
    pub all_is : all ≡ front ++ rest
    pub number_is : number ≡ start + length front
    pub own : OwnInOrder place start items front kept

  here : (items : List (Item E)) (number : ℕ) (lines : List ReadLine) (unit : FileUnit E) (count : ℕ)
      → place items lines ≡ Done unit count → SoFar items number lines
      → SoFar (Accepted unit ∷ items) (number + count) (drop count lines)
  here items number lines unit count e s =
      let few = length-take-le count lines (here-within place h items lines unit count e).1 in
      record {
        front = s.front ++ take count lines;
        kept = s.kept ++ take count lines;
        all_is = s.all_is ∙ split count s.front lines;
        number_is = omega (arith, s.number_is, length-append s.front (take count lines), few);
        own = (s.front, take count lines, s.kept, refl, refl, alone items lines unit count e, s.own);
      }

  -- the lines that are left when a reading stops
  abbrev IsLeft : Stop → ℕ → List ReadLine → Type 0
  IsLeft (AtLines at rest) number lines = (at ≡ number) × (lines ≡ rest)
  IsLeft (Looking at) number lines = lines ≡ []
  IsLeft (AtFault at) number lines = ⊤

  abbrev pub FateAt : Reading E → Type 0
  FateAt r = (number : ℕ) × (lines : List ReadLine) × SoFar r.items number lines × IsLeft r.stop number lines

  -- a warning drops these lines so far: the first of them, and others at which reading can't resume
  record Dropped (items : List (Item E)) (at : At) (number : ℕ) (rest : List ReadLine) : Type 0 where
    pub front : List ReadLine
    pub own : List ReadLine
    pub kept : List ReadLine
    pub all_is : all ≡ front ++ (own ++ rest)
    pub number_is : number ≡ (start + length front) + length own
    pub after : start + length front ≤ at.line
    pub most : max (at.line - (start + length front)) 1 ≤ length own
    pub off : list_all stays_off (drop (max (at.line - (start + length front)) 1) own) ≡ true
    pub before : OwnInOrder place start items front kept

  dropped : (items : List (Item E)) (at : At) (number : ℕ) (rest : List ReadLine)
      → Dropped items at number rest
      → SoFar (Warned at ∷ items) number rest
  dropped items at number rest d = record {
    front = d.front ++ d.own;
    kept = d.kept ++ [];
    all_is = d.all_is ∙ sym (append_assoc d.front d.own rest);
    number_is = omega (arith, d.number_is, length-append d.front d.own);
    own = (d.front, d.own, d.kept, refl, refl, (d.after, omega (arith, d.most, d.after), d.off), d.before);
  }

  one-more : (items : List (Item E)) (at : At) (number : ℕ) (line : ReadLine) (rest : List ReadLine)
      → can_go_on line ≡ false → Dropped items at number (line ∷ rest) → Dropped items at (number + 1) rest
  one-more items at number line rest isn_t d = record {
    front = d.front;
    own = d.own ++ line ∷ [];
    kept = d.kept;
    all_is = d.all_is ∙ ap (λ ls. d.front ++ ls) (sym (append_assoc d.own (line ∷ []) rest));
    number_is = omega (arith, d.number_is, length-append d.own (line ∷ []));
    after = d.after;
    most = omega (arith, d.most, length-append d.own (line ∷ []));
    off = rw (
      drop-append-le _ d.own (line ∷ []) d.most,
      list_all-append stays_off (drop (max (at.line
          - (start + length d.front)) 1) d.own) (line ∷ []),
      d.off,
      isn_t,
    ) refl;
    before = d.before;
  }

  looked : (items : List (Item E)) (at : At) (read : ℕ → List ReadLine → Reading E) (number : ℕ)
      (rest : List ReadLine) → Dropped items at number rest
      → ((n : ℕ) (ls : List ReadLine) → SoFar (Warned at ∷ items) n ls → FateAt (read n ls))
      → FateAt (looked_for read (Warned at ∷ items) number rest)
  looked items at read number [] d next = (number, [], dropped items at number [] d, refl)
  looked items at read number (line ∷ rest) d next = by_bool (can_go_on line)
      (λ on. rw (on, looked_for) (next number (line ∷ rest) (dropped items at number (line ∷ rest) d)))
      (λ off. rw (off, looked_for) (looked items at read (number + 1) rest
      (one-more items at number line rest off d)
      next))

  -- the lines that a fault drops at once
  at-once : (items : List (Item E)) (number : ℕ) (lines : List ReadLine) (offset : ℕ) (fault : Fault)
      → offset < length lines → SoFar items number lines
      → Dropped items (record { line = number + offset; fault = fault })
      (number + max offset 1) (drop (max offset 1) lines)
  at-once items number lines offset fault less s =
      let few = length-take-le (max offset 1) lines (omega (arith, less)) in
      let far : (number + offset) - (start + length s.front) ≡ offset = omega (arith, s.number_is) in
      record {
        front = s.front;
        own = take (max offset 1) lines;
        kept = s.kept;
        all_is = s.all_is ∙ ap (λ ls. s.front ++ ls) (sym (take-append-drop (max offset 1) lines));
        number_is = omega (arith, s.number_is, few);
        after = omega (arith, s.number_is);
        most = rw far (omega (arith, few));
        off = rw (far, drop_all (max offset 1) (take (max offset 1) lines) (omega (arith, few))) refl;
        before = s.own;
      }

  within : (units : ℕ) (items : List (Item E)) (number : ℕ) (lines : List ReadLine)
      → SoFar items number lines → FateAt (reading_within place skip units items number lines)
  within zero items number lines s = (number, lines, s, (refl, refl))
  within (suc units) items number lines s = by_place (place items lines)
      (λ unit count e. rw (within-here place skip units items number lines unit count e) (within units
      (Accepted unit ∷ items) (number + count) (drop count lines) (here items number lines unit count e s)))
      (λ offset fault e.
      let at : At = record { line = number + offset; fault = fault } in
      rw (within-wrong place skip units items number lines offset fault e)
      (by_bool (is_skipped skip items fault)
      (λ on. rw (on, after_fault) (looked items at (reading_within place skip units (Warned at ∷ items))
      (number + max offset 1) (drop (max offset 1) lines)
      (at-once items number lines offset fault (wrong-within place h items lines offset fault e) s)
      (within units (Warned at ∷ items))))
      (λ off. rw (off, after_fault) (number, lines, s, tt))))
      (λ e. rw (within-wanted place skip units items number lines e) (number, lines, s, (refl, refl)))

  -- ---- the end

  none-after : (items : List (Item E)) (lines : List ReadLine) → fault_at_end items lines ≡ None → lines ≡ []
  none-after items lines f = grind (arith, common_steps)

  -- a warning at the end drops all lines that are left
  at-end : (items : List (Item E)) (number : ℕ) (lines : List ReadLine) (fault : Fault)
      → SoFar items number lines
      → SoFar (Warned (record { line = number + length lines; fault = fault }) ∷ items)
      (number + length lines) []
  at-end items number lines fault s =
      let far : (number + length lines) - (start + length s.front)
      ≡ length lines = omega (arith, s.number_is) in
      record {
        front = s.front ++ lines;
        kept = s.kept ++ [];
        all_is = s.all_is ∙ sym (append-nil (s.front ++ lines));
        number_is = omega (arith, s.number_is, length-append s.front lines);
        own = (
          s.front,
          lines,
          s.kept,
          refl,
          refl,
          (
            omega (arith, s.number_is),
            omega (arith, s.number_is),
            rw (far, drop_all (max (length lines) 1) lines (omega arith)) refl,
          ),
          s.own,
        );
      }

  ended : (items : List (Item E)) (stop : Stop) → FateAt (record { items = items; stop = stop })
      → WholeReading.fault (ended_reading skip (record { items = items; stop = stop })) ≡ None
      → (number : ℕ) × SoFar (WholeReading.items
      (ended_reading skip (record { items = items; stop = stop }))) number []
  ended items (AtFault at) fate f = absurd (cc f)
  ended items (Looking at) (number, lines, s, left) f = (number, rw left at s)
  ended items (AtLines at rest) (number, lines, s, left) f = by_fault (fault_at_end items rest) refl f
    where
      by_fault : (o : Option Fault) → fault_at_end items rest ≡ o
          → WholeReading.fault (ended_with skip items (at + length rest) o) ≡ None
          → (n : ℕ) × SoFar (WholeReading.items (ended_with skip items (at + length rest) o)) n []
      by_fault None e f = (number, rw (left.1, none-after items rest e) at s)
      by_fault (Some fault) e f = by_bool (is_skipped skip items fault)
          (λ on. rw (on, ended_with, left.0, sym left.1)
          (number + length lines, at-end items number lines fault s))
          (λ off. let never = rw (off, ended_with) at f in absurd (cc never))

-- the items of a reading own the lines up to its stop
pub told : {E : Type 0} (place : List (Item E) → List ReadLine → Place (FileUnit E)) (h : IsReadForward place)
    (skip : Bool) (start : ℕ) (lines : List ReadLine)
    → FateAt place h skip start lines (reading_from place skip [] start lines)
told place h skip start lines = within place h skip start lines (length lines + 1) [] start lines
    (record { front = []; kept = []; all_is = refl; number_is = omega arith; own = (refl, refl) })

-- the items of a reading that ends without a fault own all lines
pub all-told : {E : Type 0} (place : List (Item E) → List ReadLine → Place (FileUnit E)) → IsReadForward place
    → (skip : Bool) (start : ℕ) (lines : List ReadLine)
    → WholeReading.fault (whole_reading place skip start lines) ≡ None → (kept : List ReadLine)
    × OwnInOrder place start (WholeReading.items (whole_reading place skip start lines)) lines kept
all-told place h skip start lines f =
    let r = reading_from place skip [] start lines in
    let s = (ended place h skip start lines r.items r.stop (told place h skip start lines) f).1 in (
      s.kept,
      subst (λ ls. OwnInOrder place start
          (WholeReading.items (whole_reading place skip start lines)) ls s.kept)
          (sym (s.all_is ∙ append-nil s.front)) s.own,
    )
