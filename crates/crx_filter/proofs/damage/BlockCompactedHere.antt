-- The compact text of a standard file that is compacted here, damaged in one block, which is a stretch of it.
use Rattle.crx_filter.proofs
use proofs.Vocabulary.{common_steps, arith, ℕ, suc, ◌≡◌, true, false, List, [], ◌∷◌, ◌++◌, map}
use proofs.Vocabulary.{length, drop, take, Option}
use proofs.Vocabulary.{refl, ap, sym, ◌∙◌, subst, append_assoc, append-nil, AllByRecursion, flat_map, list_all}
use proofs.Vocabulary.{map-append}
use proofs.Vocabulary.{drop-append_seam, and_parts, not-true, by_bool, InputLine, pieces_of, lines_of}
use proofs.Vocabulary.{lines_text}
use proofs.Vocabulary.{Content, as_read, Epoch, printed_epoch, Observation, epoch_line, Choices}
use proofs.Vocabulary.{is_date, expanded, Item, Accepted, records_left, types_in_force, marked_epochs}
use proofs.Vocabulary.{compact_lines}
use proofs.Vocabulary.{printed_items, AreInPlace, BeginsAnew, is_in_full, is_event_line, with_epochs}
use proofs.Vocabulary.{lines_of_epochs}
use proofs.Vocabulary.{line_of, whole_of, WholeReading}
use Rattle.crx_filter.specs.Damage.{may_replace, IsOwnDamaged, IsOwnSalvaged, IsOfCompaction}
use Rattle.crx_filter.specs.OwnStretches.{OwnStretch, may_come_instead, HasOwnStretches, IsReadWhole}
use Rattle.crx_filter.specs.OwnStretches.{read_of_file}
use Rattle.crx_filter.specs.meaning.{Damage.{is_inside, epochs_among, IsDamaged}}
use Rattle.crx_filter.specs.meaning.{UnitsAndText.as_items}
use Rattle.std.proofs.lemmas.List.{take-append-drop}
use Rattle.crx_lines.proofs.PieceLemmas.{pieces-first}
use proofs.anywriter.TextCompactedHere.{units-append, units-printed, units-in_place, state_after, state_on, own-on}
use proofs.anywriter.TextCompactedHere.{printed-append}
use proofs.damage.SavedText.{among-append}
use proofs.damage.DamagedText.{front-cut, instead-read, text-append}
use proofs.damage.{DamageStays.all-saved, ItemTexts.{rest-in_place, text-parts}}
use proofs.damage.{TextAfter.lines_on}
use proofs.{reading.ListsOfUnits.header-append, wayback.FirstTwoLines.all-weaker}
use proofs.stretches.{StretchesCompactedHere.{file-good, file-settled, own-damage, text_of_own}}
use proofs.stretches.StretchesCut.{AreGood, good-before, kept-clean, as_stretch}
use proofs.wayback.{UnitsReadAgain.{units_in, units-like, units-placed}, LinesCutAgain.{IsClean, return-kept}}
use proofs.wayback.{Items.{marked_now, epoch-stands}, Standard.{NoReturn, same-reading}}
use proofs.wayback.{Standard.plain-no_return, Reading.whole-copied}

-- ---- the epochs of a block

epochs-left : (before : List (Item Epoch)) (epochs : List Epoch) → records_left before ≡ 0
    → (records_left (with_epochs before epochs) ≡ 0) × (types_in_force (with_epochs before epochs) ≡
    types_in_force before)
epochs-left before [] h = (h, refl)
epochs-left before (epoch ∷ later) h = epochs-left (Accepted (Observation epoch) ∷ before) later refl

-- some epochs, the oldest first, as items
abbrev items_of : List Epoch → List (Item Epoch)
items_of [] = []
items_of (epoch ∷ later) = items_of later ++ Accepted (Observation epoch) ∷ []

epochs-items : (before : List (Item Epoch)) (epochs : List Epoch)
    → with_epochs before epochs ≡ items_of epochs ++ before
epochs-items before [] = refl
epochs-items before (epoch ∷ later) = epochs-items (Accepted (Observation epoch) ∷ before) later
    ∙ sym (append_assoc (items_of later) (Accepted (Observation epoch) ∷ []) before)

items-append : (one two : List Epoch) → items_of (one ++ two) ≡ items_of two ++ items_of one
items-append [] two = sym (append-nil (items_of two))
items-append (epoch ∷ one) two =
    cc (items-append one two, append_assoc (items_of two) (items_of one) (Accepted (Observation epoch) ∷ []))

on-append : (every : Option ℕ) (later items before : List (Item Epoch))
    → lines_on every (later ++ items) before
    ≡ lines_on every items before ++ lines_on every later (items ++ before)
on-append every [] items before = sym (append-nil (lines_on every items before))
on-append every (item ∷ later) items before = grind (arith, on-append every later items before, append_assoc)

epochs-lines : (choices : Choices) (before : List (Item Epoch)) (epochs : List Epoch)
    → lines_of_epochs choices before epochs ≡ lines_on choices.every (items_of epochs) before
epochs-lines choices before [] = refl
epochs-lines choices before (epoch ∷ later) =
    grind (arith, common_steps, epochs-lines choices (Accepted (Observation epoch) ∷ before) later, on-append)

-- they restart the reading if the first is full
epochs-anew : (choices : Choices) (before : List (Item Epoch)) (first : Epoch) (others : List Epoch)
    → is_in_full choices.every before ≡ true → BeginsAnew choices before (items_of (first ∷ others))
epochs-anew choices before first others full = on (items_of others)
  where
    on : (later : List (Item Epoch)) → BeginsAnew choices before (later ++ Accepted (Observation first) ∷ [])
    on [] = full
    on (item ∷ []) = full
    on (item ∷ next ∷ later) = on (next ∷ later)

epochs-among : (epochs : List Epoch) → epochs_among (units_in (items_of epochs)) ≡ epochs
epochs-among [] = refl
epochs-among (epoch ∷ later) =
    grind (arith, common_steps, epochs-among later, units-append, among-append, units_in)

-- ---- the lines that replace the block's

inside-read : (lines : List InputLine) → list_all may_replace lines ≡ true
    → list_all is_inside (map as_read lines) ≡ true
inside-read [] e = refl
inside-read (line ∷ lines) e =
    grind (
      arith,
      common_steps,
      and_parts,
      not-true,
      by_bool,
      inside-read lines (and_parts (may_replace line) _ e).1,
    )

may-come : (lines : List InputLine) → list_all may_replace lines ≡ true
    → list_all may_come_instead lines ≡ true
may-come = grind (arith, common_steps, all-weaker, not-true)

-- ---- a damaged text

module _ (input : List ℕ) (choices : Choices) (damaged : List ℕ)
    (d : IsOwnDamaged input choices damaged) where
  abbrev epochs : List Epoch
  epochs = d.first ∷ d.others

  abbrev block : List (Item Epoch)
  block = items_of epochs ++ d.before

  abbrev full : List ℕ
  full = epoch_line (marked_now choices.every d.before d.first) (marked_epochs choices.every d.before)

  abbrev stretch : OwnStretch
  stretch = record { lost = items_of epochs; instead = lines_text (full ∷ []) ++ d.instead; kept = d.after }

  read-whole : IsReadWhole input choices
  read-whole =
      let lines = map as_read (lines_of input) in
      let good = ap WholeReading.fault (same-reading choices.skip lines (d.standard).good)
      ∙ (d.standard).good in
      let plain = plain-no_return (pieces_of input) (d.standard).plain in
      record { good = good; no_returns = whole-copied NoReturn choices.skip lines good plain }

  parts : (read_of_file input choices).items ≡ d.after ++ block
  parts = cc (
    same-reading choices.skip (map as_read (lines_of input)) (d.standard).good,
    d.parts,
    epochs-items d.before epochs,
  )

  block-good : AreGood block
  block-good = good-before d.after block (subst AreGood parts (file-good input choices read-whole))

  first-in_place : AreInPlace (Accepted (Observation d.first) ∷ d.before)
  first-in_place = rest-in_place (items_of d.others) (Accepted (Observation d.first) ∷ d.before)
      (rw (append_assoc (items_of d.others) (Accepted (Observation d.first) ∷ []) d.before)
      at block-good.in_place)

  no-event : is_event_line full ≡ false
  no-event = ((epoch-stands choices.every d.before d.first first-in_place).no_event).0

  first-clean : IsClean full
  first-clean = (subst (AllByRecursion IsClean) (sym (epochs-lines choices d.before epochs))
      (kept-clean choices (items_of epochs) d.before block-good)).0

  first-piece : pieces_of (lines_text (full ∷ []) ++ d.instead)
      ≡ record { bytes = full; is_ended = true } ∷ pieces_of d.instead
  first-piece = rw (append-nil (full ++ 10 ∷ []), append_assoc full (10 ∷ []) d.instead)
      (pieces-first full d.instead first-clean.one_line)

  abbrev own-stretches : HasOwnStretches input choices damaged
  own-stretches = record {
    file_good = read-whole;
    before = d.before;
    stretches = stretch ∷ [];
    parts = parts;
    header = (first-in_place.0).0;
    each = (
      record {
        between = (first-in_place.0).1;
        types = rw (← epochs-items d.before epochs) (epochs-left d.before epochs (first-in_place.0).1).1;
        allowed = rw first-piece (grind (
          arith,
          common_steps,
          return-kept,
          line_of,
          by_bool,
          first-clean,
          no-event,
          may-come (lines_of d.instead) d.allowed,
        ));
        anew = rw (← epochs-items d.before epochs) d.anew;
        ended = rw first-piece (grind (arith, common_steps, d.ended));
      },
      tt,
    );
    text = d.text ∙ rw (d.parts, epochs-items d.before epochs, text-append) (simp (append_assoc, append-nil));
  }

  -- its stretch is a block, as in text of any writer
  text-cut : map as_read (lines_of (lines_text (full ∷ []) ++ d.instead))
      ≡ Content full ∷ map as_read (lines_of d.instead)
  text-cut = front-cut (full ∷ []) d.instead (first-clean, tt)

  abbrev own-damaged : (dated : is_date choices.date ≡ true)
      → IsDamaged (units_in d.before) (as_stretch choices.every d.before stretch)
      (text_of_own input choices damaged dated own-stretches)
  own-damaged dated = record {
    stretch = own-damage input choices damaged dated own-stretches;
    block = rw text-cut (no-event, inside-read (lines_of d.instead) d.allowed);
  }

  -- ---- the block's own epochs

  abbrev own : ℕ → List (Item Epoch)
  own count = items_of (take (suc count) epochs)

  own-good : (count : ℕ) → AreGood (own count ++ d.before)
  own-good count = good-before (items_of (drop (suc count) epochs)) (own count ++ d.before) (subst AreGood
      (cc (
        take-append-drop (suc count) epochs,
        items-append (take (suc count) epochs) (drop (suc count) epochs),
        append_assoc (items_of (drop (suc count) epochs)) (own count) d.before,
      )) block-good)

  -- ---- the law

  pub own-saved : (expanding : Choices) → is_date choices.date ≡ true → expanding.skip ≡ true
      → IsOwnSalvaged input choices damaged d (expanded damaged expanding)
  own-saved expanding dated skips =
      let k = all-saved (units_in d.before) (as_stretch choices.every d.before stretch)
      (text_of_own input choices damaged dated own-stretches) expanding skips (own-damaged dated) in
      let same = ap (λ t. expanded t expanding) own-stretches.text in
      let before-good = good-before (items_of epochs) d.before block-good in
      let after : drop (length (printed_items (with_epochs d.before epochs)))
      (printed_items (whole_of input).items)
      ≡ printed_items (as_items (units_in d.after)) =
      rw (d.parts, printed-append d.after (with_epochs d.before epochs), drop-append_seam)
      (sym (units-printed d.after)) in
      record {
        epochs = k.epochs;
        whole = grind (arith, common_steps, k, before-good, units-like d.before before-good.in_place);
        warnings = k.warnings;
        few = k.few;
        output = cc (
          same,
          k.output,
          after,
          units-printed d.before,
          append_assoc (printed_items d.before)
              (flat_map printed_epoch k.epochs) (printed_items (as_items (units_in d.after))),
        );
        messages = cc (same, k.messages);
        status = cc (same, k.status);
        fault = cc (same, k.fault);
        own = λ count rest e.
            let units = units-append (own count) d.before in
            let found =
            k.own (units_in (own count)) (lines_of_epochs choices d.before (take (suc count) epochs))
            (state_on (state_after choices.every d.before) choices.every d.before (own count))
            (map Content rest)
            (units-in_place _ (rw units at (units-placed (own count ++ d.before) (own-good count).in_place)))
            (cc (
              units,
              (units-like (own count ++ d.before) (own-good count).in_place).left,
              epochs-items d.before (take (suc count) epochs),
              (epochs-left d.before (take (suc count) epochs) (first-in_place.0).1).0,
            ))
            (rw (epochs-lines choices d.before (take (suc count) epochs))
            (own-on (state_after choices.every d.before) choices d.before (own count)
            (own-good count).in_place
            (λ e. epochs-anew choices d.before d.first (take count d.others) d.starts)))
            (cc (
              text-cut,
              instead-read (lines_of d.instead) d.allowed,
              e,
              map-append Content (drop 1 (lines_of_epochs choices d.before (take (suc count) epochs))) rest,
            )) in
            (found.0, found.1 ∙ ap (λ es. es ++ found.0) (epochs-among (take (suc count) epochs)));
      }

  -- the damaged text is the output of the compaction, except for the lines of the block after its first
  pub of-compaction : IsOfCompaction input choices damaged d
  of-compaction =
      let settled = file-settled input choices read-whole in
      let whole = subst AreInPlace parts settled.in_place in
      let header = header-append (items_of epochs) d.before (first-in_place.0).0 in
      let own : compact_lines choices block
      ≡ compact_lines choices d.before ++ lines_of_epochs choices d.before epochs =
      rw (epochs-lines choices d.before epochs)
      (text-parts choices (items_of epochs) d.before block-good.in_place header (first-in_place.0).0) in
      rw (same-reading choices.skip (map as_read (lines_of input)) (d.standard).good)
      (rw (
        d.parts,
        epochs-items d.before epochs,
        text-parts choices d.after block whole (header-append d.after block header) header,
        own,
        drop-append_seam,
        text-append,
      ) refl)
