-- An epoch that is open at the end of damaged lines: reading resumes at the next line that begins with >, or ends,
-- with a warning.
use Rattle.crx_filter.proofs
use proofs.Vocabulary.{ℕ, suc, ◌≡◌, ◌+◌, ◌≤◌, max, true, false, List, [], ◌∷◌, ◌++◌, map, length, drop, None}
use proofs.Vocabulary.{refl, ap, ◌∙◌, arith, length-append, drop-append_seam, ReadLine, Content, At}
use proofs.Vocabulary.{Truncated, begins_epoch, is_event_line, NeedsMore, ReadEpoch, Item, Warned, types_in_force}
use proofs.Vocabulary.{Reading, WholeReading, AtLines, looked_for, reading_within, reading_from, ended_with}
use proofs.Vocabulary.{ended_reading, compact_place, IsBetweenUnits}
use proofs.{damage.BlockReading.{place-cut, skipped-here}, reading.ForwardCompact.compact-forward}
use proofs.reading.Resuming.{enough-units, within-wrong, fault-skipped, looked-here}

-- some warnings after these items, the newest first
abbrev pub with_warnings : List At → List (Item ReadEpoch) → List (Item ReadEpoch)
with_warnings warnings items = map Warned warnings ++ items

pub warned-between : (warnings : List At) (items : List (Item ReadEpoch))
    → IsBetweenUnits items → IsBetweenUnits (with_warnings warnings items)
warned-between [] items h = h
warned-between (at ∷ older) items h = search (warned-between older items h)

pub warned-types : (warnings : List At) (items : List (Item ReadEpoch))
    → types_in_force (with_warnings warnings items) ≡ types_in_force items
warned-types [] items = refl
warned-types (at ∷ older) items = warned-types older items

-- reading resumes at some lines, after these items and at most `most` warnings
pub record GoesOnAt (most : ℕ) (items : List (Item ReadEpoch)) (tail : List ReadLine)
    (r : Reading ReadEpoch) : Type 0 where
  pub warnings : List At
  pub few : length warnings ≤ most
  pub number : ℕ
  pub same : r ≡ reading_from compact_place true (with_warnings warnings items) number tail

-- an open epoch is cut off, and reading resumes at the very line that does so
pub open-goes_on : (items : List (Item ReadEpoch)) (number : ℕ) (first : List ℕ) (rest : List ReadLine) (line
    : List ℕ) (tail : List ReadLine) → IsBetweenUnits items → is_event_line first ≡ false → compact_place
    items (Content first ∷ rest) ≡ NeedsMore → begins_epoch line ≡ true
    → GoesOnAt 1 items (Content line ∷ tail)
    (reading_from compact_place true items number (Content first ∷ (rest ++ Content line ∷ tail)))
open-goes_on items number first rest line tail h no_event e begins =
    let open_lines = Content first ∷ rest in
    let all = open_lines ++ Content line ∷ tail in
    let offset = suc (length rest) in
    let at : At = record { line = number + offset; fault = Truncated } in
    let n = max offset 1 in
    let read = reading_within compact_place true (length all) in
    let past : n ≡ length open_lines = omega arith in
    record {
      warnings = at ∷ [];
      few = omega arith;
      number = number + n;
      same = enough-units compact_place compact-forward true (length all + 1) (suc (length all)) items
          number all (omega arith) (omega arith) ∙ within-wrong compact_place true (length all) items number
          all offset Truncated (place-cut items first rest line tail h no_event begins e) ∙ fault-skipped true
          read items number all offset Truncated (skipped-here items Truncated h refl) ∙ ap (λ ls. looked_for
          (read (Warned at ∷ items)) (Warned at ∷ items) (number + n) ls) (ap (λ k. drop k all) past ∙
          drop-append_seam open_lines (Content line ∷ tail)) ∙ looked-here (read (Warned at ∷ items)) (Warned
          at ∷ items) (number + n) (Content line) tail begins ∙ enough-units compact_place compact-forward
          true (length all) (length (Content line ∷ tail) + 1) (Warned at ∷ items) (number + n)
          (Content line ∷ tail) (omega (arith, length-append open_lines (Content line ∷ tail))) (omega arith);
    }

-- ---- the end of the input

-- a reading that ends without a fault, after these items and at most `most` warnings
pub record EndsAfter (most : ℕ) (items : List (Item ReadEpoch))
    (whole : WholeReading ReadEpoch) : Type 0 where
  pub warnings : List At
  pub few : length warnings ≤ most
  pub same : whole ≡ record { items = with_warnings warnings items; fault = None }

pub ends-inside : (items : List (Item ReadEpoch)) (number : ℕ) (line : ReadLine) (rest : List ReadLine)
    → IsBetweenUnits items
    → EndsAfter 1 items (ended_reading true (record { items = items; stop = AtLines number (line ∷ rest) }))
ends-inside [] number line rest h = let never = h.header in absurd (cc)
ends-inside (item ∷ before) number line rest h = record {
  warnings = record { line = number + length (line ∷ rest); fault = Truncated } ∷ [];
  few = omega arith;
  same = rw (skipped-here (item ∷ before) Truncated h refl, ended_with) refl;
}
