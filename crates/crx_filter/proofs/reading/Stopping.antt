-- The stops of a reading: more lines are needed, or a line is looked for after the last.
use Rattle.crx_filter.proofs.Vocabulary.{ℕ, zero, suc, ◌≡◌, ◌+◌, ◌<◌, Bool, true, List, [], ◌∷◌, length}
use Rattle.crx_filter.proofs.Vocabulary.{arith, length-drop, ReadLine, Place, FileUnit, Item}
use Rattle.crx_filter.proofs.Vocabulary.{header_has_ended, records_left, Reading, looked_for}
use Rattle.crx_filter.proofs.Vocabulary.{reading_within, reading_from, IsReadForward}
use Rattle.crx_filter.proofs.Vocabulary.{common_steps}
use Rattle.crx_filter.proofs.{following.LinesAtStops.IsStopped, reading.Resuming.{here-within}}
use Rattle.crx_filter.proofs.reading.Resuming.{wrong-within, within-here, within-wrong, within-wanted}

looked-stopped : {E : Type 0} (place : List (Item E) → List ReadLine → Place (FileUnit E))
    (items : List (Item E)) (read : ℕ → List ReadLine → Reading E)
    (bound number next : ℕ) (lines : List ReadLine) → header_has_ended items ≡ true → records_left items ≡ 0
    → ((n : ℕ) (ls : List ReadLine) → length ls < bound → n + length ls ≡ next → IsStopped place
    (read n ls).items (read n ls).stop next) → length lines < bound → number + length lines ≡ next → IsStopped
    place (looked_for read items number lines).items (looked_for read items number lines).stop next
looked-stopped place items read bound number next [] ended none h short counted = grind (arith)
looked-stopped place items read bound number next (line ∷ lines) ended none h short counted = grind
    (arith, common_steps, looked-stopped place items read bound (number + 1) next lines ended none h, h)

within-stopped : {E : Type 0} (place : List (Item E) → List ReadLine → Place (FileUnit E)) → IsReadForward
    place → (skip : Bool) (units : ℕ) (items : List (Item E)) (number next : ℕ) (lines : List ReadLine)
    → length lines < units → number + length lines ≡ next → IsStopped place (reading_within
    place skip units items number lines).items (reading_within place skip units items number lines).stop next
within-stopped place h skip zero items number next lines short counted = absurd (omega arith)
within-stopped place h skip (suc units) items number next lines short counted =
    grind (
      arith,
      common_steps,
      here-within place h items lines,
      length-drop,
      within-here place skip units items number lines,
      within-stopped place h skip units,
      within-wrong place skip units items number lines,
      wrong-within place h items lines,
      looked-stopped place,
      within-wanted place skip units items number lines,
    )

pub reading-stopped : {E : Type 0} (place : List (Item E) → List ReadLine → Place (FileUnit E))
    → IsReadForward place → (skip : Bool) (items : List (Item E)) (number next : ℕ) (lines : List ReadLine)
    → number + length lines ≡ next → IsStopped place (reading_from place skip items number lines).items
    (reading_from place skip items number lines).stop next
reading-stopped place h skip items number next lines counted = grind (arith, within-stopped)
