-- Damage to compact text stays in its block, whoever wrote the text: the output and messages of an expansion.
use Rattle.crx_filter.proofs
use proofs.Vocabulary.{ℕ, ◌≡◌, ◌+◌, ◌≤◌, true, List, [], ◌∷◌, ◌++◌, map, length, reverse, Option, refl, ap}
use proofs.Vocabulary.{◌∙◌, arith}
use proofs.Vocabulary.{append_assoc, append-nil, length-append, inl, list_all, and_parts, ReadLine, Content, Epoch}
use proofs.Vocabulary.{FileUnit}
use proofs.Vocabulary.{common_steps, ReadEpoch, Choices, Item, records_left, Reading, reading_from}
use proofs.Vocabulary.{continued_reading}
use proofs.Vocabulary.{warnings_in, compact_place, expanded, Stretch, up_to_next}
use Rattle.crx_filter.specs.meaning.CompactText.{AreUnitsInPlace}
use Rattle.crx_filter.specs.meaning.{Stretches.{AreLinesOn, begins_no_event}, UnitsAndText.as_items}
use Rattle.crx_filter.specs.meaning.Damage.{IsDamaged, epochs_among, IsSalvaged}
use Rattle.crx_compact.specs.meaning.AnyWriter.{WrittenEpoch}
use Rattle.std.proofs.lemmas.List.{append_cancel_right, length-reverse, Folds.list_all-append}
use proofs.anywriter.AnyText.{AreReadOn, read-on, in-place, units-silent}
use proofs.damage.ResumedEpochs.{with_warnings}
use proofs.damage.SavedText.{epochs_of, epochs-append, epochs-known, warnings-append, warnings-with}
use proofs.reading.{ForwardCompact.compact-forward, Resuming.resumed}
use proofs.stretches.OpenReading.{few-warned, open-items, pending, stretch-more}
use proofs.stretches.StretchesRead.{IsStepRead, header-on, one-stretch, step-printed, step-whole}
use proofs.stretches.StretchesSaved.{come, front, old, sound, written-for}

module _ (before : List (FileUnit Epoch)) (s : Stretch) (damaged : List ℕ)
    (d : IsDamaged before s damaged) where
  abbrev start : List (Item ReadEpoch)
  start = (front before (s ∷ []) damaged d.stretch).items

  abbrev lines_before : List ReadLine
  lines_before = old before (s ∷ []) damaged d.stretch

  abbrev number : ℕ
  number = 3 + length ((d.stretch).text).lines

  abbrev reading : List ReadLine → Reading ReadEpoch
  reading lines = reading_from compact_place true [] 3 (lines_before ++ lines)

  after-front : (lines : List ReadLine) → reading lines ≡ reading_from compact_place true start number lines
  after-front lines = resumed compact_place compact-forward true [] 3 lines_before lines
      ∙ ap (λ r. continued_reading compact_place true r lines) (front before (s ∷ []) damaged d.stretch).reads

  one : IsStepRead before s lines_before start
  one = one-stretch before s [] lines_before start (sound before (s ∷ []) damaged d.stretch)
      (come before (s ∷ []) damaged d.stretch)

  abbrev more : List (Item ReadEpoch)
  more = one.kept.more ++ with_warnings one.kept.warnings one.first.news

  -- ---- at most one warning

  start-silent : warnings_in start ≡ []
  start-silent = units-silent start before (front before (s ∷ []) damaged d.stretch).known

  block-few : length (warnings_in (one.first.news ++ start)) + pending (reading s.instead).stop ≤ 1
  block-few = grind (arith, common_steps, open-items, one, after-front, few-warned, start-silent)

  -- ---- the epochs whose lines are at the block's beginning

  own-epochs : (units : List (FileUnit Epoch)) (lines : List (List ℕ)) (last : Option WrittenEpoch)
      (rest : List ReadLine)
      → AreUnitsInPlace (units ++ before) → records_left (as_items (units ++ before)) ≡ 0
      → AreLinesOn before ((d.stretch).text).last units lines last → s.instead ≡ map Content lines ++ rest
      → (more : List Epoch) × (epochs_of one.first.news ≡ epochs_among units ++ more)
  own-epochs units lines last rest placed closed k e =
      let f = front before (s ∷ []) damaged d.stretch in
      let o : AreReadOn true start number before units lines last =
      read-on true start number before units lines
      ((d.stretch).text).last last f.like f.left (in-place (units ++ before) placed) k in
      let next : List (Item ReadEpoch) = o.more ++ start in
      let quiet = ((d.stretch).each).0.allowed in
      let later = stretch-more next (lines_before ++ map Content lines) rest (record {
        header = (o.like).header ∙ header-on units before (d.stretch).header;
        none = (o.like).left ∙ closed;
      })
      (inl (
        number + length lines,
        [],
        refl,
        compact-forward.wants next,
        after-front (map Content lines) ∙ o.reads,
      ))
      (and_parts (list_all begins_no_event (map Content lines)) (list_all begins_no_event rest)
      (rw (e, list_all-append) at quiet)).1 in
      let same : one.first.news ++ start ≡ (later.news ++ o.more) ++ start =
      cc (
        open-items (one.first.news ++ start) (reading s.instead) one.first.stops,
        open-items (later.news ++ next) _ later.stops,
        append_assoc lines_before (map Content lines) rest,
        append_assoc later.news o.more start,
        e,
      ) in (
        epochs_of later.news,
        cc (
          append_cancel_right one.first.news (later.news ++ o.more) start same,
          epochs-append later.news o.more,
          epochs-known o.more units o.known,
        ),
      )

-- ---- the law

pub all-saved : (before : List (FileUnit Epoch)) (s : Stretch) (damaged : List ℕ) (expanding : Choices)
    → expanding.skip ≡ true → (d : IsDamaged before s damaged)
    → IsSalvaged before s damaged d (expanded damaged expanding)
all-saved before s damaged expanding skips d =
    let step = one before s damaged d in
    let items = start before s damaged d in
    let news = more before s damaged d in
    let w = written-for before (s ∷ []) damaged d.stretch expanding skips
    ((lines_before before s damaged d ++ s.instead) ++ map Content s.lines)
    (simp (append_assoc, append-nil)) news
    (up_to_next before s) step.come in
    let all = with_warnings w.end.warnings (news ++ items) in
    rw w.is (record {
      epochs = epochs_of step.first.news;
      whole = step-whole before s (lines_before before s damaged d) items step
          (front before (s ∷ []) damaged d.stretch).like.types
          w.good;
      warnings = reverse (warnings_in all);
      few = simp (length-reverse, append_assoc, warnings-with, warnings-append, length-append)
          (omega (
            arith,
            w.end.few,
            step.kept.few,
            block-few before s damaged d,
            simp length-append at (ap length (warnings-append step.first.news items)),
            ap length (units-silent step.kept.more s.kept step.kept.known),
          ));
      output = rw (step-printed before s (lines_before before s damaged d) items step) refl;
      messages = refl;
      status = refl;
      fault = refl;
      own = own-epochs before s damaged d;
    })
