-- The output and messages of an expansion that skips faults, of a text that is damaged in stretches.
use Rattle.crx_filter.proofs
use proofs.Vocabulary.{ℕ, ◌≡◌, true, List, [], ◌++◌, map, reverse, None, refl, arith}
use proofs.Vocabulary.{append-nil, lines_of, lines_text, ReadLine, Content, as_read, Epoch, FileUnit, ReadEpoch}
use proofs.Vocabulary.{Choices, Item, Reading, reading_from, ended_reading, compact_place, expanded, common_steps}
use proofs.Vocabulary.{whole_compact, printed_items, warnings_in}
use proofs.Vocabulary.{notices_text, expanded_lines, FilterResult, Stretch}
use proofs.Vocabulary.{with_stretches}
use Rattle.crx_filter.specs.meaning.Stretches.{HasStretches, KeepsTheRest, stretches_lines}
use Rattle.crx_filter.specs.meaning.UnitsAndText.{as_items}
use Rattle.crx_runs.specs.meaning.Results.{status_after}
use proofs.anywriter.AnyText.{AreRead, all-read, in-place, whole-read}
use proofs.damage.{ResumedEpochs.{EndsAfter, with_warnings}, SavedText.{lines-append, lines-warned}}
use proofs.reading.{ForwardCompact.compact-forward, AcceptedUnits.items-read}
use proofs.stretches.OpenReading.{open-ends, open-items, pending}
use proofs.stretches.StretchesRead.{WereReadAs, AreSound, next-closed, stretches-read, placed-up_to}
use proofs.wayback.{ExpandedStandard.printed-read, ExpandedWhole.{AreGoodEpochs, epochs-good}}

-- the output and messages if such a reading ends, with more read after the items of the units before
pub record IsWrittenFor (before : List (FileUnit Epoch)) (items more : List (Item ReadEpoch))
    (r : Reading ReadEpoch)
    (result : FilterResult) : Type 0 where
  pub good : AreGoodEpochs (more ++ items)
  pub end : EndsAfter (pending r.stop) (more ++ items) (ended_reading true r)
  pub is : result ≡ record {
    output = lines_text (printed_items (as_items before) ++ expanded_lines more);
    messages = notices_text (reverse (warnings_in (with_warnings end.warnings (more ++ items))));
    status = status_after (reverse (warnings_in (with_warnings end.warnings (more ++ items)))) None;
    fault = None;
  }

module _ (before : List (FileUnit Epoch)) (stretches : List Stretch) (damaged : List ℕ)
    (d : HasStretches before stretches damaged) where
  pub sound : AreSound before stretches
  sound = grind (arith, common_steps, in-place)

  -- the reading of the lines before the first stretch
  pub front : AreRead true 3 before (d.text).lines (d.text).last
  front = all-read true 3 before (d.text).lines (d.text).last
      (placed-up_to before stretches sound.in_place) (d.text).written

  abbrev pub old : List ReadLine
  old = map Content (d.text).lines

  pub come : WereReadAs old front.items before
  come = grind (arith, common_steps, compact-forward, front, next-closed, sound)

  pub written-for : (expanding : Choices) → expanding.skip ≡ true → (lines : List ReadLine)
      → old ++ stretches_lines stretches ≡ lines
      → (more : List (Item ReadEpoch)) (after : List (FileUnit Epoch))
      → WereReadAs lines (more ++ front.items) after
      → IsWrittenFor before front.items more (reading_from compact_place true [] 3 lines)
      (expanded damaged expanding)
  written-for expanding skips lines all more after there =
      let t = d.text in
      let items = more ++ front.items in
      let r = reading_from compact_place true [] 3 lines in
      let end = open-ends items r there.between there.stops in
      let whole : whole_compact expanding.skip (map as_read (lines_of damaged))
      ≡ record { items = with_warnings end.warnings items; fault = None } =
      cc (skips, t.cut, d.rest, all, whole-read true t.version t.program lines t.first t.second, end.same) in
      let text : expanded_lines (with_warnings end.warnings items)
      ≡ printed_items (as_items before) ++ expanded_lines more =
      cc (
        lines-warned end.warnings items,
        lines-append more front.items,
        printed-read front.items,
        front.known,
      ) in
      record {
        good = grind (arith, common_steps, items, r, epochs-good, open-items, items-read);
        end = end;
        is = rw (whole, text, append-nil) refl;
      }

-- ---- the law

pub rest-kept : (before : List (FileUnit Epoch)) (stretches : List Stretch) (damaged : List ℕ)
    (expanding : Choices)
    → expanding.skip ≡ true → HasStretches before stretches damaged
    → KeepsTheRest before stretches (expanded damaged expanding)
rest-kept before stretches damaged expanding skips d =
    let start = (front before stretches damaged d).items in
    let r = stretches-read before stretches (old before stretches damaged d) start
    (sound before stretches damaged d)
    (come before stretches damaged d) in
    let w = written-for before stretches damaged d expanding skips _ refl r.more
    (with_stretches before stretches) r.come in
    grind (arith, common_steps, with_warnings)
