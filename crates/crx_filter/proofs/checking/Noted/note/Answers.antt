use Rattle.crx_filter.proofs.CheckCounts.{begun-printed, copied-printed, first-line, none-passed}
use Rattle.crx_filter.proofs.Reports.{version-same}
use Rattle.crx_filter.proofs.CheckCounts.{unclocked-printed}
use Rattle.crx_filter.proofs.Vocabulary.{◌≡◌, ◌∙◌, ◌||◌, ◌&&◌, not, ap, sym, subst}
use Rattle.crx_filter.proofs.Vocabulary.{arith, bytes_eq, columns, common_steps}
use Rattle.crx_filter.proofs.Vocabulary.{ℕ, Bool, false, Option, Some, is_some}
use Rattle.crx_filter.proofs.Vocabulary.{without_end_blanks, last_line, earliest}
use Rattle.crx_filter.proofs.Vocabulary.{Begun, Made, ObservationEpoch, OpenEpoch}
use Rattle.crx_filter.proofs.Vocabulary.{printed_made, reader_phase, RinexReader, TakesRinexLine}
use Rattle.crx_filter.specs.{CheckByLine.totals_made, CompactionByLine.is_before_header}
use Rattle.crx_filter.specs.Totals.{HasPrinted, totals_held}
use Rattle.crx_filter.proofs.checking.Noted.note.Goals.{After-is_some, in-Header-true, in-Event}
use Rattle.crx_filter.proofs.checking.Noted.note.Goals.{in-Begun+in-Some+then-is_none}
use Rattle.crx_filter.proofs.checking.Noted.note.Goals.{in-Begun+in-Some+else-is_none}
use Rattle.crx_filter.proofs.checking.Noted.note.Goals.{then-is_in_epoch, else-is_in_epoch}
use Rattle.crx_filter.proofs.checking.Noted.note.Goals.{in-Header-false}
use Rattle.crx_filter.proofs.checking.Noted.note.Goals.{in-Header-false-2}
use Rattle.crx_lines.specs.Reading.{line_shown}
use Rattle.crx_base.specs.declared.limits.TheConstants.{HEAD_WIDTH}
use Rattle.crx_filter.proofs.checking.Noted.note.Goals as goal

pub unreachable-requires : goal.unreachable-requires
unreachable-requires c = grind (arith, common_steps, c.requires.held c.in-Begun.is, c.in_default.is)

-- the line has begun an epoch
begun : (c : After-is_some) (before : RinexReader) (made : Made ObservationEpoch OpenEpoch)
    → TakesRinexLine made before (line_shown c.args.line).content c.args.step c.args.reader.now
    → c.args.step ≡ Begun
    → TakesRinexLine made before (line_shown c.args.line).content Begun c.args.reader.now
begun c before made takes is =
    subst (λ step. TakesRinexLine made before (line_shown c.args.line).content step c.args.reader.now)
    is takes

-- whether the line equals its printed form
abbrev IsGivenBack : After-is_some → Made ObservationEpoch OpenEpoch → Type 0
IsGivenBack c made =
    c.match-step.is_given_back ≡ bytes_eq (line_shown c.args.line).content (last_line (printed_made made))

-- the counts of the line, and whether it equals its printed form
adds : (c : After-is_some) (before : RinexReader) (made : Made ObservationEpoch OpenEpoch)
    → TakesRinexLine made before (line_shown c.args.line).content c.args.step c.args.reader.now
    → (totals_held c.match-step.self.totals
    ≡ totals_made (totals_held c.args.self.now.totals) (is_before_header (reader_phase before)) made)
    × (c.match-step.self.not_standard ≡ c.args.self.now.not_standard)
    × (HasPrinted made → IsGivenBack c made)
adds c before made takes = elim c.match-step.branch [
  | in-Header-true w ↦ grind (
    arith,
    common_steps,
    w.padded-self.ensures.value,
    version-same,
    first-line,
    w.in-Header-true.is,
    copied-printed,
  )
  | in-Event w ↦ grind (arith, common_steps, copied-printed)
  | in-Begun+in-Some+then-is_none w ↦
      let columns_are = w.trim_end_columns.ensures.value
      ∙ ap (λ h. without_end_blanks (columns h 1 HEAD_WIDTH)) w.columns.ensures.value in
      let printed =
      unclocked-printed made before c.args.reader.now (line_shown c.args.line).content w.in-Some.head
      (begun c before made takes w.in-Begun.is) w.in-Some.is w.clock.result w.clock.ensures.value
      (w.is_none.ensures ∙ ap not w.if-is_none.true) w.columns.ensures.sound.width _ columns_are in
      let back : IsGivenBack c made =
      rw (printed, ← w.bytes-then-is_none.ensures.content) (w.is_given_back-is ∙ w.eq.ensures) in
      elim w.if-is_in_epoch.branch [
        | then-is_in_epoch v ↦ (grind (arith, common_steps), grind (arith, common_steps), λ some. back)
        | else-is_in_epoch v ↦ (grind (arith, common_steps), grind (arith, common_steps), λ some. back)
      ]
  | in-Begun+in-Some+else-is_none w ↦
      let printed =
      begun-printed made before c.args.reader.now (line_shown c.args.line).content w.in-Some.head
      (begun c before made takes w.in-Begun.is) w.in-Some.is ∙ sym w.print_head.ensures.value
      ∙ sym w.bytes-else-is_none-2.ensures.value in
      let back : IsGivenBack c made =
      rw (printed, ← w.bytes-else-is_none.ensures.content) (w.is_given_back-is ∙ w.eq-else-is_none.ensures) in
      elim w.if-is_in_epoch.branch [
        | then-is_in_epoch v ↦ (grind (arith, common_steps), grind (arith, common_steps), λ some. back)
        | else-is_in_epoch v ↦ (grind (arith, common_steps), grind (arith, common_steps), λ some. back)
      ]
  | in-Header-false w ↦ grind (arith, common_steps, copied-printed, none-passed)
  | in-Header-false-2 w ↦ grind (arith, common_steps, copied-printed, none-passed)
]

pub returns-then-is_some-plain-clause-notes : goal.returns-then-is_some-plain-clause-notes
returns-then-is_some-plain-clause-notes c before made takes = grind (arith, adds)

-- if no line was named before and this one differs from its printed form, it is named
named : (old held : Option ℕ) (is_held plain is_plain back same : Bool) (number shown : ℕ)
    → held ≡ old → is_held ≡ is_some held → (is_held || (plain && back)) ≡ false
    → plain ≡ is_plain → back ≡ same → number ≡ shown → Some number ≡ earliest old (is_plain && same) shown
named old held is_held plain is_plain back same number shown was is other of_line given of_number =
    grind (arith, common_steps)

pub returns-clause-notes : goal.returns-clause-notes
returns-clause-notes c before made takes =
    let added = adds (goal.at.returns-clause-notes c).After-is_some before made takes in
    record {
      totals = grind (arith, common_steps, added.0);
      standard = λ some. named _ _ _ _ _ _ _ _ _ added.1 c.is_some.ensures c.if-is_some-plain.false
          c.plain.ensures.value (added.2 some) c.number.ensures.value;
    }
