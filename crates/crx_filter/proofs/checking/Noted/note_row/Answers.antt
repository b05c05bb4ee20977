use Rattle.crx_filter.proofs.CheckCounts.{row-made}
use Rattle.crx_filter.proofs.Vocabulary.{◌≡◌, ◌+◌, arith, common_steps, Made, ObservationEpoch, OpenEpoch}
use Rattle.crx_filter.proofs.Vocabulary.{RinexReader, TakesRow, reader_phase}
use Rattle.crx_filter.specs.{CheckByLine.totals_made, CompactionByLine.is_before_header}
use Rattle.crx_filter.specs.Totals.{IsObserved, totals_held}
use Rattle.crx_filter.proofs.checking.Noted.note_row.Goals.{After-is_some}
use Rattle.crx_compact.proofs.Characters.{bytes_eq-same}
use Rattle.crx_filter.proofs.checking.Noted.note_row.Goals as goal

-- the counts of the row
adds : (c : After-is_some) (before : RinexReader) (made : Made ObservationEpoch OpenEpoch)
    → TakesRow made c.args.is_last before c.args.reader.now
    → (totals_held c.if-is_last.self.totals
    ≡ totals_made (totals_held c.args.self.now.totals) (is_before_header (reader_phase before)) made)
    × (c.if-is_last.self.not_standard ≡ c.args.self.now.not_standard)
adds c before made takes =
    let observed : IsObserved (c.args.self.now.observed + c.observations.result) c.args.reader.now.rows.rows =
    grind (arith, common_steps) in
    grind (arith, common_steps, observed)

pub returns-then-is_some-clause-notes : goal.returns-then-is_some-clause-notes
returns-then-is_some-clause-notes c before made takes =
    grind (
      arith,
      common_steps,
      adds (goal.at.returns-then-is_some-clause-notes c).After-is_some before made
          takes,
    )

pub returns-then-plain-has_printed_form-clause-notes : goal.returns-then-plain-has_printed_form-clause-notes
returns-then-plain-has_printed_form-clause-notes c before made takes =
    let printed = row-made made before c.args.reader.now c.args.is_last c.requires.behind.rows takes
    c.requires.behind.is_last in
    let form = c.has_printed_form.ensures in
    grind (
      arith,
      common_steps,
      printed,
      form,
      bytes_eq-same,
      adds (goal.at.returns-then-plain-has_printed_form-clause-notes c).After-is_some before made takes,
    )

pub returns-then-plain-eq-clause-notes : goal.returns-then-plain-eq-clause-notes
returns-then-plain-eq-clause-notes c before made takes = grind (
  arith,
  common_steps,
  adds (goal.at.returns-then-plain-eq-clause-notes c).After-is_some before made takes,
  row-made made before c.args.reader.now c.args.is_last c.requires.behind.rows takes
      c.requires.behind.is_last,
)

pub returns-clause-notes : goal.returns-clause-notes
returns-clause-notes c before made takes = grind (
  arith,
  common_steps,
  adds (goal.at.returns-clause-notes c).After-is_some before made takes,
  row-made made before c.args.reader.now c.args.is_last c.requires.behind.rows takes
      c.requires.behind.is_last,
)
