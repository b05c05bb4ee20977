use Rattle.crx_compact.proofs.Vocabulary.{◌≡◌, ◌+◌, ◌-◌, sym, ap, subst, ◌∙◌, arith}
use Rattle.crx_compact.proofs.Vocabulary.{OpenHistory}
use Rattle.crx_compact.proofs.Vocabulary.{Some, slice_get, tail_of_history}
use Rattle.crx_compact.proofs.reading.Announced.{rows-allowed, rows-few}
use Rattle.crx_compact.proofs.{PrintedBlocks.{row-printed}, RowByRow.{all-at}}
use Rattle.crx_compact.specs.{Placing.{HasAllowedCount, row_tail_of}, PrintedBlocks.IsPrinted}
use Rattle.crx_compact.proofs.history.History.print.Goals.{After-entry}
use Rattle.crx_compact.proofs.history.History.print.Goals as goal

pub put_printed-requires-clause-left : goal.put_printed-requires-clause-left
put_printed-requires-clause-left c =
    omega (
      arith,
      (c.requires.before (omega arith)).left,
      rows-few c.args.self.now c.requires.announced,
      c.requires.within,
    )

-- the row that is printed
there : (c : After-entry) → slice_get c.args.self.now.satellites.rows (c.args.count - 1)
    ≡ Some (row_tail_of c.entry.result.0.now c.entry.result.1.now)
there c = ap (λ (h : OpenHistory). slice_get h.satellites.rows (c.args.count - 1)) (sym c.self.view_is) ∙
    c.entry.ensures.there

pub put_printed-requires-clause-few : goal.put_printed-requires-clause-few
put_printed-requires-clause-few c =
    let allowed = all-at HasAllowedCount c.args.self.now.satellites.rows (c.args.count - 1) _
    (rows-allowed c.args.self.now c.requires.announced)
    (there (goal.at.put_printed-requires-clause-few c).After-entry) in
    omega (arith, allowed)

pub returns : goal.returns
returns c =
    let tail = tail_of_history c.args.self.now in
    let counted : c.args.count - 1 + 1 ≡ c.args.count = omega arith in
    record {
      printed = subst (λ n. IsPrinted n tail c.put_printed.new.self) counted
          (row-printed tail (c.args.count - 1) _ c.args.lines.now c.put_printed.new.self
          (c.requires.before (omega arith)) (there (goal.at.returns c).After-entry)
          c.put_printed.ensures.lines
          c.put_printed.ensures.taken);
    }
