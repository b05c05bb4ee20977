use Rattle.crx_filter.proofs.Vocabulary.{ap, refl, ◌+◌, ◌∙◌, None}
use Rattle.crx_compact.specs.Encoding.{EncoderState}
use Rattle.crx_filter.proofs.steps.CompactionKnows.{compaction_of, ended-takes}
use Rattle.crx_filter.proofs.steps.CompactionKnows.{kept_in, moved-takes, refused-takes}
use Rattle.crx_filter.proofs.steps.CompactionParts.{closed-together, due-there, row-asked, row-ends, row-moves}
use Rattle.crx_filter.proofs.steps.CompactionParts.{row-together, served-open}
use Rattle.{crx_lines.specs.Reading.line_shown, std.proofs.lemmas.Result.err_from_is_err_and}
use Rattle.crx_filter.proofs.compaction.CompactionDirection.take_in_epoch.Goals as goal

pub returns-in_err-is_last : goal.returns-in_err-is_last
returns-in_err-is_last c =
    let p = err_from_is_err_and c.from_residual.result c.from_residual.ensures.1 in
    let was = c.self.inside in
    let row = rw c.padded.ensures.content at c.in_err-is_last.ensures.refused in
    rw (← c.self.view_is, p.1, p.2) (record {
      takes = refused-takes _ (compaction_of was.index was.reader was.encoder)
          (compaction_of was.index c.compact_row.new.reader c.compact_row.new.encoder)
          (line_shown c.args.line) _
          (row.refuses (kept_in was)) row.types refl
          (λ choices chosen. row.full _ chosen) row.nothing;
    })

pub invariant_of-self-then-not-is_last : goal.invariant_of-self-then-not-is_last
invariant_of-self-then-not-is_last c =
    let opened = rw (← c.self.view_is) at c.requires.open in
    row-together c.in_ok-is_last.ensures.written c.self.invariant opened c.if-not-is_last.true

pub returns-then-not-is_last : goal.returns-then-not-is_last
returns-then-not-is_last c =
    let was = c.self.inside in
    let opened = rw (← c.self.view_is) at c.requires.open in
    let drained = rw (← c.self.view_is) at c.requires.asked.drained in
    let row = rw c.padded.ensures.content at c.in_ok-is_last.ensures.written in
    let moves = row-moves row (kept_in was) c.if-not-is_last.true in
    rw (← c.self.view_is) (record {
      takes = moved-takes _ (compaction_of was.index was.reader was.encoder)
          (compaction_of was.index c.compact_row.new.reader c.compact_row.new.encoder)
          (line_shown c.args.line) _
          moves.0
          (ap (λ (e : EncoderState). record { index = was.index; tail = e.before }) row.written)
          (λ choices chosen. served-open _ _ _ (ap (λ (e : EncoderState). e.in_full) row.written
          ∙ due-there _ _ _ opened chosen))
          (ap (λ (e : EncoderState). e.pending) row.written ∙ drained);
    })

pub end_epoch-requires : goal.end_epoch-requires
end_epoch-requires c =
    let opened = rw (← c.self.view_is) at c.requires.open in
    record {
      whole = row-asked c.in_ok-is_last.ensures.written c.self.invariant opened c.if-not-is_last.false;
    }

pub invariant_of-self-2 : goal.invariant_of-self-2
invariant_of-self-2 c =
    let row = c.in_ok-is_last.ensures.written in
    let done = row-ends row (record { index = 0; tail = None }) c.if-not-is_last.false in
    let ends = c.end_epoch.ensures.ends done.head done.held in
    closed-together _ _ done.is.closed ends.closed ends.rows

pub returns : goal.returns
returns c =
    let was = c.self.inside in
    let opened = rw (← c.self.view_is) at c.requires.open in
    let row = rw c.padded.ensures.content at c.in_ok-is_last.ensures.written in
    let done = row-ends row (kept_in was) c.if-not-is_last.false in
    let ends = c.end_epoch.ensures.ends done.head done.held in
    rw (← c.self.view_is) (record {
      takes = ended-takes _ (compaction_of was.index was.reader was.encoder)
          (compaction_of (was.index + 1) c.compact_row.new.reader c.end_epoch.new.encoder)
          (line_shown c.args.line) _
          done c.compact_row.new.encoder
          (λ choices chosen. ap (λ (e : EncoderState). e.in_full) row.written ∙ due-there _ _ _ opened chosen)
          (ap (λ (e : EncoderState). e.before) row.written) (ap (λ (e : EncoderState). e.rows) row.written)
          ends refl;
    })
