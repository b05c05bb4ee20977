use Rattle.crx_filter.proofs.Vocabulary.{◌≡◌, ap, has_satellite, not, sym, subst, true, ◌∙◌, List}
use Rattle.crx_filter.proofs.Vocabulary.{Count, Row, is_open_stage, row_of}
use Rattle.crx_base.specs.Padded.{line_in}
use Rattle.crx_filter.specs.{CheckingParts.AreNamed, Totals.IsObserved}
use Rattle.crx_filter.proofs.steps.CheckerSteps.{named-answer, named-next, named-still, noted-takes}
use Rattle.crx_filter.proofs.steps.CheckerSteps.{nothing_kept}
use Rattle.crx_filter.proofs.steps.CheckerSteps.{refused-takes, rejected-reads, row-taken, still-drained}
use Rattle.crx_filter.proofs.steps.{EngineAnswers.short-line, RowSteps.taken-from}
use Rattle.{crx_lines.specs.Reading.{line_shown}, std.proofs.lemmas.Result.err_from_is_err_and}
use Rattle.crx_filter.proofs.checking.CheckingDirection.take_in_epoch.Goals.{After-put}
use Rattle.crx_filter.proofs.checking.CheckingDirection.take_in_epoch.Goals as goal

-- whether the row's satellite is repeated
has-come : (c : After-put) → is_open_stage c.self.inside.reader.stage ≡ true
    → has_satellite c.read_row.new.self.row.name c.self.inside.reader.rows.rows ≡ not c.put.result
has-come c opened = named-answer c.self.inside.noted.names c.self.inside.reader.rows.rows
    c.read_row.new.self.row (c.self.invariant.named opened) c.name.ensures.sound.named c.put.result
    (rw (← c.name.ensures.value) c.put.ensures.new)

pub returns-in_err-read_row : goal.returns-in_err-read_row
returns-in_err-read_row c =
    let p = err_from_is_err_and c.from_residual.result c.from_residual.ensures.1 in
    let drained = rw (← c.self.view_is) at c.requires.asked.drained in
    rw (← c.self.view_is, p.1, p.2, ← c.padded.ensures.content) (record {
      takes = refused-takes (rejected-reads _ c.self.inside.reader
          c.read_row.new.self c.self.inside.noted.totals (line_in c.padded.result) _ _
          c.in_err-read_row.ensures.same (c.in_err-read_row.ensures.refused nothing_kept)
          (still-drained c.self.inside.handed_out _ _ drained));
    })

pub invariant_of-self-then-not-put : goal.invariant_of-self-then-not-put
invariant_of-self-then-not-put c =
    let opened = rw (← c.self.view_is) at c.requires.open in
    let same = c.in_ok-read_row.ensures.same in
    record {
      named = λ is. subst (AreNamed c.put.new.self) (sym same.rows) (named-still c.self.inside.noted.names
          c.put.new.self c.self.inside.reader.rows.rows c.read_row.new.self.row
          (c.self.invariant.named opened)
          (rw (← c.name.ensures.value) c.put.ensures.put) c.name.ensures.sound.named
          (has-come (goal.at.invariant_of-self-then-not-put c).After-put opened ∙ ap not c.if-not-put.true));
      observed = λ is. subst (IsObserved c.self.inside.noted.observed) (sym same.rows)
          (c.self.invariant.observed opened);
    }

pub returns-then-not-put : goal.returns-then-not-put
returns-then-not-put c =
    let opened = rw (← c.self.view_is) at c.requires.open in
    let drained = rw (← c.self.view_is) at c.requires.asked.drained in
    let read = c.in_ok-read_row.ensures in
    rw (← c.self.view_is, ← c.padded.ensures.content) (record {
      takes = refused-takes (rejected-reads _ c.self.inside.reader
          c.read_row.new.self c.self.inside.noted.totals (line_in c.padded.result) _ _ read.same
          (read.repeated nothing_kept (has-come (goal.at.returns-then-not-put c).After-put opened
          ∙ ap not c.if-not-put.true)) (still-drained c.self.inside.handed_out _ _ drained));
    })

pub note_row-requires-clause-behind : goal.note_row-requires-clause-behind
note_row-requires-clause-behind c =
    let opened = rw (← c.self.view_is) at c.requires.open in
    let read = c.in_ok-read_row.ensures in
    record {
      rows = c.read_row.new.self.rows.rows;
      is_last = rw c.take_row-is_last.ensures.row c.take_row-is_last.ensures.rows;
      types = c.self.inside.reader.types;
      read = rw (c.take_row-is_last.ensures.row, ← c.padded.ensures.content) read.ok;
      observed_before = subst (IsObserved c.self.inside.noted.observed) (sym read.same.rows)
          (c.self.invariant.observed opened);
    }

pub invariant_of-self-2 : goal.invariant_of-self-2
invariant_of-self-2 c =
    let opened = rw (← c.self.view_is) at c.requires.open in
    let same = c.in_ok-read_row.ensures.same in
    record {
      named = λ is. rw (c.note_row.ensures.names, c.take_row-is_last.ensures.rows, same.rows) (named-next
          c.self.inside.noted.names c.put.new.self c.self.inside.reader.rows.rows c.read_row.new.self.row
          (c.self.invariant.named opened) (rw (← c.name.ensures.value) c.put.ensures.put)
          c.name.ensures.sound.named);
      observed = λ is. c.note_row.ensures.observed;
    }

pub returns : goal.returns
returns c =
    let was = c.self.inside in
    let line = line_in c.padded.result in
    let read = c.in_ok-read_row.ensures in
    let opened = rw (← c.self.view_is) at c.requires.open in
    let drained = rw (← c.self.view_is) at c.requires.asked.drained in
    let new = has-come (goal.at.returns c).After-put opened ∙ ap not c.if-not-put.false in
    let row = c.take_row-is_last.ensures.takes line nothing_kept
    (ap (λ (ts : List Count). row_of ts line) read.same.types ∙ read.ok) read.row
    (ap (λ (rs : List Row). has_satellite c.read_row.new.self.row.name rs) read.same.rows ∙ new) in
    let same = read.same in
    let takes = rw c.padded.ensures.content at
    (taken-from was.reader _ c.take_row-is_last.new.self line nothing_kept
    c.take_row-is_last.result (record {
      stage = same.stage;
      types = same.types;
      head = same.head;
      count = same.count;
      rows = same.rows;
    }) row) in
    let noted = c.note_row.ensures.notes _ _ takes in
    rw (← c.self.view_is) (record {
      takes = noted-takes was.reader c.take_row-is_last.new.self was.noted c.note_row.new.self
          (line_shown c.args.line) _ (short-line (line_shown c.args.line) c.args.line.short)
          (row-taken was.reader c.take_row-is_last.new.self _ c.take_row-is_last.result takes)
          (record { totals = noted.totals; standard = noted.standard })
          (still-drained was.handed_out _ _ drained);
    })
