use Rattle.std.proofs.{Common.rules, lemmas.Result.IfOk-at_ok}
use Rattle.crx_compact.proofs.Vocabulary.{◌≡◌, ◌++◌, ◌∷◌, [], ℕ, ℤ, List, Option, true, not, length, take, sym, ap}
use Rattle.crx_compact.proofs.Vocabulary.{◌∙◌, subst, arith, if◌then◌else◌, is_ok, eqb-true, length-map}
use Rattle.crx_compact.proofs.Vocabulary.{satellites_of, has_satellite, Row, HasRoom, OpenHistory, PendingLines}
use Rattle.crx_compact.proofs.Vocabulary.{row_of_parts, tail_of_history, no_tail, row_tail_in, Tail}
use Rattle.crx_compact.proofs.{Vocabulary.{AreRowsWritten, HaveRoom, slice_get_within}, GoodResults.by_ok}
use Rattle.crx_compact.proofs.RowsByHistory.{row-new}
use Rattle.crx_compact.proofs.{OneByOne.{taken_all, taken_more}, RowByRow.{all-at, all-next}}
use Rattle.crx_compact.proofs.{placing.ReservedRoom.asked-more}
use borrow.Author.Count.{falls}
use Rattle.crx_compact.specs.{Written.IsRowWritten}
use Rattle.crx_compact.proofs.history.History.encode.Goals as goal
use Rattle.std.proofs.lemmas.Grind.{common_steps}
use Rattle.crx_compact.proofs.CellsFor.{all-there}

pub loop-wanting-preserved : goal.loop-wanting-preserved
loop-wanting-preserved c =
    let rows : List Row = c.args.epoch.now.rows in
    let row : Row = c.in-Some.wanting.now in
    let index : ℕ = c.loop-wanting.prepared in
    let rooms = c.prepare.new.self.rooms in
    let roomy : HasRoom row.name (length row.values) rooms =
    rw (c.name.ensures.value, c.values.ensures.value) at c.in_ok-prepare.ensures.room in
    record {
      asked = asked-more c.loop-wanting.invariant.asked c.prepare.ensures.asked;
      room = all-next (λ (r : Row). HasRoom r.name (length r.values) rooms) rows index row
          (λ i d within. c.prepare.ensures.asked.rooms _ _ (c.loop-wanting.invariant.room i d within))
          (sym c.in-Some.ensures.value) roomy;
    }

pub overflow_add-prepared : goal.overflow_add-prepared
overflow_add-prepared c =
    omega (
      arith,
      slice_get_within c.args.epoch.now.rows c.loop-wanting.prepared _
          (sym c.in-Some.ensures.value),
    )

pub loop-wanting-smaller : goal.loop-wanting-smaller
loop-wanting-smaller c = falls _ _ (slice_get_within _ _ _ (sym c.in-Some.ensures.value))

pub loop-row-init : goal.loop-row-init
loop-row-init c =
    let same : ◌≡◌ {A = Tail} (record {
      text = take c.self.inside.length c.self.inside.text;
      clock = c.self.inside.clock;
      rows = c.loop-wanting.satellites.rows;
    }) (tail_of_history c.args.self.now) =
    (λ j. record {
      text = ap (λ (h : OpenHistory). h.text) c.self.view_is j;
      clock = ap (λ (h : OpenHistory). h.clock) c.self.view_is j;
      rows = (c.loop-wanting.invariant.asked.rows ∙ ap (λ (h : OpenHistory). h.satellites.rows)
          c.self.view_is)
          j;
    }) in
    let rooms = c.begin_rows.ensures.rooms in
    let known = ap (λ (h : OpenHistory). h.satellites.rooms) c.self.view_is in
    record {
      written = grind (arith, common_steps, same);
      room = subst (HaveRoom c.args.epoch.now.rows) (sym rooms) (subst (λ (rs : List Row). HaveRoom rs
          c.loop-wanting.satellites.rooms)
          (taken_all _ _ (sym c.in_default.ensures.value)) c.loop-wanting.invariant.room);
      kept = grind (arith, common_steps, rooms, known);
      left = omega (arith, ap (λ (l : PendingLines). l.left) c.requires.none);
      front = ap (λ (l : PendingLines). l.front) c.requires.none;
    }

pub unwrap-requires : goal.unwrap-requires
unwrap-requires c =
    let row : Row = c.in-Some-row.row.now in
    let rooms = c.loop-row.self.satellites.rooms in
    let here = sym c.in-Some-row.ensures.value in
    c.write_row.ensures.prepared.known (subst (λ (name : List ℕ). HasRoom name
    (length c.values-values.result.now) rooms) (sym
    c.name-in-Some-row.ensures.value) (subst (λ (values : List (Option ℤ)). HasRoom row.name (length values)
    rooms)
    (sym c.values-values.ensures.value) (all-at (λ (r : Row). HasRoom r.name (length r.values) rooms)
    c.args.epoch.now.rows c.loop-row.index row c.loop-row.invariant.room here)))

pub overflow_add-index : goal.overflow_add-index
overflow_add-index c =
    omega (arith, slice_get_within c.args.epoch.now.rows c.loop-row.index _ (sym c.in-Some-row.ensures.value))

pub loop-row-smaller : goal.loop-row-smaller
loop-row-smaller c = falls _ _ (slice_get_within _ _ _ (sym c.in-Some-row.ensures.value))

pub loop-row-preserved : goal.loop-row-preserved
loop-row-preserved c =
    let rows = c.args.epoch.now.rows in
    let index = c.loop-row.index in
    let row : Row = c.in-Some-row.row.now in
    let here = sym c.in-Some-row.ensures.value in
    let so_far : List Row = take index rows in
    let put : Row = row_of_parts c.name-in-Some-row.result c.values-values.result.now c.flags.result.now
    in
    let parts : put ≡ row =
    (λ j. row_of_parts (c.name-in-Some-row.ensures.value j) (c.values-values.ensures.value j)
    (c.flags.ensures.value j)) in
    let after : Tail = if c.args.in_full then no_tail else tail_of_history c.args.self.now in
    let written =
    IfOk-at_ok (IsRowWritten after so_far put c.loop-row.self c.loop-row.lines
    c.write_row.new.self c.write_row.new.lines)
    c.unwrap.ensures (c.write_row.ensures.written after so_far c.loop-row.invariant.written).ok in
    let is_new : c.unwrap.result ≡ true = written.answer
    ∙ ap not (ap (λ (r : Row). has_satellite r.name so_far) parts ∙ row-new rows index row
    c.is_full.ensures.sound.apart here) in
    let taken = written.taken is_new in
    let known = c.loop-row.invariant in
    record {
      written = subst (λ (rs : List Row). AreRowsWritten after rs c.write_row.new.self
          c.write_row.new.lines.lines) ((λ j. so_far ++ parts j ∷ []) ∙ sym (taken_more rows index row here))
          (written.written is_new);
      room = search (rules, known.room, c.write_row.ensures.prepared.rooms);
      kept = λ name count has. c.write_row.ensures.prepared.rooms name count (known.kept name count has);
      left = omega (arith, taken.left, known.left);
      front = taken.front ∙ known.front;
    }

pub end_rows-requires-clause-counted : goal.end_rows-requires-clause-counted
end_rows-requires-clause-counted c =
    search (rules, no_tail, tail_of_history, taken_all, length-map, row_tail_in, eqb-true, satellites_of)

pub returns-clause-written : goal.returns-clause-written
returns-clause-written c = search (rules, no_tail, tail_of_history, taken_all, by_ok, is_ok)

pub write_row-requires-clause-missing : goal.write_row-requires-clause-missing
write_row-requires-clause-missing c = all-there c.values-values.result.now
