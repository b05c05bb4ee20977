use Rattle.crx_filter.proofs.Vocabulary.{common_steps, ◌≡◌, ◌≤◌, ◌++◌, ◌∷◌, [], List, length, refl, arith}
use Rattle.crx_filter.proofs.Vocabulary.{◌∙◌, ObservationHead, Row, RinexReader}
use Rattle.crx_base.specs.declared.limits.TheConstants.{SATELLITES_LIMIT}
use Rattle.crx_filter.proofs.RinexSteps.{IsInEpoch, in-its-epoch, last-row-taken, row-taken, stays-open}
use Rattle.{crx_rinex.specs.meaning.EpochLines.IsObservationHead, std.proofs.lemmas.List.length_push}
use Rattle.crx_filter.proofs.rinex_reader.RinexReader.take_row.Goals as goal

few-rows : (r : RinexReader) (head : ObservationHead) (row : Row) (rows : List Row) → IsInEpoch r head
    → IsObservationHead head → rows ≡ r.rows.rows ++ row ∷ [] → length rows ≤ SATELLITES_LIMIT
few-rows r head row rows at sound is = grind (arith, common_steps, length_push)

pub overflow_add-self : goal.overflow_add-self
overflow_add-self c =
    let wants = (in-its-epoch c.args.self.now c.in-Some.head c.requires.«open» c.in-Some.is).wants in
    omega (arith, wants)

pub returns-then-self-announced-clause-takes : goal.returns-then-self-announced-clause-takes
returns-then-self-announced-clause-takes c = λ line kept read other new.
    last-row-taken c.args.self.now _ c.in-Some.head line kept c.requires.«open» c.in-Some.is read other new
    (c.if-self-announced.true ∙ c.count-announced.ensures.value)
    (record { types_then = refl; held = c.in-Some.is; rows_then = c.add.ensures.rows }) refl

pub invariant_of-self : goal.invariant_of-self
invariant_of-self c = record {
  consistent = refl;
  few = few-rows c.args.self.now c.in-Some.head c.args.self.now.row c.add.new.self.rows
      (in-its-epoch c.args.self.now c.in-Some.head c.requires.«open» c.in-Some.is)
      c.count-announced.ensures.sound c.add.ensures.rows;
}

pub invariant_of-self-else-self-announced : goal.invariant_of-self-else-self-announced
invariant_of-self-else-self-announced c =
    let at = in-its-epoch c.args.self.now c.in-Some.head c.requires.«open» c.in-Some.is in
    let counted = at.counted in
    let wants = at.wants in
    let others = c.if-self-announced.false in
    let announced = c.count-announced.ensures.value in
    grind (arith, common_steps, at, counted, wants, others, announced, stays-open, length_push, few-rows)

pub returns-clause-takes : goal.returns-clause-takes
returns-clause-takes c = λ line kept read other new.
    let at = in-its-epoch c.args.self.now c.in-Some.head c.requires.«open» c.in-Some.is in
    let wants = at.wants in (
      row-taken c.args.self.now _ c.in-Some.head line kept c.requires.«open» c.in-Some.is read other new
          (omega (arith, wants))
          (record { types_then = refl; held = c.in-Some.is; rows_then = c.add.ensures.rows }) at.stage,
      c.requires.«open»,
    )
