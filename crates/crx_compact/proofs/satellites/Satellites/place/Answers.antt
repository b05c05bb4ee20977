use Rattle.std.proofs.Common.{rules, ap, sym, ◌∙◌, arith, option_map}
use Rattle.std.specs.Map.Iter.{deref_pair}
use Rattle.crx_compact.proofs.RowByRow.{room-known}
use Rattle.crx_compact.proofs.placing.LookUps.{found-same}
use Rattle.crx_compact.proofs.placing.{AddingAnswers.{placed-exchanged, placed-next, placed-not}, PutNext.put-same}
use Rattle.crx_compact.proofs.satellites.Satellites.place.Goals as goal

pub key_at-requires : goal.key_at-requires
key_at-requires c =
    omega (arith, c.self.invariant, c.self.invariant.2.index c.self.inside.next, c.if-self.true)

pub returns-then-not-has_room : goal.returns-then-not-has_room
returns-then-not-has_room c =
    rw (← c.self.view_is)
    (placed-not c.self.inside.known c.key_at.ensures.unique c.self.invariant.2 _ _
    (found-same c.args.name.now _ _ _ c.key_at.ensures.there c.if-is_same_identifier.ensures.same)
    (sym c.number_at-index.ensures.value, search rules) c.self.invariant.3
    (room-known _ _ (sym c.get_index.ensures.entry ∙ ap (option_map deref_pair) c.unwrap.ensures)
    c.has_room.ensures.value) c.if-not-has_room.true)

pub returns-then-self-2 : goal.returns-then-self-2
returns-then-self-2 c =
    rw (← c.self.view_is)
    (placed-next c.self.inside.known c.key_at.ensures.unique c.self.invariant.2 _ _
    (found-same c.args.name.now _ _ _ c.key_at.ensures.there c.if-is_same_identifier.ensures.same)
    (sym c.number_at-index.ensures.value, search rules) c.self.invariant.3
    (room-known _ _ (sym c.get_index.ensures.entry ∙ ap (option_map deref_pair) c.unwrap.ensures)
    c.has_room.ensures.value) c.if-not-has_room.false c.if-self.true (rw c.if-self-2.true (put-same _ _)))

pub returns-then-is_same_identifier : goal.returns-then-is_same_identifier
returns-then-is_same_identifier c =
    rw (← c.self.view_is)
    (placed-exchanged c.self.inside.known c.key_at.ensures.unique c.self.invariant.2 _ _
    (found-same c.args.name.now _ _ _ c.key_at.ensures.there c.if-is_same_identifier.ensures.same)
    (sym c.number_at-index.ensures.value, search rules) c.self.invariant.3
    (room-known _ _ (sym c.get_index.ensures.entry ∙ ap (option_map deref_pair) c.unwrap.ensures)
    c.has_room.ensures.value) c.if-not-has_room.false c.if-self.true c.exchange.ensures.exchanged)
