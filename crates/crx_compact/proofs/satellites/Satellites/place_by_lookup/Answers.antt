use Rattle.std.proofs.{Common.{arith, ap, option_map, refl, subst, sym, ◌∙◌}}
use Rattle.std.proofs.{lemmas.Option.{same_Some, slice_get_within}}
use Rattle.std.specs.Map.Iter.{deref_pair}
use Rattle.indexmap.specs.Layout.{length-set_value_at}
use Rattle.crx_compact.proofs.RowByRow.{room-known}
use Rattle.crx_compact.specs.Entries.{Entry, IsOrder}
use Rattle.crx_compact.proofs.placing.{AddedRows.emptied, LookUps.not-found, Orders.{none-in_order, place-is}}
use Rattle.crx_compact.proofs.placing.AddingAnswers.{placed-again, placed-anew, placed-exchanged}
use Rattle.crx_compact.proofs.placing.AddingAnswers.{placed-not, placed-unknown}
use Rattle.crx_compact.proofs.satellites.Satellites.place_by_lookup.Goals as goal
use Rattle.std.proofs.lemmas.Grind.{common_steps}

pub returns-in_default : goal.returns-in_default
returns-in_default c =
    let none = not-found c.args.name.now _ (c.in_default.ensures.unknown refl) in
    rw (← c.self.view_is)
    (placed-unknown _ _ _ _ (none-in_order _ c.self.invariant.2 c.args.name.now none) none)

pub returns-then-place-self : goal.returns-then-place-self
returns-then-place-self c =
    let stands = place-is c.self.invariant.2 c.in-Some.ensures.found c.number_at-place.ensures.value in
    rw (← c.self.view_is) (placed-again c.self.inside.known c.find.ensures.unique c.self.invariant.2 _ _
    c.in-Some.ensures.found stands c.if-place-self.true)

pub returns-then-not-has_room : goal.returns-then-not-has_room
returns-then-not-has_room c =
    let stands = place-is c.self.invariant.2 c.in-Some.ensures.found c.number_at-place.ensures.value in
    rw (← c.self.view_is) (placed-not c.self.inside.known c.find.ensures.unique c.self.invariant.2 _ _
    c.in-Some.ensures.found stands c.if-place-self.false (room-known _ _ (sym c.get_index.ensures.entry
    ∙ ap (option_map deref_pair) c.unwrap.ensures) c.has_room.ensures.value) c.if-not-has_room.true)

pub returns-then-place-self-2 : goal.returns-then-place-self-2
returns-then-place-self-2 c =
    let stands = place-is c.self.invariant.2 c.in-Some.ensures.found c.number_at-place.ensures.value in
    rw (← c.self.view_is) (placed-exchanged c.self.inside.known c.find.ensures.unique c.self.invariant.2 _ _
    c.in-Some.ensures.found stands c.if-place-self.false (room-known _ _ (sym c.get_index.ensures.entry
    ∙ ap (option_map deref_pair) c.unwrap.ensures) c.has_room.ensures.value) c.if-not-has_room.false
    c.if-place-self-2.true c.exchange.ensures.exchanged)

pub pair_mut-satellite-requires : goal.pair_mut-satellite-requires
pair_mut-satellite-requires c = slice_get_within _ _ _ c.in-Some.ensures.found.there

pub exchange-requires-2-clause-within : goal.exchange-requires-2-clause-within
exchange-requires-2-clause-within c = grind (arith, common_steps, place-is)

pub exchange-requires-3-clause-within : goal.exchange-requires-3-clause-within
exchange-requires-3-clause-within c = grind (arith, common_steps, place-is)

pub returns : goal.returns
returns c =
    let found = c.in-Some.ensures.found in
    let order = c.self.invariant.2 in
    let same = same_Some _ _ (sym found.there ∙ c.pair_mut-satellite.ensures.value) in
    rw (← c.self.view_is) (placed-anew c.self.inside.known c.find.ensures.unique order _ _ found
    (place-is order found c.number_at-place.ensures.value) c.if-place-self.false (room-known _ _
    (sym c.get_index.ensures.entry ∙ ap (option_map deref_pair) c.unwrap.ensures)
    c.has_room.ensures.value)
    c.if-not-has_room.false c.self.invariant.0 c.if-place-self-2.false
    (c.resize.ensures.resized ∙ ap (λ (e : Entry). emptied e.1) (sym same)) c.exchange-2.ensures.exchanged
    (subst (IsOrder _ _) order.counted c.exchange-2.ensures.order) c.exchange-3.ensures.exchanged)

pub invariant_of-self-2 : goal.invariant_of-self-2
invariant_of-self-2 c =
    let stands = place-is c.self.invariant.2 c.in-Some.ensures.found c.number_at-place.ensures.value in
    rw (length-set_value_at c.self.inside.known.entries c.in-Some.found c.resize.new.self) (
      omega (arith, c.self.invariant.0),
      omega (arith, stands.1, c.if-place-self-2.false),
      subst (IsOrder _ _)
          (c.exchange-2.ensures.order.counted ∙ c.self.invariant.2.counted) c.exchange-3.ensures.order,
      c.place_after-self-inside.ensures.behind,
    )
