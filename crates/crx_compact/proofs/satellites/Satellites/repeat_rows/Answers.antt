use Rattle.std.proofs.Common.{ap, sym, subst, arith, drop, map, take, All, ℕ, Option, Some}
use Rattle.std.proofs.Common.{◌≤◌, ◌∙◌, option_map, slice_get}
use Rattle.std.specs.Map.Iter.{deref_pair}
use borrow.Author.Count.{below_more}
use Rattle.crx_compact.specs.{Entries.{KeepsTypes, in_order}, HeldRows.IsAwaitedSatellite}
use Rattle.crx_compact.specs.{Placing.{row_of_entry, satellite_of}}
use Rattle.crx_compact.proofs.placing.{RepeatedRows.{come-again, named-before, none-placed, typed-named}}
use Rattle.crx_compact.proofs.placing.{SteppedRows.rows-counted}
use Rattle.crx_compact.proofs.placing.Orders.{length-in_order, there-in_order}
use Rattle.crx_compact.proofs.satellites.Satellites.repeat_rows.Goals as goal
use Rattle.std.proofs.lemmas.Grind.{common_steps}

pub unwrap-requires : goal.unwrap-requires
unwrap-requires c = grind (arith, common_steps)

pub loop-place-preserved : goal.loop-place-preserved
loop-place-preserved c =
    let self = c.self.inside in
    let es = self.known.entries in
    let os = in_order self.order.items es in
    let all = c.self.invariant.1 in
    let place = c.loop-place.place in
    let less = c.loop-place-test.true in
    let name = c.unwrap.result.0.now in
    let satellite = c.unwrap.result.1.now in
    let counted = c.count-in-loop-place in
    let there = ap (slice_get es) (sym c.number_at.ensures.value)
    ∙ sym c.get_index.ensures.entry ∙ ap (option_map deref_pair) c.unwrap.ensures in
    let none =
    none-placed self.placed self.live es (c.self.invariant.0, c.self.invariant.1, c.self.invariant.2)
    (rw (← c.self.view_is) at c.requires.none) in
    let awaited = subst (λ n. All IsAwaitedSatellite (map satellite_of (map row_of_entry (drop n
    (take self.live os)))))
    none (rw (← c.self.view_is) at c.requires.awaited) in
    below_more (λ place. KeepsTypes c.args.types.now self.order.items place es) place c.loop-place.invariant
    (record {
      entry = (name, satellite);
      there = there;
      typed = typed-named c.args.types.now name (named-before self.live os awaited place (name, satellite)
          (omega (arith, less, c.if-count-self.false)) (omega (
            arith,
            all,
            length-in_order es c.self.invariant.2,
          ))
          (there-in_order es c.self.invariant.2 place (name, satellite)
          (omega (arith, less, all, c.if-count-self.false)) there))
          ∙ sym c.in-Some.ensures.value ∙ ap {B = Option ℕ} Some (c.if-found-count.false
          ∙ counted.ensures.value);
      own = grind (arith, common_steps, name, satellite, counted);
      room = subst (λ n. n ≤ satellite.room) counted.ensures.value counted.ensures.room;
    })

pub returns-clause-again : goal.returns-clause-again
returns-clause-again c =
    let self = c.self.inside in
    let es = self.known.entries in
    let os = in_order self.order.items es in
    let all = c.self.invariant.1 in
    let none =
    none-placed self.placed self.live es (c.self.invariant.0, c.self.invariant.1, c.self.invariant.2)
    (rw (← c.self.view_is) at c.requires.none) in
    let come =
    come-again self.known c.len-count.ensures.unique c.self.invariant.2 c.args.types.now self.live all
    (λ place less. c.loop-place.invariant place (omega (arith, less, c.if-count-self.false))) in
    grind (arith, common_steps, self, es, os, none, come)

pub returns-clause-counted : goal.returns-clause-counted
returns-clause-counted c = grind (arith, common_steps, length-in_order, none-placed, rows-counted)
