use Rattle.crx_compact.proofs.Vocabulary.{rules, ◌≡◌, ◌++◌, arith}
use Rattle.crx_compact.proofs.Vocabulary.{common_steps, ◌*◌, ◌-◌, take, replicate}
use Rattle.crx_compact.proofs.Resizing.{fewer-held, fewer-types, more-held, more-types}
use Rattle.crx_compact.proofs.satellite.SatelliteHistory.resize.Goals.{After-put_blanks}
use borrow.Rule.Slice.PartMut.{put_mid}
use Rattle.crx_compact.proofs.{CellsFor.{blanks-put, cells-cut}, Vocabulary.take_at}
use Rattle.std.proofs.lemmas.List.{length-take}
use Rattle.std.specs.Prelude.{vec_capacity}
use Rattle.crx_compact.proofs.satellite.SatelliteHistory.resize.Goals as goal

pub invariant_of-self : goal.invariant_of-self
invariant_of-self c =
    let i = c.self.inside in
    let held = fewer-held i.indicators.items (2 * i.count) (2 * c.args.count)
    (omega arith) c.self.invariant.0 in
    grind (arith, common_steps, length-take)

pub returns-then-count-from : goal.returns-then-count-from
returns-then-count-from c =
    let i = c.self.inside in
    let fewer = fewer-types i.indicators.items i.arcs.items
    c.truncate.new.self.items i.count c.args.count _
    (omega arith) c.self.invariant.1 (rw (c.truncate.ensures.items) (cells-cut i.arcs.items c.args.count)) in
    record { resized = rw (← c.self.view_is, c.truncate.ensures.capacity) fewer }

-- the new indicators are blank
put : (c : After-put_blanks) → take (2 * c.args.count) (put_mid (2 * c.self.inside.count)
    (2 * c.args.count - 2 * c.self.inside.count) c.deref_mut.result.now c.put_blanks.new.text)
    ≡ take (2 * c.self.inside.count) c.self.inside.indicators.items
    ++ replicate (2 * c.args.count - 2 * c.self.inside.count) 32
put c = grind (arith, common_steps, blanks-put)

pub invariant_of-self-2 : goal.invariant_of-self-2
invariant_of-self-2 c =
    let i = c.self.inside in
    let put = put (goal.at.invariant_of-self-2 c).After-put_blanks in
    let bytes = put_mid (2 * i.count) (2 * c.args.count - 2 * i.count) c.deref_mut.result.now
    c.put_blanks.new.text in
    let few = length-take (2 * c.args.count) bytes in
    let held = more-held (take (2 * i.count) i.indicators.items) (take (2 * c.args.count) bytes)
    (2 * c.args.count - 2 * i.count) put (omega (arith, few)) c.self.invariant.0 in
    grind (arith, common_steps, take_at, length-take)

pub returns : goal.returns
returns c =
    let i = c.self.inside in
    let put = put (goal.at.returns c).After-put_blanks in
    let more = more-types i.indicators.items _ i.arcs.items i.count c.args.count
    (vec_capacity i.arcs)
    (omega arith) c.self.invariant.1 put in
    search (rules, take_at, more)
