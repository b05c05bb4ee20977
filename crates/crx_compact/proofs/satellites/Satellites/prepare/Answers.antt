use Rattle.std.proofs.Common.{rules, arith}
use Rattle.std.proofs.{lemmas.Option.{slice_get_within}}
use Rattle.indexmap.specs.{Layout.length-set_value_at}
use Rattle.crx_compact.proofs.placing.EntryChanges.{has-room, rooms-changed}
use Rattle.crx_compact.proofs.placing.ReservedRoom.{front-same, none-lost, range-same, rows-before, rows-same}
use Rattle.crx_compact.proofs.satellites.Satellites.prepare.Goals as goal

pub pair_mut-satellite-requires : goal.pair_mut-satellite-requires
pair_mut-satellite-requires c = slice_get_within _ _ _ c.in_ok-found.ensures.found.at.there

pub invariant_of-self-2 : goal.invariant_of-self-2
invariant_of-self-2 c =
    let known = c.find_or_add.new.map.entries in
    let more = none-lost c.self.inside.known.entries known c.in_ok-found.ensures.found.known in
    let all = c.self.invariant.1 in
    rw (length-set_value_at known c.in_ok-found.found c.make_room.new.self)
    (c.self.invariant.0, omega (arith, all, more), c.find_or_add.ensures.order, c.self.invariant.3)

pub returns : goal.returns
returns c =
    search (rules, arith, rows-before, rows-same, front-same, range-same, rooms-changed, has-room)
