use Rattle.std.proofs.Common.{◌≡◌, ◌++◌, ◌-◌, ◌*◌, length, take, drop, replicate, arith}
use Rattle.std.proofs.lemmas.{Grind.common_steps, List.take_at}
use Rattle.crx_rinex.{proofs.Cells.sound-with_flags, specs.SatelliteLines.with_flags}
use Rattle.crx_rinex.specs.meaning.Observations.{Row}
use Rattle.crx_rinex.proofs.satellite_row.SatRow.set_flags.Goals as goal

abbrev before : (c : goal.After-self-1) → Row
before c = record {
  name = c.self.inside.name;
  values = c.self.inside.values.items;
  flags = c.self.inside.flags.items;
}

-- the indicators are `flags`, and blanks after them
whole : (c : goal.After-self-1) → take c.self.inside.flags.len (c.put_flags.new.held ++ drop
    (length c.put_flags.new.held) c.self.inside.flags.items) ≡ c.args.flags.now ++ replicate
    (2 * length (before c).values - length c.args.flags.now) 32
whole c = grind (arith, common_steps, take_at, replicate)

pub invariant_of-self : goal.invariant_of-self
invariant_of-self c = grind (arith, common_steps, before, whole, sound-with_flags)

pub returns : goal.returns
returns c = grind (arith, common_steps, before, whole, with_flags)
