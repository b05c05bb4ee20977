use Rattle.std.proofs.Common.{replicate, rules}
use Rattle.crx_rinex.proofs.Cells.{sound-blank}
use Rattle.crx_rinex.proofs.satellite_row.SatRow.blank.Goals as goal

pub invariant_of-result : goal.invariant_of-result
invariant_of-result c = search (rules, replicate, sound-blank, c.requires.named, c.requires.allowed)
