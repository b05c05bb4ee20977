-- The calls so far were interrupted: none took a byte.
use Rattle.std.specs.Io.KnownBytes.{Keeps}
use Rattle.crx_lines.proofs.uninterrupted.UninterruptedWrite.flush.Given as goal

abbrev pub invariant-loop : goal.invariant-loop
invariant-loop g l = Keeps (g.D.Write.contents l.initial.self.inner) (g.D.Write.contents l.self.inner)
