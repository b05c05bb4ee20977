-- The calls so far were interrupted: none gave a byte, and the buffer has its length.
use Rattle.std.{proofs.Common.{◌≡◌, length}, specs.Io.KnownBytes.Keeps}
use Rattle.crx_lines.proofs.uninterrupted.UninterruptedRead.read.Given as goal

abbrev pub invariant-loop : goal.invariant-loop
invariant-loop g l = (length l.buf ≡ length l.initial.buf)
    × Keeps (g.D.Read.remaining l.initial.self.inner) (g.D.Read.remaining l.self.inner)
