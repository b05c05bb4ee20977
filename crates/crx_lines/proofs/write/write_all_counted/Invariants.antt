use Rattle.std.proofs.Common.{◌≡◌, ◌≤◌, ◌-◌, length, take}
use Rattle.crx_lines.proofs.write.write_all_counted.Given as goal

abbrev pub invariant-loop-written : goal.invariant-loop-written
invariant-loop-written g l =
    (l.written ≤ length l.bytes) × g.W.Sink.took l.initial.writer (take l.written l.bytes) l.writer
    × (g.W.Sink.failures l.writer ≡ g.W.Sink.failures l.initial.writer)
    × (g.W.Sink.flushes l.writer ≡ g.W.Sink.flushes l.initial.writer)
    × (g.W.Sink.is_awaited l.writer ≡ g.W.Sink.is_awaited l.initial.writer)
    × (g.W.Sink.is_broken l.writer ≡ g.W.Sink.is_broken l.initial.writer)

abbrev pub decreases-loop-written : goal.decreases-loop-written
decreases-loop-written g l = length l.bytes - l.written
