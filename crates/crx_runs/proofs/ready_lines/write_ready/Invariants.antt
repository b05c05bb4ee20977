use Rattle.std.proofs.Common.{◌≡◌, ℕ, List, ◌++◌, length}
use Rattle.crx_base.specs.meaning.Lines.{lines_text}
use Rattle.crx_runs.specs.{Taking.KeepsLines, meaning.Spans.{TookAll, span}}
use Rattle.crx_runs.proofs.ready_lines.write_ready.Given as goal

abbrev pub invariant-loop-line : goal.invariant-loop-line
invariant-loop-line g l = ((written : List ℕ) × TookAll (span g.W.Sink l.fn.writer l.writer) written
    × (lines_text (g.E.Engine.ready l.fn.engine) ≡ written ++ lines_text (g.E.Engine.ready l.engine)))
    × KeepsLines g.E.Engine l.fn.engine l.engine
    × (g.W.Sink.is_awaited l.writer ≡ g.W.Sink.is_awaited l.fn.writer)

abbrev pub decreases-loop-line : goal.decreases-loop-line
decreases-loop-line g l = length (g.E.Engine.ready l.engine)
