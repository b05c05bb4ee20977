use Rattle.std.proofs.Common.{◌≡◌, ◌-◌, List, [], None}
use Rattle.crx_base.specs.{declared.limits.TheConstants.INPUT_LIMIT, meaning.Lines.InputLine}
use Rattle.crx_lines.specs.Readers.{reading}
use Rattle.crx_runs.specs.{Running.{IsWithinLimit, IsRunning}, meaning.{Results.are_some, Spans.reader_span}}
use Rattle.crx_runs.specs.meaning.Spans.{span}
use Rattle.crx_runs.proofs.stepwise.Run.run.Given as goal

abbrev pub invariant-lines : goal.invariant-lines
invariant-lines g l = ((lines : List InputLine) × g.E.Engine.shows l.self.engine lines [] × IsRunning (reader_span
    g.R.Source l.initial.reader l.reader) (span g.W.Sink l.initial.writer l.writer) (span g.M.Sink
    l.initial.messages l.messages) (reading l.self.input) lines ((g.E.Engine.filter l.initial.self.engine).so_far lines)
    × (l.warned ≡ are_some ((g.E.Engine.filter l.initial.self.engine).so_far lines).warnings)) × (g.E.Engine.ready
    l.self.engine ≡ []) × (g.E.Engine.filter l.self.engine ≡ g.E.Engine.filter l.initial.self.engine)
    × IsWithinLimit (reading l.self.input) × (l.self.ended ≡ None)

abbrev pub decreases-lines : goal.decreases-lines
decreases-lines g l = INPUT_LIMIT - (reading l.self.input).passed
