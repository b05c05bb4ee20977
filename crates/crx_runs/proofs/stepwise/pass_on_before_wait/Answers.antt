use Rattle.std.proofs.Common.{[], ap, ap₂, refl, ◌∙◌}
use Rattle.crx_lines.specs.{Devices.sink_tally_of, meaning.Devices.{SinkTally, one_more, with_failed_flush}}
use Rattle.crx_runs.proofs.stepwise.pass_on_before_wait.{Given.Over, Goals.{Joined-may_wait, then-may_wait, else-may_wait}}
use Rattle.crx_runs.specs.meaning.Spans.{TookAll, span}
use Rattle.crx_runs.proofs.stepwise.pass_on_before_wait.Goals as goal

-- the writer may have been told that its output is awaited
still : (g : Over) (c : Joined-may_wait g)
    → TookAll (span g.W.Sink c.args.writer.now c.if-may_wait.writer) []
still g c = elim c.if-may_wait.branch [
  | then-may_wait w ↦ rw (w.writer-is) (
    w.await_output.ensures.none_taken,
    ap₂ sink_tally_of w.await_output.ensures.good w.await_output.ensures.unasked,
  )
  | else-may_wait w ↦ rw (w.writer-is) (g.met.W.Sink.took_none _, refl)
]

pub returns-then-pass_on-clause-still : goal.returns-then-pass_on-clause-still
returns-then-pass_on-clause-still g c =
    let told = still g (goal.at.returns-then-pass_on-clause-still g c).Joined-may_wait in λ _. (
      g.met.W.Sink.took_both _ _ _ [] [] told.0 c.pass_on.ensures.none_taken,
      ap₂ sink_tally_of c.pass_on.ensures.good c.pass_on.ensures.unasked ∙ told.1,
    )

pub returns-clause-failed : goal.returns-clause-failed
returns-clause-failed g c =
    let told = still g (goal.at.returns-clause-failed g c).Joined-may_wait in
    let handed = c.pass_on.ensures in
    let flushed = c.in-Err.ensures in λ _. (
      g.met.W.Sink.took_both _ _ _ [] [] told.0
          (g.met.W.Sink.took_both _ _ _ [] [] handed.none_taken flushed.none_taken),
      ap₂ sink_tally_of (flushed.counted ∙ ap one_more handed.good)
          (flushed.asked ∙ ap one_more handed.unasked)
          ∙ ap (λ (t : SinkTally). with_failed_flush t) told.1,
    )
