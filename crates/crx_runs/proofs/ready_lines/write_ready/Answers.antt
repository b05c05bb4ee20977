use Rattle.std.proofs.Common.{arith}
use Rattle.std.proofs.lemmas.Grind.{common_steps}
use Rattle.std.proofs.Common.{◌≡◌, [], ◌∷◌, ◌++◌, drop, sym, ap, ap₂, ◌∙◌, append_assoc}
use Rattle.crx_base.specs.meaning.Lines.{lines_text}
use Rattle.crx_lines.specs.Devices.{sink_tally_of}
use Rattle.crx_runs.proofs.{DeviceSpans.{all-all, span-joins}, output.ReadyLines.first-and-rest}
use Rattle.crx_runs.proofs.{output.ReadyLines.{one-written, part-after}, ready_lines.write_ready.Given.Over}
use Rattle.crx_runs.{proofs.ready_lines.write_ready.Goals.In-Some-next_line}
use Rattle.crx_runs.proofs.ready_lines.write_ready.Goals as goal

-- The pending lines at first are the text written, the next line, its LF and the rest.
next-line : (g : Over) (c : In-Some-next_line g) → lines_text (g.E.Engine.ready c.args.engine.now)
    ≡ c.loop-line.invariant.0.0 ++ (c.in-Some-next_line.line.now
    ++ (10 ∷ [] ++ lines_text (drop 1 (g.E.Engine.ready c.loop-line.engine))))
next-line = grind (arith, common_steps, first-and-rest)

pub returns-in-Err-write_all_counted-clause-part : goal.returns-in-Err-write_all_counted-clause-part
returns-in-Err-write_all_counted-clause-part g c =
    let e = c.in-Err-write_all_counted.ensures in
    part-after (span-joins g.W.Sink g.met.W.Sink.took_both)
    c.loop-line.invariant.0.0 c.in-Some-next_line.line.now _ _
    (next-line g (goal.at.returns-in-Err-write_all_counted-clause-part g c).In-Some-next_line)
    c.loop-line.invariant.0.1
    ((c.in-Err-write_all_counted.field-0-0, e.short, e.part), ap₂ sink_tally_of e.counted e.unasked)

pub returns-in-Err-write_all_counted-2-clause-part : goal.returns-in-Err-write_all_counted-2-clause-part
returns-in-Err-write_all_counted-2-clause-part g c =
    let line = c.in-Some-next_line.line.now in
    let so_far = c.loop-line.invariant.0 in
    let d = c.in_default-write_all_counted.ensures in
    let e = c.in-Err-write_all_counted-2.ensures in
    part-after (span-joins g.W.Sink g.met.W.Sink.took_both) (so_far.0 ++ line) (10 ∷ []) _ _
    (next-line g (goal.at.returns-in-Err-write_all_counted-2-clause-part g c).In-Some-next_line ∙ sym
    (append_assoc _ line _)) (all-all (span-joins g.W.Sink g.met.W.Sink.took_both) _ line so_far.1
    (d.all, ap₂ sink_tally_of d.good d.unasked))
    ((c.in-Err-write_all_counted-2.field-0-0, e.short, e.part), ap₂ sink_tally_of e.counted e.unasked)

pub loop-line-preserved : goal.loop-line-preserved
loop-line-preserved g c =
    let line = c.in-Some-next_line.line.now in
    let lines = g.E.Engine.ready _ in
    let kept = c.next_line.follows.holds-at-none in
    let i = c.loop-line.invariant in
    let so_far = i.0 in
    let d = c.in_default-write_all_counted.ensures in
    let e = c.in_default-write_all_counted-2.ensures in (
      (
        so_far.0 ++ line ++ 10 ∷ [],
        all-all (span-joins g.W.Sink g.met.W.Sink.took_both) _ _
            (all-all (span-joins g.W.Sink g.met.W.Sink.took_both) _ line so_far.1
            (d.all, ap₂ sink_tally_of d.good d.unasked)) (e.all, ap₂ sink_tally_of e.good e.unasked),
        one-written _ _ line lines so_far.2 (first-and-rest lines line c.in-Some-next_line.ensures.value) ∙ ap
            (λ ls. (so_far.0 ++ line ++ 10 ∷ []) ++ lines_text ls) (sym kept.0),
      ),
      grind (arith, common_steps),
      e.awaited ∙ d.awaited ∙ i.2,
    )
