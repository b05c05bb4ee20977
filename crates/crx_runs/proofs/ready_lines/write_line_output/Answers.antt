use Rattle.std.proofs.Common.{◌≡◌, ◌++◌, ◌∷◌, [], List, ℕ, append-nil, append_assoc, ap, ap₂, sym, ◌∙◌}
use Rattle.std.proofs.lemmas.Grind.{flat_map-append}
use Rattle.crx_base.specs.meaning.Lines.{lines_text}
use Rattle.crx_lines.specs.Devices.{sink_tally_of}
use Rattle.crx_runs.proofs.{DeviceSpans.{all-all, span-joins}, output.ReadyLines.part-after}
use Rattle.crx_runs.proofs.ready_lines.write_line_output.Goals as goal

-- the text of some lines and of one after them
line-after : (ready : List (List ℕ)) (line : List ℕ)
    → lines_text (ready ++ line ∷ []) ≡ lines_text ready ++ (line ++ 10 ∷ [])
line-after ready line = flat_map-append (λ (l : List ℕ). l ++ 10 ∷ []) ready (line ∷ [])
    ∙ ap (λ (t : List ℕ). lines_text ready ++ t) (append-nil (line ++ 10 ∷ []))

pub returns-in-Err-clause-part : goal.returns-in-Err-clause-part
returns-in-Err-clause-part g c =
    let ready = g.E.Engine.ready c.args.engine.now in
    let line = c.args.content.now in
    let e = c.in-Err.ensures in
    rw (c.in-AsItIs.is) (part-after (span-joins g.W.Sink g.met.W.Sink.took_both) (lines_text ready) line
    (10 ∷ []) _ (line-after ready line) c.in_ok-write_ready.ensures.all
    ((c.in-Err.field-0-0, e.short, e.part), ap₂ sink_tally_of e.counted e.unasked))

pub returns-in-Err-write_all_counted-clause-part : goal.returns-in-Err-write_all_counted-clause-part
returns-in-Err-write_all_counted-clause-part g c =
    let ready = g.E.Engine.ready c.args.engine.now in
    let line = c.args.content.now in
    let d = c.in_default-write_all_counted.ensures in
    let e = c.in-Err-write_all_counted.ensures in
    rw (c.in-AsItIs.is) (part-after (span-joins g.W.Sink g.met.W.Sink.took_both) (lines_text ready ++ line)
    (10 ∷ []) [] _ (line-after ready line ∙ sym (append_assoc (lines_text ready) line (10 ∷ [])))
    (all-all (span-joins g.W.Sink g.met.W.Sink.took_both) (lines_text ready) line
    c.in_ok-write_ready.ensures.all (d.all, ap₂ sink_tally_of d.good d.unasked))
    ((c.in-Err-write_all_counted.field-0-0, e.short, e.part), ap₂ sink_tally_of e.counted e.unasked))
