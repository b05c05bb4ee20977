use Rattle.std.proofs.Common.{[], ◌++◌, inl, refl, ap, ap₂, ◌∙◌}
use Rattle.crx_lines.specs.{Devices.sink_tally_of, meaning.Devices.one_more}
use Rattle.crx_program.proofs.program.show_help.Goals as goal

pub returns-in-Ok-flush : goal.returns-in-Ok-flush
returns-in-Ok-flush g c =
    let text = c.as_bytes.result.now in
    let took = g.met.W.Sink.took_both _ _ _ text [] c.in-Ok.ensures.all c.in-Ok-flush.ensures.none_taken in
    inl (
      refl,
      (text ++ [], took),
      ap₂ sink_tally_of (c.in-Ok-flush.ensures.good ∙ c.in-Ok.ensures.good) (c.in-Ok-flush.ensures.asked ∙ ap
          one_more c.in-Ok.ensures.unasked),
      c.in-Ok-flush.ensures.flushed,
      (g.met.M.Sink.took_none _, refl),
    )
