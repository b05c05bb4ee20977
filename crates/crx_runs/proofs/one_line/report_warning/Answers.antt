use Rattle.std.proofs.lemmas.Grind.{common_steps}
use Rattle.std.proofs.Common.{[], ◌∷◌, refl, ap₂, arith, append-nil}
use Rattle.crx_lines.specs.Devices.{sink_tally_of}
use Rattle.crx_runs.specs.meaning.Messages.{warning_text}
use Rattle.crx_runs.proofs.one_line.report_warning.Goals as goal

pub returns-in-Ok : goal.returns-in-Ok
unfolding warning_text
returns-in-Ok = grind (arith, common_steps, append-nil)

pub returns-in-Err : goal.returns-in-Err
unfolding warning_text
returns-in-Err g c =
    let e = c.in-Err.ensures in
    record {
      settled = record {
        notices = c.args.notice ∷ [];
        next = ([], refl);
        wrote = (g.met.W.Sink.took_none c.args._writer.now, refl);
        reported = record {
          count = c.in-Err.field-0.0;
          some = omega arith;
          less = grind (arith, common_steps, append-nil);
          took = grind (arith, common_steps, append-nil);
          failed = ap₂ sink_tally_of e.counted e.unasked;
        };
      };
    }
