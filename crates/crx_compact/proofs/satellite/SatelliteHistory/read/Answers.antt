use Rattle.crx_compact.proofs.SatelliteLines.{cells-refused, flags-refused, indicators-left, no-marks}
use Rattle.crx_compact.proofs.Vocabulary.{arith, common_steps, rules, length-take-le, take_at, err_from_is_err_and}
use Rattle.crx_compact.proofs.{SatelliteLines.stored-read, Marks.{none-there, on-both}}
use Rattle.crx_compact.proofs.Vocabulary.{length-each_place}
use Rattle.std.proofs.{lemmas.Result.IfErr-weaker, lemmas.List.take_rest}
use Rattle.crx_base.specs.Padded.{line_in}
use Rattle.crx_compact.proofs.satellite.SatelliteHistory.read.Goals as goal

pub returns-in_err-at : goal.returns-in_err-at
returns-in_err-at c =
    let p = err_from_is_err_and c.from_residual.result c.from_residual.ensures.1 in
    rw (p.1, p.2, ← c.self.view_is) (record {
      ok = tt;
      err = cells-refused c.self.inside.indicators.items c.self.inside.arcs.items
          c.self.inside.count (line_in c.args.line) c.requires.other c.in_err-at.ensures.err;
      sized = search (rules, length-each_place);
      room = grind (arith, common_steps);
    })

pub returns-then-is_empty : goal.returns-then-is_empty
returns-then-is_empty c =
    let empty = no-marks c.self.inside.count in
    search (rules, take_rest, none-there, stored-read, indicators-left, length-take-le, length-each_place)

pub returns : goal.returns
returns c =
    let at = c.in_ok-at.at in
    let refused = rw (take_rest c.line.result.now at, c.line.ensures.value)
    at c.patch_indicators.ensures.err in
    record {
      ok = search (rules, take_rest, take_at, on-both, stored-read);
      err = rw (← c.self.view_is) (
          IfErr-weaker c.patch_indicators.result _ _ (λ fault. flags-refused c.self.inside.indicators.items
          c.self.inside.arcs.items c.self.inside.count
          (line_in c.args.line)
          c.requires.other c.in_ok-at.ensures.ok) refused);
      sized = search (rules, length-each_place);
      room = grind (arith, common_steps);
    }
