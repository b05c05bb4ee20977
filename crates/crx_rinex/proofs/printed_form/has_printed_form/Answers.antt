use Rattle.std.proofs.Common.{◌+◌, ◌*◌, ◌<◌, ◌≤◌, length, arith}
use Rattle.crx_rinex.proofs.PrintedRows.{all_print, inside_prints, line_printed, next_prints}
use Rattle.crx_rinex.proofs.printed_form.has_printed_form.Goals as goal

pub loop-k-preserved : goal.loop-k-preserved
loop-k-preserved c =
    let line = c.args.line.now in
    let k = c.loop-k.k in
    let room : 16 * k + 1 + 16 ≤ length line = omega (arith, c.loop-k-test.true) in
    next_prints line k c.loop-k.invariant (inside_prints line k room c.if-not-is_printed_field.ensures.form)

pub returns : goal.returns
returns c =
    let line = c.args.line.now in
    let some : 0 < length line = omega (arith, c.if-length-eq0.false) in
    let past : length line ≤ 16 * c.loop-k.k + 3 =
    omega (arith, c.loop-k-test.false, c.if-length-gt-BEFORE.false, some) in
    record {
      form = line_printed line
          (all_print line c.loop-k.k c.loop-k.invariant past) some c.if-line-length-eq32.false;
    }
