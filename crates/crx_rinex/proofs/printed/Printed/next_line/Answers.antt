use Rattle.std.proofs.Common.{◌≡◌, Some, drop, slice_get, refl, ap, sym, ◌∙◌, arith}
use Rattle.std.proofs.lemmas.{Grind.common_steps, List.drop-drop}
use Rattle.crx_rinex.{proofs.Lines.{each_line, first_of_rest}, specs.meaning.Printing.printed_epoch}
use Rattle.crx_rinex.proofs.printed.Printed.next_line.Goals.{then-self-eq0, else-self-eq0+in_ok-row}
use Rattle.crx_rinex.proofs.printed.Printed.next_line.Goals as goal

pub returns : goal.returns
returns c =
    let after = c.if-self-eq0.self-inside in
    let lines = printed_epoch after.epoch in
    let parts : (slice_get lines after.next ≡ Some after.text) × (drop after.next lines ≡ c.args.self.now) =
    elim c.if-self-eq0.branch [
      | then-self-eq0 w ↦ grind (arith, common_steps, each_line)
      | else-self-eq0+in_ok-row w ↦ grind (arith, common_steps, each_line)
    ] in (
      (refl, λ _. tt, sym (drop-drop 1 after.next lines) ∙ ap (drop 1) parts.1),
      grind (arith, common_steps, after, lines, parts, first_of_rest lines after.next),
    )
