use Rattle.std.proofs.Common.{arith}
use Rattle.std.proofs.lemmas.{Grind.common_steps, List.{length-take, length-drop}}
use Rattle.crx_lines.proofs.{ReturnLemmas.{cut-line, last-byte}, WindowLemmas.{passed, untouched}}
use Rattle.crx_lines.proofs.window.Window.cut_line.Goals as goal

pub returns-clause-shown : goal.returns-clause-shown
returns-clause-shown c = grind (arith, common_steps, length-take, length-drop, last-byte, cut-line)

pub returns-clause-kept : goal.returns-clause-kept
returns-clause-kept c = grind (arith, common_steps, passed, untouched, length-take, length-drop)
