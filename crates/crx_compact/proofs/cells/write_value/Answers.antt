use Rattle.std.proofs.Common.{rules, arith}
use Rattle.crx_text.proofs.CodeTexts.{code_text_length}
use Rattle.crx_compact.proofs.cells.write_value.Goals as goal

pub write_cell-requires-clause-room : goal.write_cell-requires-clause-room
write_cell-requires-clause-room c = omega (arith, code_text_length)

pub returns : goal.returns
returns c = search (rules, c.write_cell.ensures.within, code_text_length, c.push-code.ensures.printable)
