use Rattle.std.proofs.{Common.{rules, decimal}, lemmas.List.{length-take, length-drop, length-append}}
use Rattle.crx_text.proofs.Spellings.{fraction_short, length-size_text}
use Rattle.crx_text.proofs.number.size_print.Goals as goal

pub padded_print-requires : goal.padded_print-requires
padded_print-requires c = search (rules, decimal, fraction_short, length-size_text, length-take, length-drop)

pub bounds-field-point : goal.bounds-field-point
bounds-field-point c = search (rules, length-append)
