use Rattle.std.proofs.{Common.{slice_set, arith, w64}, lemmas.Grind.common_steps}
use Rattle.crx_text.{proofs.CodeTexts.{code_text_start}, specs.meaning.Codes.code_text}
use Rattle.crx_text.proofs.code.write_code.Goals as goal

pub write_signed-requires : goal.write_signed-requires
write_signed-requires c = grind (arith, common_steps, w64, code_text, code_text_start, slice_set)
