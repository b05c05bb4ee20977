use Rattle.std.proofs.Common.{rules, arith, ◌≤◌, ◌<◌, ◌^◌, decimal, length, ℕ}
use Rattle.std.proofs.lemmas.Grind.{common_steps}
use Rattle.std.proofs.lemmas.{Fmt.{length-decimal-le}}
use Rattle.crx_base.specs.meaning.Faults.{words_of_fault}
use Rattle.crx_base.specs.declared.fault.Fault.{Fault}
use Rattle.crx_runs.proofs.message.message.Goals as goal

-- A fault's words and numbers are short.
words_short : (fault : Fault) → length (words_of_fault fault) ≤ 23
words_short fault = search rules

code_short : (code : ℕ) → code < 256 → length (decimal code) ≤ 3
code_short code less = length-decimal-le 3 code (omega arith) (omega arith) (omega arith)

line_short : (line : ℕ) → line < 2 ^ 64 → length (decimal line) ≤ 20
line_short line less = length-decimal-le 20 line (omega arith) (omega arith) (omega arith)

pub write_digits-start-requires : goal.write_digits-start-requires
write_digits-start-requires = grind (arith, common_steps, words_short, code_short, line_short)

pub put_before-start-requires-4 : goal.put_before-start-requires-4
put_before-start-requires-4 = grind (arith, common_steps, words_short, code_short, line_short)

pub write_digits-start-requires-2 : goal.write_digits-start-requires-2
write_digits-start-requires-2 = grind (arith, common_steps, words_short, code_short, line_short)

pub put_before-start-requires-in-Error : goal.put_before-start-requires-in-Error
put_before-start-requires-in-Error = grind (arith, common_steps, words_short, code_short, line_short)

pub put_before-start-requires-in-Warning : goal.put_before-start-requires-in-Warning
put_before-start-requires-in-Warning = grind (arith, common_steps, words_short, code_short, line_short)
