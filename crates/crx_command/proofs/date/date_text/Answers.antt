use Rattle.std.proofs.Common.{arith, ◌≡◌, ◌∙◌, ◌-◌, [], string_bytes}
use Rattle.std.proofs.{Common.append_assoc, lemmas.{Grind.common_steps, Int.ints}}
use Rattle.jiff.specs.Words.{civil_nanos}
use Rattle.crx_command.proofs.date.date_text.Goals as goal

pub returns : goal.returns
returns c =
    let moment : civil_nanos _ ≡ c.args.at.nanosecond = c.to_datetime-shown.ensures ∙ omega (arith, ints) in
    let start : string_bytes c.new-text.result ≡ [] = c.new-text.ensures.bytes in
    record {
      date = (c.to_datetime-shown.result, moment, grind (arith, common_steps, append_assoc, start));
    }
