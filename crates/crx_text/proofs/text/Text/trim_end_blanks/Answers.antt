use Rattle.std.proofs.{Common.{ℕ, length, take, ap, sym, ◌∙◌, arith}, lemmas.List.{length-take, take-take}}
use Rattle.crx_text.{proofs.EndBlanks.{few_kept, take_kept}, specs.meaning.Columns.without_end_blanks}
use Rattle.crx_text.proofs.text.Text.trim_end_blanks.Goals as goal

pub returns : goal.returns
returns c =
    let held = c.self.inside in
    let text = c.args.self.now in
    let m : ℕ = length _ in
    record {
      trimmed =
          ap (λ t. take (length t) held.bytes)
          (c.trim_end.ensures.value ∙ ap without_end_blanks c.bytes.ensures.value)
          ∙ sym (take-take m held.len held.bytes
          (omega (arith, few_kept text, ap length c.self.view_is, length-take held.len held.bytes)))
          ∙ ap (take m) c.self.view_is ∙ take_kept text;
    }
