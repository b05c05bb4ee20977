use Rattle.std.proofs.{Common.{ℕ, length, ◌∙◌}, lemmas.List.take-replicate}
use Rattle.crx_base.specs.declared.limits.TheConstants.{LINE_LIMIT}
use Rattle.crx_text.proofs.copies.put_blanks.Goals as goal

pub returns : goal.returns
returns c = record {
  blank =
      c.copy_text.ensures.copied ∙ take-replicate {X = ℕ} (length c.args.text.now) LINE_LIMIT 32 c.requires;
}
