use Rattle.std.proofs.{Common.{refl, inl, arith}, lemmas.List.get_or-replicate}
use Rattle.crx_header.proofs.types.Types.new.Goals as goal

pub invariant_of-result : goal.invariant_of-result
invariant_of-result c =
    rw c.new.ensures.empty (
      record { allowed = λ k d h. absurd (omega (arith, h)); apart = refl },
      λ letter few. get_or-replicate 256 letter 0 0 few,
      inl refl,
    )
