-- Two parts of a buffer: a rule on two texts as far as both go, and on the rest of the longer one.
use Rattle.std.proofs.Common.{rules, ℕ, ◌≡◌, ◌+◌, ◌-◌, ◌≤◌, List, ◌++◌, length, drop, take, replicate, arith}
use Rattle.std.proofs.{Common.{refl, ap, ◌∙◌}, lemmas.{Grind.common_steps, List.{append_assoc, append-nil}}}
use Rattle.std.proofs.lemmas.List.{drop_all, length-append, length-take-le, take_at, take-replicate}
use Rattle.std.{proofs.lemmas.{List.drop-replicate, Simd.length-zip2}, specs.Simd.Lanes.zip2}
use Rattle.crx_text.proofs.Positions.{by_position-split, by_position-old, by_position-other}
use Rattle.crx_text.specs.{declared.difference.TheConstants.BLANKS, meaning.Texts.by_position}
use Rattle.crx_base.specs.declared.limits.TheConstants.{LINE_LIMIT}

blanks_are : BLANKS ≡ replicate LINE_LIMIT 32
blanks_are = refl

pub some_blanks : (k end : ℕ) → k ≤ end → end ≤ LINE_LIMIT → take (end - k) (drop k BLANKS)
    ≡ replicate (end - k) 32
some_blanks k end ordered within =
    ap (λ t. take (end - k) (drop k t)) blanks_are ∙ ap (take _) (drop-replicate k _ 32)
    ∙ take-replicate _ (LINE_LIMIT - k) 32 (omega arith)

module _ (f : ℕ → ℕ → ℕ) (old other front rest more others : List ℕ) (k : ℕ)
    (first : k ≤ length old) (second : k ≤ length other)
    (front_is : front ≡ zip2 f (take k old) (take k other)) where
  front_long : length front ≡ k
  front_long = grind (arith, common_steps, length-take-le, length-zip2)

  two_parts : (end : ℕ) → k + length rest ≡ end → take end (take k (front ++ more) ++ (rest ++ others))
      ≡ front ++ rest
  two_parts end sum = grind (arith, common_steps, length-append, front_long, take_at, append_assoc)

  by_parts : by_position f old other ≡ front ++ by_position f (drop k old) (drop k other)
  by_parts = grind (arith, common_steps, by_position-split, by_position)

  pub both_end : length old ≡ k → length other ≡ k → take k (front ++ more) ≡ by_position f old other
  both_end one two = search (rules, drop_all, by_position, take_at, front_long, append-nil, by_parts)

  pub old_is_longer : length other ≡ k → length old ≤ LINE_LIMIT
      → rest ≡ zip2 f (take (length old - k) (drop k old)) (take (length old - k) (drop k BLANKS)) →
      take (length old) (take k (front ++ more) ++ (rest ++ others)) ≡ by_position f old other
  old_is_longer = grind (arith, common_steps, some_blanks, by_position-old, length-zip2, two_parts, by_parts)

  pub other_is_longer : length old ≡ k → length other ≤ LINE_LIMIT
      → rest ≡ zip2 f (take (length other - k) (drop k BLANKS)) (take (length other - k) (drop k other)) →
      take (length other) (take k (front ++ more) ++ (rest ++ others)) ≡ by_position f old other
  other_is_longer ends within rest_is =
      grind (arith, common_steps, some_blanks, by_position-other, length-zip2, by_parts)

-- the needs of `write_by_position`, whichever text is longer
pub ruleset each_end = (both_end, old_is_longer, other_is_longer)
