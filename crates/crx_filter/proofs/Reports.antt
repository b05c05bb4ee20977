-- The lines of a report.
use Rattle.crx_filter.proofs.Vocabulary
use Vocabulary.{common_steps, ℕ, zero, suc, None, arith, ◌≡◌, ◌+◌, ◌<◌, List, [], ◌∷◌, ◌++◌, Some, length, take}
use Vocabulary.{ap, sym, ◌∙◌, append-nil, length-append, flat_map, flat_map-append, none-some, columns, Count}
use Rattle.crx_filter.specs.meaning.Standard.{count_text, version_in}
use Rattle.std.proofs.{Common.slice_get, Math.Seq.take-length, lemmas.List.{take_more, length-take}}
use Rattle.std.proofs.lemmas.{List.{take-append-le, length-replicate}, Option.slice_get_within}
use Rattle.std.{proofs.lemmas.Option.unwrap_or-slice_get, specs.Prelude.unwrap_or}

-- one system more
pub counts-more : (counts : List Count) (index : ℕ) (c : Count) → slice_get counts index ≡ Some c
    → flat_map count_text (take (index + 1) counts) ≡ flat_map count_text (take index counts) ++ count_text c
counts-more counts index c e =
    let one : take (index + 1) counts ≡ take index counts ++ c ∷ [] = take_more counts index c
    (slice_get_within counts index c e) ∙ ap (λ x. take index counts ++ x ∷ []) (sym (unwrap_or-slice_get
    counts index c) ∙ ap (λ o. unwrap_or o c) e) in
    cc (one, flat_map-append count_text (take index counts) (c ∷ []), append-nil (count_text c))

pub version-same : (line : List ℕ) → version_in (columns line 1 9) ≡ version_in line
version-same line =
    grind (arith, common_steps, length-append, length-replicate, length-take, take-append-le, take-length)

pub one-there : {X : Type 0} (xs : List X) (index : ℕ) → slice_get xs index ≡ None → index < length xs → ⊥
one-there [] index e within = omega (arith, within)
one-there (x ∷ xs) zero e within = none-some x (sym e)
one-there (x ∷ xs) (suc index) e within = one-there xs index e (omega (arith, within))
