use Rattle.std.proofs.Common.{◌≡◌, ◌==◌, ℕ, true, false, List, [], ◌∷◌, ◌++◌, ap, arith, eq-eqb}
use Rattle.std.proofs.lemmas.{Bool.ne_eqb, Grind.common_steps}
use Rattle.crx_base.specs.meaning.Lines.{without_return, ends_with_return}
use Rattle.rnxcmp_c.proofs.lines.content_of.Goals as goal

without_return-cr : (xs : List ℕ) (x : ℕ) → (x == 13) ≡ true → without_return (xs ++ x ∷ []) ≡ xs
without_return-cr (y ∷ z ∷ zs) x e = ap (λ l. y ∷ l) (without_return-cr _ x e)
without_return-cr xs x e = grind (arith, common_steps)

without_return-other : (xs : List ℕ) (x : ℕ) → (x == 13) ≡ false
    → without_return (xs ++ x ∷ []) ≡ xs ++ x ∷ []
without_return-other (y ∷ z ∷ zs) x e = ap (λ l. y ∷ l) (without_return-other (z ∷ zs) x e)
without_return-other xs x e = grind (arith, common_steps)

ends_with_return-push : (xs : List ℕ) (x : ℕ) → ends_with_return (xs ++ x ∷ []) ≡ (x == 13)
ends_with_return-push (y ∷ z ∷ zs) x = ends_with_return-push (z ∷ zs) x
ends_with_return-push xs x = grind (arith, common_steps)

pub returns-then-last-eq13 : goal.returns-then-last-eq13
returns-then-last-eq13 c = grind (arith, common_steps, without_return-cr, ends_with_return-push, eq-eqb)

pub returns-else-last-eq13 : goal.returns-else-last-eq13
returns-else-last-eq13 c = grind (arith, common_steps, without_return-other, ends_with_return-push, ne_eqb)
