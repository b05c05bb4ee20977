-- A sink that keeps the first bytes and counts all; and that it takes texts one after another.
use Rattle.std.specs.Prelude.{◌≡◌, ◌⊎◌, ◌<◌, ℕ, ◌+◌, true, List, [], ◌∷◌, ◌++◌, length, min, take, vec_capacity}
use Rattle.std.proofs.Common.{zero, suc, refl, sym, ap, ◌∙◌, arith, append-nil, append_assoc, length-append}
use Rattle.std.proofs.lemmas.List.{take_all}
use Rattle.rnxcmp_c.specs.declared.devices.Counted.{Counted}

-- some bytes were taken: all were counted, and kept as far as there is room
pub record Took (before : Counted) (bytes : List ℕ) (after : Counted) : Type 0 where
  pub room : after.room ≡ before.room
  pub most : after.most ≡ before.most
  pub count : after.count ≡ before.count + length bytes
  pub kept : after.bytes.items ≡ take before.room (before.bytes.items ++ bytes)

-- `count` bytes were refused: some were refused before; the sink has taken its most; or its buffer was too small to
-- keep them
abbrev pub CannotTake : Counted → ℕ → Type 0
CannotTake s count = (s.lost ≡ true) ⊎ ((s.count ≡ s.most)
    ⊎ (vec_capacity s.bytes < min s.room (length s.bytes.items + count)))

-- cutting a text off first doesn't change its first `n` bytes
pub take-of_taken : (n : ℕ) (xs ys : List ℕ) → take n (take n xs ++ ys) ≡ take n (xs ++ ys)
take-of_taken zero xs ys = refl
take-of_taken (suc n) [] ys = refl
take-of_taken (suc n) (x ∷ xs) ys = ap (λ l. x ∷ l) (take-of_taken n xs ys)

pub took-none : (s : Counted) → Took s [] s
took-none s = record {
  room = refl;
  most = refl;
  count = omega arith;
  kept = sym (ap (take s.room) (append-nil s.bytes.items) ∙ take_all s.room s.bytes.items s.fits);
}

pub took-both : (a b c : Counted) (xs ys : List ℕ) → Took a xs b → Took b ys c → Took a (xs ++ ys) c
took-both a b c xs ys p q = record {
  room = q.room ∙ p.room;
  most = q.most ∙ p.most;
  count = omega (arith, p.count, q.count, length-append xs ys);
  kept = q.kept ∙ ap (λ n. take n (b.bytes.items ++ ys)) p.room ∙ ap (λ l. take a.room (l ++ ys)) p.kept
      ∙ take-of_taken a.room (a.bytes.items ++ xs) ys ∙ ap (take a.room) (append_assoc a.bytes.items xs ys);
}
