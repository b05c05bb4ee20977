-- Bytes read, and bytes taken, by one call after another.
use Rattle.std.specs.Prelude.{◌≡◌, ℕ, List, [], ◌++◌}
use Rattle.std.proofs.Common.{sym}
use Rattle.std.proofs.lemmas.List.{append_assoc, append-nil}

-- the bytes that two calls read, one after the other
pub given_both : (a b c xs ys : List ℕ) → a ≡ xs ++ b → b ≡ ys ++ c → a ≡ (xs ++ ys) ++ c
given_both a b c xs ys p q = rw (p, q) (sym (append_assoc xs ys c))

pub taken_none : (a : List ℕ) → a ≡ a ++ []
taken_none a = sym (append-nil a)

-- the bytes that two calls take, one after the other
pub taken_both : (a b c xs ys : List ℕ) → b ≡ a ++ xs → c ≡ b ++ ys → c ≡ a ++ (xs ++ ys)
taken_both a b c xs ys p q = rw (q, p) (append_assoc a xs ys)
