-- How a log grows: by no bytes, and by some bytes and then more.
use Rattle.std.proofs.Common.{◌≡◌, ◌∙◌, ℕ, List, [], ◌++◌, ap, sym, append_assoc, append-nil}

pub adds_none : (log : List ℕ) → log ≡ log ++ []
adds_none log = sym (append-nil log)

pub adds_both : {A : Type 0} (before between after first second : List A)
    → between ≡ before ++ first → after ≡ between ++ second → after ≡ before ++ (first ++ second)
adds_both before between after first second p q =
    q ∙ ap (λ log. log ++ second) p ∙ append_assoc before first second
