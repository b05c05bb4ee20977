use Rattle.crx_compact.proofs.Vocabulary.{rules, ◌≡◌, ◌≤◌, ℕ, zero, suc, List, [], ◌∷◌, drop, length, ap, true}
use Rattle.crx_compact.proofs.Vocabulary.{nat_eq, arith, length-take-le, cut}
use Rattle.std.proofs.{Math.ListN.drop_of_length-le, lemmas.Bool.Decides.nat_tests}
use Rattle.crx_compact.proofs.block.Block.is_drained.Goals as goal

at-end : (m n : ℕ) → nat_eq m n ≡ true → n ≤ m
at-end m n same = grind (arith, nat_tests)

at-end-is : (m n : ℕ) → m ≤ n → n ≤ m → nat_eq m n ≡ true
at-end-is m n one two = grind (arith, nat_tests)

all-past : (lengths text : List ℕ) (past : ℕ) → length lengths ≤ past → cut (drop past lengths) text ≡ []
all-past lengths text past within = ap (λ ls. cut ls text) (drop_of_length-le lengths within)

none-left : (lengths text : List ℕ) (past : ℕ) → cut (drop past lengths) text ≡ [] → length lengths ≤ past
none-left [] text past none = omega arith
none-left (n ∷ ns) text zero none = absurd (omega (arith, ap length none))
none-left (n ∷ ns) text (suc past) none = let rest : length ns ≤ past = none-left ns text past none in
    omega (arith, rest)

pub returns : goal.returns
returns c =
    search (rules, length-take-le, none-left, at-end, all-past, at-end-is)
