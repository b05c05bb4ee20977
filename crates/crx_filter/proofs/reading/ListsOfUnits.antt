-- Lists of lines and of accepted units: if `P` holds of each element of two lists, it holds of each element of both
-- together, and of each part.
use Rattle.crx_filter.proofs.Vocabulary.{ℕ, zero, suc, ◌≡◌, true, List, [], ◌∷◌, ◌++◌, drop, arith, common_steps}
use Rattle.crx_filter.proofs.Vocabulary.{map, AllByRecursion, Item, header_has_ended, InputLine}

pub all-append : {X : Type 0} (P : X → Type 0) (one two : List X)
    → AllByRecursion P one → AllByRecursion P two → AllByRecursion P (one ++ two)
all-append P [] two h k = k
all-append P (x ∷ one) two h k = (h.0, all-append P one two h.1 k)

pub all-parts : {X : Type 0} (P : X → Type 0) (one two : List X)
    → AllByRecursion P (one ++ two) → AllByRecursion P one × AllByRecursion P two
all-parts P [] two h = (tt, h)
all-parts P (x ∷ one) two h = let rest = all-parts P one two h.1 in ((h.0, rest.0), rest.1)

pub all-drop : {X : Type 0} (P : X → Type 0) (n : ℕ) (xs : List X) → AllByRecursion P xs
    → AllByRecursion P (drop n xs)
all-drop P zero xs h = h
all-drop P (suc n) [] h = tt
all-drop P (suc n) (x ∷ xs) h = all-drop P n xs h.1

pub all-from : {X : Type 0} (P Q : X → Type 0) → ((x : X) → P x → Q x) → (xs : List X) → AllByRecursion P xs
    → AllByRecursion Q xs
all-from P Q f [] h = tt
all-from P Q f (x ∷ xs) h = (f x h.0, all-from P Q f xs h.1)

pub header-append : {E : Type 0} (later before : List (Item E))
    → header_has_ended before ≡ true → header_has_ended (later ++ before) ≡ true
header-append [] before h = h
header-append (item ∷ later) before h = grind (arith, common_steps, header-append later before h)

abbrev pub contents : List InputLine → List (List ℕ)
contents lines = map (λ (line : InputLine). line.content) lines
