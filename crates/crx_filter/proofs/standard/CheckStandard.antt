-- A file is called standard if and only if it is, and if and only if it is restored.
use Rattle.crx_filter.proofs.Vocabulary.{ℕ, ◌≡◌, ◌+◌, Bool, true, List, [], ◌∷◌, length, Option, None, refl}
use Rattle.crx_filter.proofs.Vocabulary.{arith, list_all, and_parts, InputLine, Choices}
use Rattle.crx_filter.proofs.Vocabulary.{first_not_standard, common_steps}
use Rattle.crx_filter.proofs.{reading.ListsOfUnits.contents, standard.CheckEnded.whole-many}
use Rattle.crx_filter.proofs.wayback.ReturnsLost.{standard-where_same}
use Rattle.crx_filter.{proofs.anywriter.RestoredFiles.standard-comes_back, specs.CheckingLaws.IsNamedWhereNot}
use Rattle.crx_filter.specs.{CheckingLaws.IsStandardExactlyWhereSame, meaning.Standard.report_status}
use Rattle.crx_compact.proofs.Characters.{bytes_eq-same, bytes_eq-is}

abbrev are_plain : List InputLine → Bool
are_plain lines = list_all (λ (line : InputLine). line.is_plain) lines

-- if no line is named, each is plain and is its printed form
none-named : (number : ℕ) (lines : List InputLine) (texts : List (List ℕ)) → length texts ≡ length lines
    → first_not_standard number lines texts ≡ None → (are_plain lines ≡ true) × (contents lines ≡ texts)
none-named number [] [] many e = (refl, refl)
none-named number [] (text ∷ texts) many e = absurd (cc)
none-named number (line ∷ lines) [] many e = absurd (cc)
none-named number (line ∷ lines) (text ∷ texts) many e =
    grind (arith, common_steps, none-named (number + 1) lines texts, bytes_eq-is line.content text)

-- and the converse
all-standard : (number : ℕ) (lines : List InputLine)
    → are_plain lines ≡ true → first_not_standard number lines (contents lines) ≡ None
all-standard number [] e = refl
all-standard number (line ∷ lines) e =
    grind (arith, common_steps, all-standard (number + 1) lines, and_parts, bytes_eq-same)

pub named-where_not : (input : List ℕ) → IsNamedWhereNot input
named-where_not input good = grind (arith, none-named, whole-many, all-standard)

-- ---- the status

pub none-where_0 : (named : Option ℕ) → report_status named ≡ 0 → named ≡ None
none-where_0 named e = grind (arith, common_steps)

pub standard-exactly_where_same : (input : List ℕ) (compacting expanding : Choices)
    → IsStandardExactlyWhereSame input compacting expanding
standard-exactly_where_same input compacting expanding dated good =
    grind (arith, named-where_not, standard-comes_back, none-where_0, standard-where_same)
