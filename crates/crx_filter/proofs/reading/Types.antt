-- The counts of types in force are allowed, and no letter occurs twice among them.
use Rattle.crx_filter.proofs.Vocabulary.{ℕ, ◌≡◌, List, [], ◌∷◌, ◌++◌, Option, Some, None, refl, All-nil}
use Rattle.crx_filter.proofs.Vocabulary.{HeaderLine, EventRecord, Count, types_of, is_types_line, count_in, Item}
use Rattle.crx_filter.proofs.Vocabulary.{Accepted, Warned, records_count_types, declaring_lines, types_in_force}
use Rattle.crx_header.specs.ObservationTypes.{AreCounts, IsCount, after_count}
use Rattle.crx_header.proofs.Counts.{types_of-push, AreCounts-with_count, count_in_allowed}
use Rattle.crx_filter.proofs.CasesOfTests.{by_bool}

after-count : (counts : List Count) (line : List ℕ) (o : Option Count)
    → AreCounts counts → count_in line ≡ o → AreCounts (after_count counts o)
after-count counts line None h e = h
after-count counts line (Some c) h e = let allowed = count_in_allowed line c.0 c.1 e in
    AreCounts-with_count counts c.0 c.1 h allowed.0 allowed.1

one-more : (lines : List (List ℕ)) (line : List ℕ)
    → AreCounts (types_of lines) → AreCounts (types_of (lines ++ line ∷ []))
one-more lines line h = rw (types_of-push lines line) (by_bool (is_types_line line) (λ on. rw on
    (after-count (types_of lines) line (count_in line) h refl)) (λ off. rw off h))

pub counts-in_force : {E : Type 0} (items : List (Item E)) → AreCounts (types_in_force items)
counts-in_force [] = record { allowed = All-nil IsCount; apart = refl }
counts-in_force (Accepted (HeaderLine line) ∷ before) = search (counts-in_force before, one-more)
counts-in_force (Accepted (EventRecord line) ∷ before) = by_bool (records_count_types before)
    (λ on. rw on (one-more (declaring_lines before) line (counts-in_force before)))
    (λ off. rw off (counts-in_force before))
counts-in_force (Accepted unit ∷ before) = counts-in_force before
counts-in_force (Warned at ∷ before) = counts-in_force before
