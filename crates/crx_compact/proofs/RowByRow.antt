-- Rows one by one: a property of each, and the list that those up to an index make.
use Rattle.crx_compact.proofs.Vocabulary.{◌≡◌, ◌<◌, ◌+◌, ◌++◌, ◌∷◌, [], ℕ, List, Option, Some, All}
use Rattle.crx_compact.proofs.Vocabulary.{length, same_Some}
use Rattle.crx_compact.proofs.Vocabulary.{take, map, slice_get, sym, ◌∙◌, subst, arith}
use Rattle.crx_compact.proofs.Vocabulary.{slice_get_within}
use Rattle.crx_compact.proofs.{Vocabulary.{printed_row, shown_row, RowTail}, OneByOne.taken_more}
use Rattle.crx_compact.specs.Entries.{Entry}
use Rattle.std.proofs.Common.{Bool, IsTrue, ◌≤◌, ◌↔◌}
use Rattle.std.proofs.lemmas.Option.{get_or_from_slice_get, slice_get_cases}
use Rattle.std.proofs.lemmas.List.{Elements.All-push}
use Rattle.std.proofs.lemmas.Grind.{common_steps}

-- ---- a property of each

pub all-next : {X : Type 0} (P : X → Type 0) (xs : List X) (k : ℕ) (x : X)
    → All P (take k xs) → slice_get xs k ≡ Some x → P x → All P (take (k + 1) xs)
all-next P xs k x so_far here p =
    subst (All P) (sym (taken_more xs k x here)) (All-push P (take k xs) x so_far p)

pub all-at : {X : Type 0} (P : X → Type 0) (xs : List X) (k : ℕ) (x : X) → All P xs
    → slice_get xs k ≡ Some x → P x
all-at P xs k x h here = subst P (get_or_from_slice_get xs k x x here) (h k x (slice_get_within xs k x here))

pub room-known : {o : Option Entry} {entry : Entry} (count : ℕ) (has : Bool) → o ≡ Some entry
    → IsTrue has ↔ (count ≤ entry.1.room) → (e : Entry) → o ≡ Some e → IsTrue has ↔ (count ≤ e.1.room)
room-known count has is known e also =
    subst (λ (e : Entry). IsTrue has ↔ (count ≤ e.1.room)) (same_Some _ e (sym is ∙ also)) known

-- ---- the item at an index

pub record IsThere {X : Type 0} (xs : List X) (k : ℕ) : Type 0 where
  pub item : X
  pub there : slice_get xs k ≡ Some item

pub is-there : {X : Type 0} (xs : List X) (k : ℕ) → k < length xs → IsThere xs k
is-there xs k within = grind (arith, slice_get_cases xs k)

-- ---- printed rows

pub printed-next : (before lines more : List (List ℕ)) (rows : List RowTail) (k : ℕ) (row : RowTail)
    → lines ≡ before ++ map printed_row (map shown_row (take k rows)) → slice_get rows k ≡ Some row
    → more ≡ lines ++ printed_row (shown_row row) ∷ []
    → more ≡ before ++ map printed_row (map shown_row (take (k + 1) rows))
printed-next before lines more rows k row made here last =
    grind (arith, common_steps, taken_more rows k row here)
