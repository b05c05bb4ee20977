-- Epochs with their marks, the first characters of their lines, and the rows of a satellite before one.
use Rattle.crx_compact.proofs.Vocabulary.{◌≡◌, ◌≢◌, ℕ, [], ◌∷◌, map, ◌∙◌, ap, Row, at}
use Rattle.crx_compact.proofs.Vocabulary.{refl, Bool, true, List, false, rules, named}
use Rattle.crx_compact.proofs.Vocabulary.{Epoch, nat_eq, Marked, back_to, mark_of, stretch, row_named, option_map}
use Rattle.crx_compact.proofs.Vocabulary.{at-without_end_blanks, by_position, if◌then◌else◌, text_difference}
use Rattle.crx_compact.proofs.Characters.{at-by_position}

-- ---- marks

abbrev pub marked : Bool → Epoch → Marked
marked in_full epoch = record { in_full = in_full; epoch = epoch }

first_mark : (old new : List ℕ) → at (text_difference old new) 0 ≡ mark_of (at old 0) (at new 0)
first_mark old new = search (rules, at-without_end_blanks, by_position, mark_of, at-by_position)

-- whether an epoch's line begins with >, if its text does and the text before does
pub begins_full : (text : List ℕ) → at text 0 ≡ 62 → nat_eq (at (text_difference [] text) 0) 62 ≡ true
begins_full text h = ap (λ c. nat_eq c 62) (first_mark [] text ∙ ap (mark_of 32) h)

pub begins_later : (old new : List ℕ)
    → at old 0 ≡ 62 → at new 0 ≡ 62 → nat_eq (at (text_difference old new) 0) 62 ≡ false
begins_later old new h k = cc (first_mark old new, h, k)

-- ---- runs

-- the search by an identifier among things made of others, each under its own identifier
pub named-made : {X Y : Type 0} (name_x : X → List ℕ) (name_y : Y → List ℕ) (make : List ℕ → X → Y)
    → ((n : List ℕ) (x : X) → name_y (make n x) ≡ name_x x) → (name : List ℕ) (xs : List X)
    → named name_y name (map (λ x. make (name_x x) x) xs) ≡ option_map (make name) (named name_x name xs)
named-made name_x name_y make h name [] = refl
named-made name_x name_y make h name (x ∷ xs) = search (rules, named-made name_x name_y make h name xs)

-- the rows of a satellite in the epochs before one, back to the latest full one; none before a full one
abbrev pub rows_before : Bool → List ℕ → List Marked → List Row
rows_before full name older = stretch (map (λ (q : Epoch). row_named name q.rows)
    (map (λ (m : Marked). m.epoch) (if full then [] else back_to (λ (m : Marked). m.in_full) older)))

-- ---- texts

abbrev pub IsUnmarked : List ℕ → Type 0
IsUnmarked text = (p : ℕ) → at text p ≢ 38
