-- Texts by their characters: a patch by a difference returns the text, marks over one another are patches in turn, and texts and marks can
-- be cut at a width.
use Rattle.crx_compact.proofs.Vocabulary.{◌≡◌, is_blank, character_of, each_place, latest_mark, overlaid}
use Rattle.crx_compact.proofs.Vocabulary.{refl, ◌≢◌, List, length, mark_of, patched, shown, longest, columns}
use Rattle.crx_compact.proofs.Vocabulary.{ℕ, ◌≤◌, [], ◌∷◌, All, ◌∙◌, ap, at, ◌<◌, map, take}
use Rattle.crx_compact.proofs.Vocabulary.{if◌then◌else◌, arith, text_difference, index-each_place, get_or_past}
use Rattle.crx_compact.proofs.Vocabulary.{without_end_blanks, at-without_end_blanks, cases_lt}
use Rattle.crx_compact.proofs.{Vocabulary.{rules, patched_in_turn}, SoundTexts.{same-columns}}
use Rattle.crx_compact.proofs.Characters.{same_characters, at-by_position, at-take_past}
use Rattle.crx_compact.proofs.{PlaceByPlace.at-take, wayback.Runs.IsUnmarked}

-- ---- patch after difference

character-mark : (a b : ℕ) → b ≢ 38 → character_of a (mark_of a b) ≡ b
character-mark a b h = grind arith

pub patched-again : (old new : List ℕ) → IsUnmarked new → patched old (text_difference old new) ≡
    without_end_blanks new
patched-again old new h = search (same_characters, at-by_position, at-without_end_blanks, character-mark)

pub at_past : (text : List ℕ) (p : ℕ) → length text ≤ p → at text p ≡ 32
at_past text p h = get_or_past text p 32 h

pub patched-difference : (old new : List ℕ)
    → All (λ c. c ≢ 38) new → patched old (text_difference old new) ≡ without_end_blanks new
patched-difference old new h = patched-again old new (λ p. grind (arith, cases_lt, at_past, h p 32))

-- ---- marks over one another

past_longest : (marks : List (List ℕ)) (p : ℕ) → longest marks ≤ p → latest_mark marks p ≡ 32
past_longest [] p h = refl
past_longest (w ∷ ws) p h = cc (at_past w p (omega (arith, h)), past_longest ws p (omega (arith, h)))

pub at-longest : (marks : List (List ℕ)) (p : ℕ)
    → at (each_place (longest marks) (λ q. shown (latest_mark marks q))) p ≡ shown (latest_mark marks p)
at-longest marks p = index-each_place _ p _ 32 (λ h. ap shown (past_longest marks p h))

pub at-overlaid : (marks : List (List ℕ)) (p : ℕ) → at (overlaid marks) p ≡ shown (latest_mark marks p)
at-overlaid marks p = at-without_end_blanks _ p ∙ at-longest marks p

character-shown : (old c : ℕ) → character_of (shown old) c ≡ shown (if is_blank c then old else c)
character-shown old c = grind arith

pub overlaid-patched : (w : List ℕ) (ws : List (List ℕ)) → overlaid (w ∷ ws) ≡ patched (overlaid ws) w
overlaid-patched w ws =
    search (rules, same_characters, at-longest, at-by_position, at-overlaid, character-shown)

pub overlaid-in_turn : (marks : List (List ℕ)) → overlaid marks ≡ patched_in_turn marks
overlaid-in_turn [] = refl
overlaid-in_turn (w ∷ ws) = overlaid-patched w ws ∙ ap (λ u. patched u w) (overlaid-in_turn ws)

-- ---- marks that are cut

latest-take : (n : ℕ) (marks : List (List ℕ)) (p : ℕ) → p < n
    → latest_mark (map (take n) marks) p ≡ latest_mark marks p
latest-take n [] p h = refl
latest-take n (w ∷ ws) p h = cc (at-take n w p h, latest-take n ws p h)

latest-take_past : (n : ℕ) (marks : List (List ℕ)) (p : ℕ) → n ≤ p → latest_mark (map (take n) marks) p ≡ 32
latest-take_past n [] p h = refl
latest-take_past n (w ∷ ws) p h = cc (at-take_past n w p h, latest-take_past n ws p h)

-- marks that are cut make the text that is cut
pub overlaid-take : (n : ℕ) (marks : List (List ℕ))
    → overlaid (map (take n) marks) ≡ without_end_blanks (take n (overlaid marks))
overlaid-take n marks =
    grind (
      arith,
      same_characters,
      at-longest,
      latest-take,
      at-overlaid,
      at-take,
      latest-take_past,
      at-take_past,
    )

-- ---- columns

-- the first columns of marks don't depend on later ones
pub columns-cut : (n : ℕ) (marks : List (List ℕ))
    → columns (overlaid (map (take n) marks)) 1 n ≡ columns (overlaid marks) 1 n
columns-cut n marks = search (rules, same-columns, at-overlaid, latest-take)
