-- Texts and identifiers by their characters.
use Rattle.crx_compact.proofs.Vocabulary.{◌≡◌, suc, ◌≤◌, ◌∷◌, true, ◌++◌, Some, None, sym, refl}
use Rattle.crx_compact.proofs.Vocabulary.{List, take, Bool, Option, length, arith, at, is_kept, ℕ}
use Rattle.crx_compact.proofs.Vocabulary.{without_end_blanks, is_identifier, get_or_past, common_steps}
use Rattle.crx_compact.proofs.Vocabulary.{[], if◌then◌else◌, list_all, and_parts, by_position, bytes_eq}
use Rattle.std.proofs.lemmas.{Slice.Eq.bytes_eq-Decides, List.length-take}

pub at-take_past : (n : ℕ) (text : List ℕ) (p : ℕ) → n ≤ p → at (take n text) p ≡ 32
at-take_past n text p h = get_or_past (take n text) p 32 (omega (arith, h, length-take n text))

pub list_all-at : (p : ℕ → Bool)
    → p 32 ≡ true → (text : List ℕ) → list_all p text ≡ true → (k : ℕ) → p (at text k) ≡ true
list_all-at p e (c ∷ cs) h (suc k) = list_all-at p e cs (and_parts (p c) (list_all p cs) h).1 k
list_all-at p e x h k = grind (arith, common_steps, and_parts, list_all)

pub list_all-append : (p : ℕ → Bool) (xs ys : List ℕ)
    → list_all p xs ≡ true → list_all p ys ≡ true → list_all p (xs ++ ys) ≡ true
list_all-append p [] ys h k = k
list_all-append p (x ∷ xs) ys h k = grind (arith, and_parts, list_all-append p xs ys)

pub all-take : (p : ℕ → Bool) (n : ℕ) (xs : List ℕ) → list_all p xs ≡ true → list_all p (take n xs) ≡ true
all-take p (suc n) (x ∷ xs) h = grind (arith, all-take p n xs (and_parts (p x) (list_all p xs) h).1)
all-take p n xs h = refl

pub if_some : (b : Bool) (x : Option ℕ) (n : ℕ) → (if b then x else None) ≡ Some n → b ≡ true
if_some b x n h = grind arith

all_blank : (text : List ℕ) → ((p : ℕ) → at text p ≡ 32) → without_end_blanks text ≡ []
all_blank [] h = refl
all_blank (c ∷ cs) h = cc (all_blank cs (λ p. h (suc p)), h 0)

-- texts with the same characters are the same, except the blanks at their ends
pub same_characters : (xs ys : List ℕ) → ((p : ℕ) → at xs p ≡ at ys p)
    → without_end_blanks xs ≡ without_end_blanks ys
same_characters [] ys h = sym (all_blank ys (λ p. sym (h p)))
same_characters (x ∷ xs) [] h = all_blank (x ∷ xs) h
same_characters (x ∷ xs) (y ∷ ys) h = cc (h 0, same_characters xs ys (λ p. h (suc p)))

pub at-by_position : (f : ℕ → ℕ → ℕ)
    → f 32 32 ≡ 32 → (as' bs : List ℕ) (p : ℕ) → at (by_position f as' bs) p ≡ f (at as' p) (at bs p)
at-by_position f e (a ∷ as') [] (suc p) = at-by_position f e as' [] p
at-by_position f e [] (b ∷ bs) (suc p) = at-by_position f e [] bs p
at-by_position f e (a ∷ as') (b ∷ bs) (suc p) = at-by_position f e as' bs p
at-by_position f e as' bs p = cc e

pub bytes_eq-same : (a : List ℕ) → bytes_eq a a ≡ true
bytes_eq-same a = (bytes_eq-Decides a a).1 refl

pub bytes_eq-is : (a b : List ℕ) → bytes_eq a b ≡ true → a ≡ b
bytes_eq-is a b h = (bytes_eq-Decides a b).0 h

pub length-is : (name : List ℕ) → is_identifier name ≡ true → length name ≡ 3
length-is name h = grind arith

pub name-kept : (name : List ℕ) → length name ≡ 3 → is_identifier name ≡ true → list_all is_kept name ≡ true
name-kept (a ∷ b ∷ c ∷ []) e h = grind (arith, common_steps, and_parts)
name-kept name e h = absurd (omega (arith, e))
