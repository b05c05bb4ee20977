-- Each identifier has an index of its own.
use Rattle.std.proofs.Common.{◌≡◌, ◌≤◌, ◌<◌, ◌*◌, ◌⊎◌, ℕ, Bool, true, false, List, [], ◌∷◌}
use Rattle.std.proofs.Common.{suc, length, get_or, set, replicate, refl, sym, arith, ◌∙◌, ◌||◌}
use Rattle.std.proofs.lemmas.{Bool.{and_parts, false≢true}, Grind.common_steps, Slice.Eq.bytes_eq-Decides}
use Rattle.std.proofs.lemmas.List.{get_or-set_same, get_or-set_other}
use Rattle.std.specs.{Str.bytes_eq}
use Rattle.crx_header.specs.Identifiers.{has_identifier, index_of}
use Rattle.crx_header.specs.declared.identifiers.TheConstants.{LETTERS, TENS, UNITS}
use Rattle.crx_header.specs.meaning.{Satellites.is_identifier}
use Rattle.crx_text.specs.meaning.Columns.{character_at}

-- the parts of an identifier
pub record IsSpelt (name : List ℕ) : Type 0 where
  pub letter : (67 ≤ character_at name 1) × (character_at name 1 ≤ 83)
  pub tens : (character_at name 2 ≡ 32) ⊎ ((48 ≤ character_at name 2) × (character_at name 2 ≤ 57))
  pub units : (48 ≤ character_at name 3) × (character_at name 3 ≤ 57)
  pub whole : name ≡ character_at name 1 ∷ character_at name 2 ∷ character_at name 3 ∷ []

pub is-spelt : (name : List ℕ) → is_identifier name ≡ true → IsSpelt name
is-spelt (a ∷ b ∷ c ∷ []) e = grind (arith, common_steps, and_parts)
is-spelt name e = grind (arith, common_steps)

pub index-apart : (one other : List ℕ) → is_identifier one ≡ true → is_identifier other ≡ true
    → index_of one ≡ index_of other → one ≡ other
index-apart one other e f same = grind (arith, common_steps, is-spelt)

pub index-within : (name : List ℕ) → is_identifier name ≡ true → index_of name < LETTERS * TENS * UNITS
index-within name e = grind (arith, common_steps)

-- ---- the identifiers in a table

pub none-there : (count k : ℕ) → get_or (replicate {A = Bool} count false) k false ≡ false
none-there (suc count) (suc k) = none-there count k
none-there count k = grind (arith, common_steps)

pub put-there : (table : List Bool) (name other : List ℕ) → length table ≡ LETTERS * TENS * UNITS
    → is_identifier name ≡ true → is_identifier other ≡ true
    → has_identifier (set table (index_of name) true) other
    ≡ (bytes_eq name other || has_identifier table other)
put-there table name other long e f = decided (bytes_eq name other) refl
  where
    decided : (b : Bool) → bytes_eq name other ≡ b → has_identifier (set table (index_of name) true) other
        ≡ (b || has_identifier table other)
    decided true is =
        rw (← (bytes_eq-Decides name other).0 is) (get_or-set_same table (index_of name) true false
        (rw (long) (index-within name e)))
    decided false is = get_or-set_other table (index_of name) (index_of other) true false
        (λ same. false≢true
        (sym is ∙ (bytes_eq-Decides name other).1 (index-apart name other e f (sym same))))
