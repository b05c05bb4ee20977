-- Counts of types, letter by letter: a map from letters holds the counts that the lines declare.
use Rattle.std.proofs.Common.{rules}
use Rattle.std.proofs.lemmas.Grind.{common_steps}
use Rattle.std.proofs.Common.{◌≡◌, ℕ, ◌<◌, ◌≤◌, suc, length, true, false, cond, eqb, List, [], ◌∷◌, ◌++◌}
use Rattle.std.proofs.Common.{Some, None, is_none, IfSome, OnSome, refl, ap, sym, map, get_or}
use Rattle.std.proofs.Common.{set, unwrap_or, ◌≢◌, ◌∙◌, arith}
use Rattle.std.proofs.lemmas.{Bool.{false≢true}, Cmp.nat_eq_equiv}
use Rattle.std.proofs.lemmas.List.{length-map, append-nil}
use Rattle.std.proofs.lemmas.List.Elements.{filter_map-append, All-cons, All-head, All-tail}
use Rattle.std.proofs.lemmas.Map.Made.{length-le_from_is_member}
use Rattle.std.{proofs.lemmas.Option.option_and_then_some, specs.List.{All, AllByRecursion, IsDistinct}}
use Rattle.std.specs.{List.{cons_option, list_any}, Map.{lookup, set_value}}
use Rattle.crx_header.specs.ObservationTypes.{AreCounts, AreByLetter, IsCount, letters_differ, with_count}
use Rattle.crx_header.specs.{ObservationTypes.{after_count, with_line}, declared.types.TheConstants.LETTERS}
use Rattle.crx_header.specs.meaning.{Label.number_in, ObservationTypes.{Count, IsAllowedCount}}
use Rattle.crx_header.specs.meaning.ObservationTypes.{system_letters, is_system, count_of, without}
use Rattle.crx_header.specs.meaning.ObservationTypes.{last_count, last_counts, counts_in, count_of_types_line}
use Rattle.crx_header.specs.meaning.ObservationTypes.{types_of, count_in, count_if_allowed}
use Rattle.crx_text.specs.meaning.Columns.{character_at, columns}

same_test : (a b : ℕ) → eqb a b ≡ eqb b a
same_test a b = grind arith

pub lookup_is_count : (es : List Count) (letter : ℕ) → lookup (eqb letter) es ≡ count_of es letter
lookup_is_count [] letter = refl
lookup_is_count (e ∷ es) letter = rw (same_test letter e.0, lookup_is_count es letter) refl

last_count-push : (letter count : ℕ) (cs : List Count) (c : Count)
    → last_count letter count (cs ++ c ∷ []) ≡ cond (eqb c.0 letter) c.1 (last_count letter count cs)
last_count-push letter count [] c = refl
last_count-push letter count (d ∷ ds) c =
    grind (arith, common_steps, last_count-push letter d.1 ds c, last_count-push letter count ds c)

-- the other counts stay the same when a letter's own count changes
without-with_same : (letter count : ℕ) (es : List Count)
    → without letter (with_count es letter count) ≡ without letter es
without-with_same letter count [] = grind arith
without-with_same letter count (e ∷ es) = grind (arith, common_steps, without-with_same letter count es)

without-with_other : (a letter count : ℕ) (es : List Count)
    → eqb letter a ≡ false → without a (with_count es letter count) ≡ with_count (without a es) letter count
without-with_other a letter count [] n = rw n refl
without-with_other a letter count (e ∷ es) n =
    grind (arith, common_steps, without-with_other a letter count es n)

last_counts-push : (cs : List Count) (c : Count)
    → last_counts (cs ++ c ∷ []) ≡ with_count (last_counts cs) c.0 c.1
last_counts-push [] c = refl
last_counts-push (d ∷ ds) c =
    grind (arith, common_steps, last_count-push, without-with_same, without-with_other, last_counts-push ds c)

-- the types that the lines declare, after one more line
pub types_of-push : (lines : List (List ℕ)) (line : List ℕ)
    → types_of (lines ++ line ∷ []) ≡ with_line (types_of lines) line
types_of-push lines line =
    ap last_counts (filter_map-append count_of_types_line lines (line ∷ []))
    ∙ (elim (count_of_types_line line) as (λ o. last_counts (counts_in lines ++ cons_option o [])
    ≡ after_count (types_of lines) o)
    [ None ↦ ap last_counts (append-nil (counts_in lines)) | Some c ↦ last_counts-push (counts_in lines) c ])

allowed-with_count : (es : List Count) (letter count : ℕ)
    → All IsCount es → is_system letter ≡ true → IsAllowedCount count
    → All IsCount (with_count es letter count)
allowed-with_count [] letter count h s a = All-cons IsCount (letter, count) [] (s, a) h
allowed-with_count (e ∷ es) letter count h s a =
    let first : IsCount e = All-head IsCount e es h in
    let rest : All IsCount es = All-tail IsCount e es h in
    elim (eqb letter e.0) as (λ b. All IsCount (cond b ((e.0, count) ∷ es) (e ∷ with_count es letter
    count))) [
      | true ↦ All-cons IsCount (e.0, count) es (first.0, a) rest
      | false ↦ All-cons IsCount e (with_count es letter count) first
          (allowed-with_count es letter count rest s a)
    ]

-- another letter's count leaves a letter absent
absent-with_count : (es : List Count) (a letter count : ℕ)
    → eqb letter a ≡ false → is_none (count_of es a) ≡ true
    → is_none (count_of (with_count es letter count) a) ≡ true
absent-with_count [] a letter count n h = rw n refl
absent-with_count (e ∷ es) a letter count n h =
    grind (arith, common_steps, absent-with_count es a letter count n)

apart-with_count : (es : List Count) (letter count : ℕ)
    → letters_differ es ≡ true → letters_differ (with_count es letter count) ≡ true
apart-with_count [] letter count h = refl
apart-with_count (e ∷ es) letter count h =
    grind (arith, common_steps, absent-with_count, apart-with_count es letter count)

pub AreCounts-with_count : (es : List Count) (letter count : ℕ)
    → AreCounts es → is_system letter ≡ true → IsAllowedCount count → AreCounts (with_count es letter count)
AreCounts-with_count es letter count h s a = search (rules, allowed-with_count, apart-with_count)

-- a letter that has a count is a system's, and the count is allowed
sound_at : (es : List Count) (letter : ℕ) → All IsCount es
    → IfSome (count_of es letter) (λ n. (is_system letter ≡ true) × IsAllowedCount n)
sound_at [] letter h = grind arith
sound_at (e ∷ es) letter h =
    grind (arith, common_steps, All-head, sound_at es letter (All-tail IsCount e es h))

pub allowed_of : (es : List Count) (letter : ℕ) → AreCounts es → IfSome (count_of es letter) IsAllowedCount
allowed_of es letter h = grind (arith, common_steps, sound_at es letter h.allowed)

pub system_of : (es : List Count) (letter : ℕ) → AreCounts es
    → OnSome (count_of es letter) (is_system letter ≡ true)
system_of es letter h = grind (arith, common_steps, sound_at es letter h.allowed)

allowed_if : (l n letter count : ℕ)
    → count_if_allowed l n ≡ Some (letter, count) → (is_system letter ≡ true) × IsAllowedCount count
allowed_if l n letter count g = grind arith

-- the count that a types line declares is allowed
pub count_in_allowed : (line : List ℕ) (letter count : ℕ)
    → count_in line ≡ Some (letter, count) → (is_system letter ≡ true) × IsAllowedCount count
count_in_allowed line letter count h =
    option_and_then_some {P = (is_system letter ≡ true) × IsAllowedCount count}
    (count_if_allowed (character_at line 1)) (number_in (columns line 4 3)) (letter, count) h
    (λ n e g. allowed_if (character_at line 1) n letter count g)

-- ---- counts by letter

-- another letter's count stays, and a letter's new count is its own
count_with : (es : List Count) (letter count a : ℕ) → unwrap_or (count_of (with_count es letter count) a) 0
    ≡ cond (eqb letter a) count (unwrap_or (count_of es a) 0)
count_with [] letter count a = grind arith
count_with (e ∷ es) letter count a = grind (arith, common_steps, count_with es letter count a)

pub AreByLetter-with_count : (table : List ℕ) (es : List Count) (letter count : ℕ) → AreByLetter table es
    → letter < length table → AreByLetter (set table letter count) (with_count es letter count)
AreByLetter-with_count table es letter count h within = grind (arith, common_steps, count_with)

-- a letter has the count at its place, and none if it is 0
pub absent_by_letter : (table : List ℕ) (es : List Count) (letter : ℕ) → AreCounts es → AreByLetter table es
    → letter < LETTERS → get_or table letter 0 ≡ 0 → count_of es letter ≡ None
absent_by_letter table es letter sound h few none =
    grind (arith, common_steps, sound_at es letter sound.allowed)

pub present_by_letter : (table : List ℕ) (es : List Count) (letter : ℕ) → AreCounts es → AreByLetter table es
    → letter < LETTERS → get_or table letter 0 ≢ 0 → (count_of es letter ≡ Some (get_or table letter 0))
    × (is_system letter ≡ true) × IsAllowedCount (get_or table letter 0)
present_by_letter table es letter sound h few some =
    grind (arith, common_steps, sound_at es letter sound.allowed)

-- ---- few systems

abbrev letters_of : List Count → List ℕ
letters_of cs = map (λ (c : Count). c.0) cs

other_letters : (letter : ℕ) (cs : List Count) → is_none (count_of cs letter) ≡ true
    → AllByRecursion (λ other. eqb letter other ≡ false) (letters_of cs)
other_letters letter [] h = tt
other_letters letter (c ∷ cs) h = grind (arith, common_steps, other_letters letter cs)

different_letters : (cs : List Count) → letters_differ cs ≡ true → IsDistinct eqb (letters_of cs)
unfolding IsDistinct
different_letters [] h = tt
different_letters (c ∷ cs) h = grind (arith, common_steps, other_letters, different_letters cs)

are_systems : (cs : List Count) (letter : ℕ) → All IsCount cs → list_any (eqb letter) (letters_of cs) ≡ true
    → list_any (eqb letter) system_letters ≡ true
are_systems [] letter h e = absurd (false≢true e)
are_systems (c ∷ cs) letter h e =
    grind (arith, common_steps, All-head, are_systems cs letter (All-tail IsCount c cs h))

pub systems_few : (counts : List Count) → AreCounts counts → length counts ≤ length system_letters
systems_few counts h =
    let few = length-le_from_is_member nat_eq_equiv (letters_of counts) system_letters
    (different_letters counts h.apart) (λ letter e. are_systems counts letter h.allowed e) in
    omega (arith, few, length-map counts (λ (c : Count). c.0))

-- a system without a count is one more than those that have one
one_more : (es : List Count) (letter count : ℕ)
    → count_of es letter ≡ None → length (with_count es letter count) ≡ suc (length es)
one_more [] letter count h = refl
one_more (e ∷ es) letter count h = grind (arith, common_steps, one_more es letter count)

-- as long as a system has no count, fewer have one than exist
pub systems_fewer : (counts : List Count) (letter : ℕ) → AreCounts counts → is_system letter ≡ true
    → count_of counts letter ≡ None → length counts < length system_letters
systems_fewer counts letter h system none =
    let few = systems_few (with_count counts letter 1)
    (AreCounts-with_count counts letter 1 h system (omega arith, omega arith)) in
    omega (arith, few, one_more counts letter 1 none)

-- a map's write to a value that it has
pub set_is_with : (es : List Count) (letter count : ℕ) → is_none (count_of es letter) ≡ false
    → set_value (eqb letter) es count ≡ with_count es letter count
set_is_with [] letter count h = absurd (false≢true (sym h))
set_is_with (e ∷ es) letter count h = grind (arith, common_steps, set_is_with es letter count)

-- the needs of `put` for a map of counts
pub ruleset put_counts = (lookup_is_count, set_is_with, systems_fewer)
