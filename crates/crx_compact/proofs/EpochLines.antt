-- An epoch line that was read has the number of satellites that it announces, no two with one identifier.
use Rattle.crx_compact.proofs.Vocabulary.{◌≡◌, refl, ℕ, ◌+◌, ◌*◌, Bool, true, false, List, [], ◌∷◌, map, drop}
use Rattle.crx_compact.proofs.Vocabulary.{Option, Some, Result, Ok, Err, length, list_all, AllByRecursion}
use Rattle.crx_compact.proofs.Vocabulary.{bytes_eq, ap, sym, ◌∙◌, and_from, is_blank, columns, Count, is_among}
use Rattle.crx_compact.proofs.Vocabulary.{are_apart, types_of_satellite, Fault, BadEpoch, epoch_count}
use Rattle.crx_compact.proofs.Vocabulary.{◌otherwise◌next◌, is_printable, names_in, Satellite, satellites_named}
use Rattle.crx_compact.proofs.Vocabulary.{Past, satellites_of_line, length-map, apart-map, Tail, past_of_tail}
use Rattle.crx_compact.proofs.Vocabulary.{AreAnnounced, length-each_place, patched, HEAD_WIDTH, NAME_WIDTH, All}
use Rattle.crx_compact.proofs.Vocabulary.{subst, arith, All-head, All-tail, common_steps, list_any}
use Rattle.crx_compact.proofs.Vocabulary.{NamesSatellites, ◌or_else◌with◌}
use Rattle.crx_compact.proofs.Vocabulary.{satellite_before, ◌≤◌, by_position, character_of}
use Rattle.crx_compact.proofs.Vocabulary.{None, rules, at-without_end_blanks, satellites_few, unwrap_or}
use Rattle.crx_compact.proofs.Vocabulary.{SATELLITES_LIMIT}
use Rattle.crx_compact.proofs.{EpochTexts.blank-after, SoundTexts.ends-within}
use Rattle.crx_compact.specs.declared.history.TheConstants.{EPOCH_TEXT_LIMIT}
use Rattle.crx_compact.proofs.{Identifiers.{AreNew, new-before}, GoodResults.{if-err, if-true}}

-- whether no identifier occurs twice
abbrev pub differ : List (List ℕ) → Bool
differ names = are_apart (λ (n : List ℕ). n) names

abbrev pub names_of : List Satellite → List (List ℕ)
names_of satellites = map (λ (s : Satellite). s.name) satellites

pub record SatellitesFacts (types : List Count)
    (earlier names : List (List ℕ)) (satellites : List Satellite) : Type 0 where
  pub same : names_of satellites ≡ names
  pub new : AreNew (λ (n : List ℕ). n) earlier names
  pub apart : differ names ≡ true
  pub known : AllByRecursion (λ (s : Satellite). types_of_satellite types s.name ≡ Some s.count) satellites

pub record LineFacts (types : List Count) (past : Past) (line : List ℕ)
    (satellites : List Satellite) : Type 0 where
  pub count : ℕ
  pub counted : epoch_count (columns (past.text line) 1 41) ≡ Some count
  pub printable : list_all is_printable line ≡ true
  pub ended : list_all is_blank (drop (41 + 3 * count) (past.text line)) ≡ true
  pub read : satellites_named types [] (names_in (past.text line) count) ≡ Ok satellites
  pub named : SatellitesFacts types [] (names_in (past.text line) count) satellites

satellite-before : (types : List Count) (earlier : List (List ℕ)) (name : List ℕ) (found : Option ℕ)
    (others : Result (List Satellite) Fault) (given : List Satellite) → types_of_satellite types name ≡ found
    → satellite_before earlier name found others ≡ Ok given
    → (count : ℕ) × (from : List Satellite) × (types_of_satellite types name ≡ Some count)
    × (list_any (bytes_eq name) earlier ≡ false) × (others ≡ Ok from)
    × (record { name = name; count = count } ∷ from ≡ given)
satellite-before types earlier name found others given h e = grind arith

pub satellites-facts : (types : List Count) (earlier names : List (List ℕ)) (given : List Satellite)
    → satellites_named types earlier names ≡ Ok given → SatellitesFacts types earlier names given
satellites-facts types earlier [] given e = grind arith
satellites-facts types earlier (n ∷ ns) given e =
    let others = satellites_named types (n ∷ earlier) ns in
    let step = satellite-before types earlier n (types_of_satellite types n) others given refl e in
    let rest = satellites-facts types (n ∷ earlier) ns step.1 step.4 in
    grind (arith, common_steps, new-before, and_from, is_among)

-- the satellites of an epoch text by their number, or its first fault
abbrev pub satellites_counted : List Count → List ℕ → Option ℕ → Result (List Satellite) Fault
satellites_counted types text found =
    found or_else Err BadEpoch with λ count. list_all is_blank (drop (HEAD_WIDTH + NAME_WIDTH * count) text)
    otherwise Err BadEpoch next satellites_named types [] (names_in text count)

text-facts : (types : List Count) (past : Past) (line : List ℕ) (found : Option ℕ) (satellites : List
    Satellite) → epoch_count (columns (past.text line) 1 41) ≡ found → list_all is_printable line ≡ true
    → satellites_counted types (past.text line) found ≡ Ok satellites → LineFacts types past line satellites
text-facts types past line None satellites h p e = absurd (cc e)
text-facts types past line (Some n) satellites h p e = search (rules, if-true, satellites-facts, if-err)

pub line-facts_of : (types : List Count) (past : Past) (line : List ℕ) (satellites : List Satellite)
    → satellites_of_line types past line ≡ Ok satellites → LineFacts types past line satellites
line-facts_of types past line satellites e = search (rules, text-facts, if-true, if-err)

-- the same identifiers are read by other counts of types, if the satellites have these
pub named-again : (earlier types : List Count) (state names : List (List ℕ)) (given : List Satellite)
    → satellites_named earlier state names ≡ Ok given
    → All (λ (s : Satellite). types_of_satellite types s.name ≡ Some s.count) given
    → satellites_named types state names ≡ Ok given
named-again earlier types state [] given e typed = e
named-again earlier types state (n ∷ ns) given e typed =
    let others = satellites_named earlier (n ∷ state) ns in
    let P : Satellite → Type 0 = λ s. types_of_satellite types s.name ≡ Some s.count in
    let step = satellite-before earlier state n (types_of_satellite earlier n) others given refl e in
    let whole = subst (All P) (sym step.5) typed in
    let rest = named-again earlier types (n ∷ state) ns step.1 step.4 (All-tail P _ step.1 whole) in
    cc (All-head P _ step.1 whole, rest)

module _ (types : List Count) (before : Tail) (line : List ℕ) (satellites : List Satellite)
    (e : satellites_of_line types (past_of_tail before) line ≡ Ok satellites) where
  abbrev text : List ℕ
  text = patched before.text line

  facts : LineFacts types (past_of_tail before) line satellites
  facts = line-facts_of types (past_of_tail before) line satellites e

  -- it has the number of satellites that it announces
  many : length satellites ≡ facts.count
  many = sym (length-map satellites (λ (s : Satellite). s.name)) ∙ ap length facts.named.same
      ∙ length-each_place facts.count (λ k. columns text (HEAD_WIDTH + 1 + NAME_WIDTH * k) NAME_WIDTH)

  -- an epoch line that was read announces its satellites, no two with one identifier, and names them
  pub announced : AreAnnounced text satellites
  announced =
      let names = apart-map (λ (n : List ℕ). n) (λ (s : Satellite). s.name) satellites in
      record {
        counted = facts.counted ∙ ap {B = Option ℕ} Some (sym many);
        apart = cc (names, facts.named.same, facts.named.apart);
      }

  pub named-by_line : NamesSatellites text satellites
  named-by_line = record { earlier = types; named = cc (many, facts.read) }

  -- they are at most an epoch's satellites, and its text is at most as long as an epoch text
  pub named-few : length satellites ≤ SATELLITES_LIMIT
  named-few =
      let count = ap (λ (n : Option ℕ). unwrap_or n 0) facts.counted in
      omega (arith, many, satellites_few (columns text 1 41), count)

  pub text-few : length text ≤ EPOCH_TEXT_LIMIT
  text-few =
      let within = ends-within (41 + 3 * facts.count) (by_position character_of before.text line)
      (λ p. sym (at-without_end_blanks _ (41 + 3 * facts.count + p))
      ∙ blank-after (41 + 3 * facts.count) text facts.ended p) in
      omega (arith, within, many, named-few)
