-- The two lines that compact text begins with are read, and can be cut off again.
use Rattle.crx_filter.proofs.Vocabulary.{common_steps, ℕ, zero, suc, ◌≡◌, ◌≢◌, true, false, List, [], ◌∷◌}
use Rattle.crx_filter.proofs.Vocabulary.{Bool, drop, replicate, length, refl, arith, length-append, Ok}
use Rattle.crx_filter.proofs.Vocabulary.{list_all}
use Rattle.crx_filter.proofs.Vocabulary.{drop-append_seam, All-nil, ne_eqb, and_parts, HasNoFeed, ends_with_return}
use Rattle.crx_filter.proofs.Vocabulary.{is_printable, is_date}
use Rattle.crx_filter.proofs.Vocabulary.{version_line, program_line, crinex_version, crinex_program}
use Rattle.crx_filter.proofs.Vocabulary.{ap, ◌∙◌, None, Done, by_bool, bytes_eq, columns, ◌&&◌, ReadLine, Content}
use Rattle.crx_filter.proofs.Vocabulary.{Overlong}
use Rattle.crx_filter.proofs.Vocabulary.{WholeReading, whole_compact, whole_reading, ended_reading, reading_from}
use Rattle.crx_filter.proofs.Vocabulary.{compact_place, first_lines}
use Rattle.crx_text.specs.meaning.Columns.{without_blanks}
use Rattle.crx_header.specs.meaning.Label.{has_label}
use Rattle.crx_header.specs.declared.crinex.TheConstants.{CRINEX_VERSION, CRINEX_VERSION_LABEL}
use Rattle.crx_compact.proofs.Characters.{list_all-append, all-take}
use Rattle.{crx_base.specs.declared.limits.TheConstants.DATE_LIMIT, crx_filter.proofs.wayback.LinesCutAgain.IsClean}
use Rattle.{crx_header.specs.meaning.CompactHeader.left_justified, crx_lines.proofs.PieceLemmas.NoFeed}
use Rattle.std.{proofs.{Common.rules, lemmas.List.length-take-le}, specs.Prelude.nat_le}

-- ---- the date's columns

date-width : (date : List ℕ) → length (left_justified 20 date) ≡ 20
date-width date = length-take-le 20 _ (omega (arith, length-append date (replicate 20 32)))

pub program-read : (date : List ℕ) → crinex_program (program_line date) ≡ Ok (program_line date)
program-read date = grind (arith, common_steps, drop-append_seam, date-width)

-- ---- each is cut off again

-- a printable character differs from every other
pub printable-other : (c d : ℕ) → is_printable d ≡ false → is_printable c ≡ true → c ≢ d
printable-other c d isn_t is_so is = grind arith

pub printable-no_feed : (line : List ℕ) → list_all is_printable line ≡ true → HasNoFeed line
printable-no_feed [] h = All-nil NoFeed
printable-no_feed (c ∷ cs) h = grind (arith, printable-no_feed cs (and_parts (is_printable c) _ h).1)

pub printable-no_return : (line : List ℕ) → list_all is_printable line ≡ true → ends_with_return line ≡ false
printable-no_return [] h = refl
printable-no_return (c ∷ []) h = ne_eqb c 13 (printable-other c 13 refl (and_parts (is_printable c) true h).0)
printable-no_return (c ∷ d ∷ ds) h =
    printable-no_return (d ∷ ds) (and_parts (is_printable c) (list_all is_printable (d ∷ ds)) h).1

pub all-drop : {X : Type 0} (p : X → Bool) (n : ℕ) (xs : List X) → list_all p xs ≡ true
    → list_all p (drop n xs) ≡ true
all-drop p zero xs h = h
all-drop p (suc n) [] h = refl
all-drop p (suc n) (x ∷ xs) h = all-drop p n xs (and_parts (p x) (list_all p xs) h).1

pub all-weaker : {X : Type 0} (p q : X → Bool) → ((x : X) → p x ≡ true → q x ≡ true) → (xs : List X)
    → list_all p xs ≡ true → list_all q xs ≡ true
all-weaker p q f [] h = refl
all-weaker p q f (x ∷ xs) h =
    let both = and_parts (p x) (list_all p xs) h in rw (f x both.0) (all-weaker p q f xs both.1)

pub program-printable : (date : List ℕ) → is_date date ≡ true
    → list_all is_printable (program_line date) ≡ true
program-printable date h =
    let plain = (and_parts (nat_le (length date) DATE_LIMIT) (list_all is_printable date) h).1 in
    search (rules, list_all-append, all-take)

pub program-clean : (date : List ℕ) → is_date date ≡ true → IsClean (program_line date)
program-clean date h =
    let all = program-printable date h in
    record {
      one_line = printable-no_feed (program_line date) all;
      no_return = printable-no_return (program_line date) all;
      short =
          grind (arith, common_steps, length-append, date-width);
    }

pub version-clean : IsClean version_line
version-clean = record
    { one_line = printable-no_feed version_line refl; no_return = refl; short = omega arith }

-- ---- compact text that is read to its end without a fault

pub record FirstBack (lines : List ReadLine) : Type 0 where
  pub version : List ℕ
  pub program : List ℕ
  pub rest : List ReadLine
  pub is : lines ≡ Content version ∷ Content program ∷ rest
  pub first : crinex_version version ≡ Ok version
  pub second : crinex_program program ≡ Ok program

abbrev is_version : List ℕ → Bool
is_version line = bytes_eq (without_blanks (columns line 1 20)) CRINEX_VERSION && has_label
    CRINEX_VERSION_LABEL line

pub two-back : (skip : Bool) (lines : List ReadLine) → WholeReading.fault (whole_compact skip lines) ≡ None
    → FirstBack lines
two-back skip [] f = absurd (cc f)
two-back skip (Overlong ∷ rest) f = absurd (cc f)
two-back skip (Content version ∷ rest) f = by_bool (is_version version) (λ on. grind (arith, common_steps))
    (λ off. let never = rw (off, whole_compact) at f in absurd (cc never))

pub two-read : (version program : List ℕ) (rest : List ReadLine) → crinex_version version ≡ Ok version
    → crinex_program program ≡ Ok program
    → first_lines (Content version ∷ Content program ∷ rest) ≡ Done (version ∷ program ∷ []) 2
two-read version program rest e f = rw (e, f) refl

pub whole-read : (skip : Bool) (version program : List ℕ) (rest : List ReadLine)
    → crinex_version version ≡ Ok version
    → crinex_program program ≡ Ok program → whole_compact skip (Content version ∷ Content program ∷ rest)
    ≡ ended_reading skip (reading_from compact_place skip [] 3 rest)
whole-read skip version program rest e f = rw (two-read version program rest e f, whole_compact) refl

pub two-whole : (skip : Bool) (lines : List ReadLine) → (two : FirstBack lines)
    → whole_compact skip lines ≡ whole_reading compact_place skip 3 two.rest
two-whole skip lines two =
    ap (whole_compact skip) two.is ∙ whole-read skip two.version two.program two.rest two.first two.second
