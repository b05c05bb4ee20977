-- Only a standard file is restored: the written lines are plain, and printed as they are.
use Rattle.std.proofs.Common.{rules}
use Rattle.crx_filter.proofs
use proofs.Vocabulary.{ℕ, ℤ, zero, suc, ◌≡◌, ◌+◌, ◌-◌, ◌<◌, ◌≤◌, true, List, [], ◌∷◌, ◌++◌, map}
use proofs.Vocabulary.{drop, replicate, Option, Some, None, refl, ap, arith, All, AllByRecursion}
use proofs.Vocabulary.{list_all, All-head, All-tail, and_from, clock_text, IsSoundRow, IsWholeEpoch}
use proofs.Vocabulary.{Count, InputLine, lines_of}
use proofs.Vocabulary.{is_printable, is_kept, Row, Epoch, printed_row, printed_epoch, printed_cells, lines_text}
use Rattle.crx_compact.proofs.wayback.{WritableEpochs.{head-kept, sound-name_kept}, LinesInFiles.trimmed-printable}
use Rattle.crx_text.proofs.{ReadBack.decimal_is_digits, Spellings.abs_within}
use Rattle.crx_text.specs.meaning.Numbers.{IsMissingOrWithin, number_text, size_text}
use Rattle.{crx_text.specs.meaning.Numbers.IsValue, std.proofs.Common.{pos, negsuc, ◌^◌, decimal}}
use Rattle.std.{proofs.Math.Nat.pow-le-pow_right, specs.{Char.is_ascii_digit, Str.all_ascii_digits}}
use proofs.{reading.ListsOfUnits.{contents}, wayback.LinesCutAgain.{IsClean, return-kept, first-cut}}
use proofs.wayback.FirstTwoLines.{all-drop, all-weaker}
use Rattle.crx_compact.proofs.Characters.{list_all-append, all-take}

abbrev pub plain : List ℕ → InputLine
plain line = record { content = line; is_plain = true }

pub lines-plain : (lines : List (List ℕ))
    → AllByRecursion IsClean lines → lines_of (lines_text lines) ≡ map plain lines
lines-plain [] h = refl
lines-plain (line ∷ lines) h = grind (arith, lines-plain lines h.1, first-cut, return-kept)

-- ---- printed lines are printable

replicate-text : (n c : ℕ) → is_printable c ≡ true → list_all is_printable (replicate n c) ≡ true
replicate-text zero c h = refl
replicate-text (suc n) c h = and_from _ _ h (replicate-text n c h)

kept-text : (text : List ℕ) → list_all is_kept text ≡ true → list_all is_printable text ≡ true
kept-text = all-weaker is_kept is_printable (λ c h. grind (arith, h))

digits-text : (text : List ℕ) → all_ascii_digits text ≡ true → list_all is_printable text ≡ true
digits-text = all-weaker is_ascii_digit is_printable (λ c h. grind (arith, h))

small-size : (width size : ℕ) → width ≤ 19 → size < 10 ^ (width - 1) → size < 2 ^ 64
small-size width size h k = search (rules, pow-le-pow_right)

size-printable : (decimals size : ℕ) → size < 2 ^ 64 → list_all is_printable (size_text decimals size) ≡ true
size-printable decimals size h =
    grind (arith, list_all-append, decimal, digits-text, decimal_is_digits, replicate-text)

number-printable : (width decimals : ℕ) (value : Option ℤ) → width ≤ 19
    → IsMissingOrWithin width value → list_all is_printable (number_text width decimals value) ≡ true
unfolding number_text
number-printable width decimals None h within = replicate-text width 32 refl
number-printable width decimals (Some (pos n)) h within =
    let small = small-size width n h (abs_within width (pos n) within) in
    search (rules, list_all-append, replicate-text, size-printable)
number-printable width decimals (Some (negsuc n)) h within =
    let size : n + 1 < 10 ^ (width - 1) = omega (arith, abs_within width _ within) in
    let small = small-size width (n + 1) h size in
    search (rules, list_all-append, replicate-text, size-printable)

cells-printable : (values : List (Option ℤ)) (flags : List ℕ) → All IsValue values
    → list_all is_printable flags ≡ true → list_all is_printable (printed_cells values flags) ≡ true
cells-printable [] flags h k = refl
cells-printable (value ∷ values) flags h k =
    let others = cells-printable values (drop 2 flags) in
    search (rules, arith, list_all-append, all-take, number-printable, others, All-head, All-tail, all-drop)

row-printable : (row : Row) → IsSoundRow row → list_all is_printable (printed_row row) ≡ true
row-printable row sound =
    search (cells-printable, kept-text, sound-name_kept, trimmed-printable, list_all-append)

-- if `P` holds of each printed row, it holds of all
pub rows-all : (P : List ℕ → Type 0) → ((row : Row) → IsSoundRow row → P (printed_row row)) →
    (rows : List Row)
    → All IsSoundRow rows → AllByRecursion P (map printed_row rows)
rows-all P f [] h = tt
rows-all P f (row ∷ rows) h =
    (f row (All-head IsSoundRow row rows h), rows-all P f rows (All-tail IsSoundRow row rows h))

pub epoch-printable : (types : List Count) (epoch : Epoch) → IsWholeEpoch types epoch
    → AllByRecursion (λ (line : List ℕ). list_all is_printable line ≡ true) (printed_epoch epoch)
epoch-printable types epoch h =
    let head = kept-text epoch.head (head-kept types epoch h) in (
      trimmed-printable (epoch.head ++ clock_text epoch.clock)
          (search (arith, number-printable, list_all-append)),
      rows-all (λ line. list_all is_printable line ≡ true) row-printable epoch.rows h.sound.rows_sound,
    )

pub all-plain : (lines : List (List ℕ)) → list_all (λ (line : InputLine). line.is_plain)
    (map plain lines) ≡ true
all-plain [] = refl
all-plain (line ∷ lines) = all-plain lines

pub contents-plain : (lines : List (List ℕ)) → contents (map plain lines) ≡ lines
contents-plain [] = refl
contents-plain (line ∷ lines) = ap (λ ls. line ∷ ls) (contents-plain lines)
