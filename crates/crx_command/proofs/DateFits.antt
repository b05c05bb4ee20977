-- The date of a moment fits its columns.
use Rattle.std.proofs.Common.{rules}
use Rattle.std.proofs.lemmas.Grind.{common_steps}
use Rattle.std.proofs.Common.{arith, ◌≡◌, ◌∙◌, ◌≤◌, ◌<◌, ◌+◌, ◌&&◌, ap, refl, ℕ, zero, suc}
use Rattle.std.proofs.Common.{true, Bool, List, [], ◌∷◌, ◌++◌, length, length-append, nat_le}
use Rattle.std.proofs.{Common.{le-leb, Option, None, Some}, lemmas.Bool.and_parts}
use Rattle.std.{proofs.lemmas.List.Folds.list_all-append, specs.List.{list_all, slice_index_or}}
use Rattle.std.specs.Prelude.{if◌then◌else◌}
use Rattle.jiff.specs.{Types.DateTime, declared.timestamp.Timestamp.Timestamp}
use Rattle.crx_base.specs.meaning.{Choices.is_date, Lines.is_printable}
use Rattle.crx_command.specs.meaning.Dates.{IsDateOf, date_text_of, two_digits}

-- a text of at most `most` bytes, each printable
record Fits (most : ℕ) (text : List ℕ) : Type 0 where
  short : length text ≤ most
  printable : list_all is_printable text ≡ true

joined : (m n : ℕ) (xs ys : List ℕ) → Fits m xs → Fits n ys → Fits (m + n) (xs ++ ys)
joined = grind (arith, common_steps, length-append, list_all-append)

digits : (n : ℕ) → n < 100 → Fits 2 (two_digits n)
digits = grind (arith, common_steps)

abbrev fits_three : List ℕ → Bool
fits_three name = nat_le (length name) 3 && list_all is_printable name

three : (name : List ℕ) → fits_three name ≡ true → Fits 3 name
three name h = grind arith

named : (names : List (List ℕ)) (k : ℕ)
    → list_all fits_three names ≡ true → fits_three (slice_index_or names k []) ≡ true
named [] k h = refl
named (name ∷ names) zero h = grind arith
named (name ∷ names) (suc k) h = named names k (and_parts _ _ h).1

-- a month has at most 31 days
month_ends : (is_second is_leap is_shorter : Bool)
    → (if is_second then (if is_leap then 29 else 28) else (if is_shorter then 30 else 31)) ≤ 31
month_ends = grind arith

pub date_fits : (at : DateTime) → is_date (date_text_of at) ≡ true
date_fits = search (rules, three, named, month_ends, digits, joined, nat_le, le-leb)

-- the date of a run that has none among its arguments
pub default_fits : (moment : Option Timestamp) (text : List ℕ) → IsDateOf moment text → is_date text ≡ true
default_fits None text none = ap is_date none
default_fits (Some at) text h = ap is_date h.2 ∙ date_fits h.0
