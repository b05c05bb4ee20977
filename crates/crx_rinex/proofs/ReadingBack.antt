-- Printed rows, epoch lines and epochs are read back.
use Rattle.std.proofs.{lemmas.Grind.common_steps, Common.{◌≡◌, ℕ, ℤ, ◌+◌, ◌-◌, ◌*◌, ◌<◌, suc, Bool, true}}
use Rattle.std.proofs.Common.{false, cond, ◌&&◌, List, [], ◌∷◌, ◌++◌, length, drop, map, Option, Some, None}
use Rattle.std.proofs.Common.{IfSome, Ok, refl, ap, sym, ◌∙◌, arith, append-nil, append_assoc, length-append}
use Rattle.std.proofs.lemmas.{Bool.{and_parts}, List.Elements.{All-head, All-tail}}
use Rattle.std.{proofs.lemmas.{Option.none-some}, specs.List.{concat, list_all}}
use Rattle.std.specs.{Option.{option_and_then, ForSome}, Prelude.{All, ◌==◌}}
use Rattle.crx_text.proofs.Characters.{at, at-without_end_blanks, at-drop, at-append, at-append_past}
use Rattle.crx_text.proofs.{Characters.{columns-are, list_all-from_at}, ReadBack.number_of-number_text}
use Rattle.crx_text.specs.meaning.{Columns.{character_at, columns, is_blank}, EachPlace.each_place}
use Rattle.crx_text.specs.meaning.Numbers.{number_of, observation_of, observation_text, clock_of, clock_text}
use Rattle.crx_text.specs.meaning.{Numbers.IsValue, PrintedCells.printed_cells, Texts.is_kept}
use Rattle.crx_base.specs.declared.limits.TheConstants.{OBSERVATION_DECIMALS, CLOCK_DECIMALS}
use Rattle.crx_base.specs.meaning.AsRead.{ReadLine, Content}
use Rattle.crx_rinex.{proofs.SoundEpochs.name_types, specs.meaning.EpochLines.{EpochHead, ObservationHead}}
use Rattle.crx_rinex.specs.meaning.EpochLines.{IsObservationHead, IsClockOffset, head_of}
use Rattle.crx_rinex.specs.meaning.EpochPlaces.{OpenEpoch, EpochBegins, opened, rows_wanted, epoch_of}
use Rattle.crx_rinex.specs.meaning.EpochPlaces.{with_next_row, next_row, rows_at, rest_at, begun_by}
use Rattle.crx_rinex.specs.meaning.{EpochPlaces.{beginning_of, epoch_place}, Epochs.has_satellite}
use Rattle.crx_rinex.specs.meaning.{Epochs.{are_different, IsWholeEpoch}, Observations.{Row, Epoch}}
use Rattle.crx_rinex.specs.meaning.{Places.{Done, after_lines, then_place}, Printing.printed_row}
use Rattle.crx_rinex.specs.meaning.{Printing.{printed_head, printed_epoch}, SatelliteLines.{all_some, field}}
use Rattle.crx_rinex.specs.meaning.SatelliteLines.{flags_at, flags_in, row_with, row_of}
use Rattle.crx_rinex.specs.meaning.{SatelliteLines.{IsSoundRow, HasItsTypes}, Units.Observation}
use Rattle.crx_header.{proofs.OtherIdentifiers.other_way, specs.meaning.EpochColumns.{begins_epoch, is_event_flag}}
use Rattle.crx_header.specs.meaning.EpochColumns.{is_observation_flag, satellites_in, satellites_of}
use Rattle.crx_header.specs.meaning.{EpochColumns.epoch_count, ObservationTypes.Count}
use Rattle.crx_header.specs.meaning.Satellites.{types_of_satellite}

-- ---- a field

given : {X : Type 0} (P : X → Type 0) (o : Option X) → IfSome o P → ForSome o P
given = grind (arith, common_steps, none-some)

tested : {A : Type 0} (b : Bool) (o : Option A) (y : A) → cond b o None ≡ Some y → b ≡ true
tested = grind (arith, common_steps, none-some)

-- a text that spells a number fills its columns
decimal-width : (width decimals : ℕ) (text : List ℕ) (o : Option ℤ)
    → number_of width decimals text ≡ Some o → length text ≡ width
unfolding number_of
decimal-width width decimals text o h = grind arith

pub value-back : (value : Option ℤ) → IsValue value → observation_of (observation_text value) ≡ Some value
value-back value h = grind (arith, common_steps, number_of-number_text, given)

value-width : (value : Option ℤ) → IsValue value → length (observation_text value) ≡ 14
value-width value h = decimal-width _ OBSERVATION_DECIMALS _ value (value-back value h)

-- ---- the cells of a line

-- the values and indicators of the cells from `k` on
record AreCells (line : List ℕ) (k : ℕ) (values : List (Option ℤ)) (flags : List ℕ) : Type 0 where
  values_read : all_some (each_place (length values) (λ j. observation_of (field line (k + j)))) ≡ Some values
  flags_read : concat (each_place (length values) (λ j. flags_at line (k + j))) ≡ flags

first-cell : (line rest : List ℕ) (k : ℕ) (value : Option ℤ) (a b : ℕ) → IsValue value
    → ((p : ℕ) → at line (16 * k + 3 + p) ≡ at (observation_text value ++ a ∷ b ∷ rest) p)
    → (observation_of (field line k) ≡ Some value)
    × (character_at line (16 * k + 18) ≡ a) × (character_at line (16 * k + 19) ≡ b)
first-cell line rest k value a b fits same =
    let width = value-width value fits in
    let found = columns-are line (16 * k + 3 + 1) 14 _ width (λ p less.
    grind (arith, common_steps, width, at-append (observation_text value) (a ∷ b ∷ rest) p)) in
    let one : 16 * k + 18 - 1 ≡ 16 * k + 3 + (14 + 0) = omega arith in
    let two : 16 * k + 19 - 1 ≡ 16 * k + 3 + (14 + 1) = omega arith in
    grind (arith, common_steps, width, found, one, two, value-back value fits, at-append_past)

-- the first cell, and those after it
pub cells-are : (values : List (Option ℤ)) (flags : List ℕ) (value : Option ℤ) (a b : ℕ)
    → printed_cells (value ∷ values) (a ∷ b ∷ flags) ≡ observation_text value
    ++ a ∷ b ∷ printed_cells values flags
cells-are values flags value a b = grind (arith, common_steps, append_assoc, observation_text, printed_cells)

-- the place at which counting begins, and the places after it
pub from-next : {X : Type 0} (n k : ℕ) (f : ℕ → X)
    → each_place (suc n) (λ j. f (k + j)) ≡ f k ∷ each_place n (λ j. f (k + 1 + j))
from-next n k f = grind arith

-- places counted from 0
pub from-none : {X : Type 0} (n : ℕ) (f : ℕ → X) → each_place n f ≡ each_place n (λ j. f (0 + j))
from-none n f = grind arith

cells-read : (line : List ℕ) (k : ℕ) (values : List (Option ℤ)) (flags : List ℕ)
    → ((p : ℕ) → at line (16 * k + 3 + p) ≡ at (printed_cells values flags) p)
    → length flags ≡ 2 * length values → All IsValue values → AreCells line k values flags
cells-read line k (value ∷ values) (a ∷ b ∷ flags) same pairs fit =
    let fits : IsValue value = All-head IsValue value values fit in
    let width : length _ ≡ 14 = value-width value fits in
    let now : (p : ℕ) → at line _ ≡ at (observation_text value ++ a ∷ b ∷ printed_cells values flags) p =
    λ p. same p ∙ ap (λ t. at t p) (cells-are values flags value a b) in
    let first = first-cell line (printed_cells values flags) k value a b fits now in
    let rest : AreCells line (k + 1) values flags = cells-read line (k + 1) values flags (λ p.
    let place : 16 * (k + 1) + 3 + p ≡ 16 * k + 3 + (14 + suc (suc p)) = omega arith in
    grind (arith, common_steps, width, now, place, at-append_past)) (omega (arith, pairs))
    (All-tail IsValue value values fit) in
    record {
      values_read = ap all_some (from-next (length values) k (λ j. observation_of (field line j)))
          ∙ ap (λ o. all_some (o ∷ each_place (length values) (λ j. observation_of (field line (k + 1 + j)))))
          first.0 ∙ ap (option_and_then (λ vs. Some (value ∷ vs))) rest.values_read;
      flags_read = grind (arith, common_steps, first, rest, from-next (length values) k (flags_at line));
    }
cells-read line k values flags same pairs fit = grind (arith, common_steps)

length-cells : (values : List (Option ℤ)) (flags : List ℕ)
    → length flags ≡ 2 * length values → All IsValue values
    → length (printed_cells values flags) ≡ 16 * length values
length-cells (value ∷ values) (a ∷ b ∷ flags) pairs fit =
    let rest = length-cells values flags (omega (arith, pairs)) (All-tail IsValue value values fit) in
    grind (arith, common_steps, value-width, All-head, cells-are, length-append)
length-cells values flags pairs fit = grind (arith, common_steps)

-- ---- a row

pub name-length : (row : Row) → IsSoundRow row → length row.name ≡ 3
name-length row h = grind arith

pub length-row : (row : Row) → IsSoundRow row
    → length (row.name ++ printed_cells row.values row.flags) ≡ 16 * length row.values + 3
length-row row h = grind (arith, common_steps, name-length, printed_cells, length-append, length-cells)

after-text : (line text : List ℕ) (n : ℕ)
    → length text ≡ n → ((p : ℕ) → at line p ≡ at text p) → list_all is_blank (drop n line) ≡ true
after-text = grind (arith, common_steps, list_all-from_at, at-drop, append-nil, at-append_past)

row-chosen : (m : ℕ) (line name flags : List ℕ) (values : List (Option ℤ))
    → list_all is_blank (drop (16 * m + 3) line)
    ≡ true → flags_in m line ≡ flags → list_all is_kept flags ≡ true → columns line 1 3 ≡ name
    → row_with m line (Some values) ≡ Ok (record { name = name; values = values; flags = flags })
row-chosen m line name flags values blank found kept named = rw (blank, found, kept, named) refl

row-of_text : (types : List Count) (row : Row) (line : List ℕ) → IsSoundRow row → HasItsTypes types row
    → ((p : ℕ) → at line p ≡ at (row.name ++ printed_cells row.values row.flags) p)
    → row_of types line ≡ Ok row
row-of_text types row line h typed same =
    let three = name-length row h in
    let named = columns-are line 1 3 _ three (λ p less.
    grind (arith, common_steps, three, at-append row.name)) in
    let counted : types_of_satellite types line ≡ Some _ = sym (name_types types line) ∙ ap
    (types_of_satellite types) named ∙ typed in
    let read = cells-read line 0 _ _ (λ p.
    let place : 16 * 0 + 3 + p ≡ 3 + p = omega arith in
    ap (at line) place ∙ same (3 + p) ∙ at-append_past _ _ 3 p three) h.paired h.ranged in
    let wide = length-row row h in
    grind (arith, common_steps, named, counted, read, wide, from-none, row-chosen, after-text line)

pub row-back : (types : List Count) (row : Row)
    → IsSoundRow row → HasItsTypes types row → row_of types (printed_row row) ≡ Ok row
row-back types row h typed = row-of_text types row _ h typed (λ p. at-without_end_blanks _ p)

-- ---- an epoch line

flag-test : (c : ℕ) → is_observation_flag c ≡ true → is_event_flag c ≡ false
flag-test c h = grind (arith, h)

head-chosen : (line head : List ℕ) (count : ℕ) (clock : Option ℤ) → begins_epoch line ≡ true
    → is_event_flag (character_at line 32) ≡ false → columns line 1 41 ≡ head → epoch_count head ≡ Some count
    → list_all is_blank (drop 56 line) ≡ true
    → clock_of (columns line 42 15) ≡ Some clock → head_of line ≡ Ok (EpochHead head count clock)
head-chosen line head count clock begins flag same counted blank reads = grind arith

clock-back : (clock : Option ℤ) → IsClockOffset clock → clock_of (clock_text clock) ≡ Some clock
clock-back clock h = grind (arith, common_steps, number_of-number_text, given)

clock-width : (clock : Option ℤ) → IsClockOffset clock → length (clock_text clock) ≡ 15
clock-width clock h = decimal-width _ CLOCK_DECIMALS _ clock (clock-back clock h)

pub length-head : (head : ObservationHead) → IsObservationHead head
    → length (head.head ++ clock_text head.clock) ≡ 56
length-head head h = grind (arith, common_steps, clock_text, length-append, clock-width)

head-of_text : (head : ObservationHead) (line : List ℕ)
    → IsObservationHead head → ((p : ℕ) → at line p ≡ at (head.head ++ clock_text head.clock) p)
    → head_of line ≡ Ok (EpochHead head.head head.count head.clock)
head-of_text head line h same =
    let wide : length _ ≡ 41 = h.width in
    let reads : length _ ≡ 15 = clock-width head.clock h.ranged in
    let front : (p : ℕ) → p < 41 → at line p ≡ at head.head p =
    λ p less. same p ∙ at-append head.head (clock_text _) p (omega (arith, less, wide)) in
    let tests = tested (begins_epoch head.head && is_observation_flag (character_at head.head 32) && list_all
    is_kept head.head) (satellites_in head.head) head.count h.counted in
    let both = (and_parts _ (list_all is_kept head.head) tests).0 in
    let two = and_parts _ _ both in
    let named = columns-are line 1 41 _ wide (λ p less.
    grind (arith, common_steps, front)) in
    let offset = columns-are line 42 15 _ reads (λ p less.
    let place : 42 - 1 + p ≡ 41 + p = omega arith in
    ap (at line) place ∙ same _ ∙ at-append_past _ _ 41 p wide) in
    let all = length-head head h in
    head-chosen line _ _ _ (ap (λ c. c == 62) (front 0 (omega arith)) ∙ two.0)
    (ap is_event_flag (front 31 (omega arith)) ∙ flag-test (character_at head.head 32) two.1) named h.counted
    (after-text line _ 56 all same) (ap clock_of offset ∙ clock-back _ h.ranged)

pub head-back : (head : ObservationHead) → IsObservationHead head
    → head_of (printed_head head.head head.clock) ≡ Ok (EpochHead head.head head.count head.clock)
head-back head h = head-of_text head _ h (λ p. at-without_end_blanks _ p)

-- ---- an epoch

row-begins : (row : Row) → IsSoundRow row → begins_epoch (printed_row row) ≡ false
row-begins row h = grind (arith, common_steps)

row-new : (rows : List Row) (row : Row) (rest : List Row)
    → are_different (rows ++ row ∷ rest) ≡ true → has_satellite row.name rows ≡ false
row-new [] row rest h = refl
row-new (r ∷ rows) row rest h = grind (arith, common_steps, other_way, row-new rows row rest)

next-read : (so_far : OpenEpoch) (row : Row) → IsSoundRow row → HasItsTypes so_far.types row
    → has_satellite row.name so_far.rows ≡ false → next_row so_far (printed_row row) ≡ Ok row
next-read so_far row h typed new = grind (arith, common_steps, row-begins, row-back)

row-then : (so_far : OpenEpoch) (row : Row) (count : ℕ) (line : List ℕ) (lines : List ReadLine)
    → next_row so_far line ≡ Ok row → rows_at so_far (suc count) (Content line ∷ lines) ≡ after_lines 1
    (rows_at (with_next_row so_far row) count lines)
row-then so_far row count line lines e = grind arith

-- the epoch with more rows
abbrev with_rows : OpenEpoch → List Row → OpenEpoch
with_rows so_far rows = record so_far { rows = so_far.rows ++ rows }

rows-back : (so_far : OpenEpoch) (rows : List Row) (lines : List ReadLine)
    → All IsSoundRow rows → All (HasItsTypes so_far.types) rows → are_different (so_far.rows ++ rows) ≡ true
    → rows_at so_far (length rows) (map Content (map printed_row rows) ++ lines)
    ≡ Done (epoch_of (with_rows so_far rows)) (length rows)
rows-back so_far [] lines h typed apart = grind (arith, common_steps, epoch_of, append-nil)
rows-back so_far (row ∷ rows) lines h typed apart =
    grind (
      arith,
      common_steps,
      rows-back (with_next_row so_far row) rows lines (All-tail IsSoundRow row rows h)
          (All-tail (HasItsTypes so_far.types) row rows typed),
      next-read so_far row (All-head IsSoundRow row rows h)
          (All-head (HasItsTypes so_far.types) row rows typed) (row-new so_far.rows row rows apart),
    )

epoch-begun : (types : List Count) (line : List ℕ) (head : ObservationHead) (lines : List ReadLine)
    → beginning_of line ≡ Ok (EpochBegins head) → epoch_place types (Content line ∷ lines) ≡ after_lines 1
    (then_place (rest_at (opened types head) lines) lines (λ epoch rest. Done (Observation epoch) 0))
epoch-begun types line head lines e = grind arith

pub epoch-back : (types : List Count) (epoch : Epoch) (lines : List ReadLine) → IsWholeEpoch types epoch
    → epoch_place types (map Content (printed_epoch epoch) ++ lines) ≡ Done (Observation epoch)
    (length epoch.rows + 1)
epoch-back types epoch lines h =
    let head : ObservationHead =
    record { head = epoch.head; count = satellites_of epoch.head; clock = epoch.clock } in
    let line : List ℕ = printed_head epoch.head epoch.clock in
    let rest : List ReadLine = map Content (map printed_row epoch.rows) ++ lines in
    let wanted : rows_wanted (opened types head) ≡ length epoch.rows =
    (let full = h.full in omega (arith, full)) in
    let read : rest_at (opened types head) rest ≡ Done epoch (length epoch.rows) =
    ap (λ n. rows_at (opened types head) n rest) wanted
    ∙ rows-back (opened types head) epoch.rows lines h.sound.rows_sound h.typed h.sound.apart in
    let count : 1 + (length epoch.rows + 0) ≡ length epoch.rows + 1 = omega arith in
    epoch-begun types line head rest (ap (begun_by line) (head-back head h.sound.head_sound))
    ∙ ap (λ p. after_lines 1 (then_place p rest (λ e others. Done (Observation e) 0))) read
    ∙ ap (λ n. Done (Observation epoch) n) count
