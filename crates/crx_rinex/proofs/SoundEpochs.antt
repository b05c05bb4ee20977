-- An observation epoch that is read is sound.
use Rattle.std.proofs.Common.{rules, ◌≡◌, ℕ, ℤ, ◌+◌, ◌*◌, ◌≤◌, zero, suc, Bool, true, false, not, cond, List}
use Rattle.std.proofs.Common.{[], ◌∷◌, length, drop, Option, Some, None, IfSome, unwrap_or, Result}
use Rattle.std.proofs.{Common.{Ok, Err, refl, subst, arith}, lemmas.Bool.and_from}
use Rattle.std.proofs.lemmas.{Grind.common_steps, List.{length_push, length-append}}
use Rattle.std.proofs.lemmas.{List.Elements.{All-push}}
use Rattle.std.{proofs.lemmas.Option.none-some, specs.{List.{list_all, AllByRecursion}, Prelude.{⊤, All}}}
use Rattle.crx_text.proofs.{Characters.length-columns, EachPlace.{each_place-all, length-each_place}}
use Rattle.crx_text.specs.meaning.{Columns.{character_at, columns, is_blank}, EachPlace.each_place}
use Rattle.crx_text.specs.meaning.{Numbers.{observation_of, clock_of, IsValue}, Texts.is_kept}
use Rattle.crx_base.specs.declared.fault.Fault.{Fault, TheVariants.{BadEpoch, BadClock, BadFlags}}
use Rattle.crx_base.specs.{declared.limits.TheConstants.SATELLITES_LIMIT, meaning.AsRead.{ReadLine, Content}}
use Rattle.crx_base.specs.meaning.AsRead.{Overlong}
use Rattle.crx_header.proofs.{OtherIdentifiers.apart-push, Counts.{allowed_of, system_of}}
use Rattle.crx_header.{proofs.FirstColumns.identifier_columns, specs.ObservationTypes.AreCounts}
use Rattle.crx_header.specs.meaning.{EpochColumns.epoch_count, InOrder.◌or_else◌with◌, ObservationTypes.Count}
use Rattle.crx_header.specs.meaning.ObservationTypes.{IsAllowedCount, count_of}
use Rattle.crx_header.specs.meaning.Satellites.{types_of_satellite, has_number, is_identifier}
use Rattle.crx_rinex.proofs.{Cells.flags_in_more, Ranges.{value_fits, clock_fits, tested}}
use Rattle.crx_rinex.{proofs.Rows.satellites_few, specs.meaning.EpochLines.{HeadLine, EventHead, EpochHead}}
use Rattle.crx_rinex.specs.meaning.EpochLines.{ObservationHead, IsObservationHead, epoch_head, event_head}
use Rattle.crx_rinex.specs.meaning.{EpochLines.head_of, EpochPlaces.{OpenEpoch, Beginning, EventBegins}}
use Rattle.crx_rinex.specs.meaning.EpochPlaces.{EpochBegins, opened, rows_wanted, with_next_row, row_if_new}
use Rattle.crx_rinex.specs.meaning.EpochPlaces.{next_row, rows_at, rest_at, begun_by, unit_begun, epoch_place}
use Rattle.crx_rinex.specs.meaning.{Epochs.{has_satellite, are_different, IsWholeEpoch}, Observations.Row}
use Rattle.crx_rinex.specs.meaning.{Observations.Epoch, Places.{Place, Done, Fails, NeedsMore, after_lines}}
use Rattle.crx_rinex.specs.meaning.{Places.{then_place, one_line}, SatelliteLines.{row_of, row_of_types}}
use Rattle.crx_rinex.specs.meaning.SatelliteLines.{row_with, values_in, flags_in, field, all_some}
use Rattle.crx_rinex.specs.meaning.{SatelliteLines.{IsSoundRow, HasItsTypes}, Units.{Unit, Observation}}

-- ---- a row

-- an identifier's columns have the system's count of types that its line has
pub name_types : (types : List Count) (line : List ℕ)
    → types_of_satellite types (columns line 1 3) ≡ types_of_satellite types line
name_types types [] = refl
name_types types (a ∷ []) = refl
name_types types (a ∷ b ∷ []) = refl
name_types types (a ∷ b ∷ c ∷ []) = refl
name_types types (a ∷ b ∷ c ∷ d ∷ rest) = refl

if_some : (o : Option (Option ℤ)) → ((value : Option ℤ) → o ≡ Some value → IsValue value) → IfSome o IsValue
if_some = grind (arith, common_steps)

record AreValues (count : ℕ) (values : List (Option ℤ)) : Type 0 where
  long : length values ≡ count
  ranged : All IsValue values

values_sound : (xs : List (Option (Option ℤ))) (values : List (Option ℤ)) → AllByRecursion
    (λ (o : Option (Option ℤ)). IfSome o IsValue) xs → all_some xs ≡ Some values
    → AreValues (length xs) values
values_sound [] values h e = grind arith
values_sound (None ∷ xs) values h e = absurd (none-some values e)
values_sound (Some x ∷ xs) values h e = grind (arith, common_steps, values_sound xs)

flags_long : (line : List ℕ) (m : ℕ) → length (flags_in m line) ≡ 2 * m
flags_long line zero = refl
flags_long line (suc m) =
    grind (arith, common_steps, flags_long line m, flags_in_more line m, length-append (flags_in m line))

-- the reading of a satellite line
abbrev IsSoundRead : List Count → Result Row Fault → Type 0
IsSoundRead types (Ok row) = IsSoundRow row × HasItsTypes types row
IsSoundRead types (Err fault) = ⊤

-- the count of types of a line's satellite
record IsTyped (line : List ℕ) (m : ℕ) : Type 0 where
  named : is_identifier (columns line 1 3) ≡ true
  counted : IsAllowedCount m

typed : (types : List Count) (line : List ℕ) (m : ℕ)
    → AreCounts types → types_of_satellite types line ≡ Some m → IsTyped line m
typed types line m counts h =
    let parts = tested (has_number line) (count_of types (character_at line 1)) m h in
    let system = system_of types (character_at line 1) counts in
    let allowed = allowed_of types (character_at line 1) counts in
    grind (arith, identifier_columns line, and_from)

flags_case : (types : List Count) (line : List ℕ) (m : ℕ) (values : List (Option ℤ))
    → types_of_satellite types line ≡ Some m → IsTyped line m → AreValues m values
    → (b : Bool) → list_all is_kept (flags_in m line) ≡ b → IsSoundRead types (cond (not b) (Err BadFlags)
    (Ok (record { name = columns line 1 3; values = values; flags = flags_in m line })))
flags_case = search (rules, flags_long, name_types)

values_case : (types : List Count) (line : List ℕ) (m : ℕ) → types_of_satellite types line ≡ Some m
    → IsTyped line m → (o : Option (List (Option ℤ))) → values_in m line ≡ o
    → IsSoundRead types (row_with m line o)
values_case types line m e t None h = tt
values_case types line m e t (Some values) h =
    let f : ℕ → Option (Option ℤ) = λ k. observation_of (field line k) in
    let v : AreValues m values = subst (λ n. AreValues n values) (length-each_place m f)
    (values_sound (each_place m f) values (each_place-all
    (λ (o : Option (Option ℤ)). IfSome o IsValue) m f (λ k. if_some (f k) (value_fits (field line k)))) h) in
    search (rules, flags_case)

types_case : (types : List Count) (line : List ℕ)
    → AreCounts types → (o : Option ℕ) → types_of_satellite types line ≡ o
    → IsSoundRead types (row_of_types line o)
types_case types line counts None e = tt
types_case types line counts (Some m) e = search (rules, values_case, typed)

pub sound-row_of : (types : List Count) (line : List ℕ) → AreCounts types
    → IsSoundRead types (row_of types line)
sound-row_of types line counts = types_case types line counts _ refl

-- ---- an epoch line

abbrev pub IsSoundHead : Result HeadLine Fault → Type 0
IsSoundHead (Err fault) = ⊤
IsSoundHead (Ok (EventHead flag count)) = ⊤
IsSoundHead (Ok (EpochHead head count clock)) =
    IsObservationHead (record { head = head; count = count; clock = clock })

-- the clock of an observation epoch's line, or its fault
abbrev pub with_clock : List ℕ → ℕ → Option (Option ℤ) → Result HeadLine Fault
with_clock head count found = found or_else Err BadClock with λ clock. Ok (EpochHead head count clock)

clock_case : (line : List ℕ) (count : ℕ) → epoch_count (columns line 1 41) ≡ Some count
    → (o : Option (Option ℤ)) → clock_of (columns line 42 15) ≡ o
    → IsSoundHead (with_clock (columns line 1 41) count o)
clock_case line count e None c = tt
clock_case line count e (Some clock) c =
    let few = subst (λ (o : Option ℕ). unwrap_or o 0 ≤ SATELLITES_LIMIT) e
    (satellites_few (columns line 1 41)) in
    search (rules, length-columns, clock_fits)

count_case : (line : List ℕ) (o : Option ℕ) → epoch_count (columns line 1 41) ≡ o
    → IsSoundHead (epoch_head line o)
count_case line None e = tt
count_case line (Some count) e =
    elim (list_all is_blank (drop 56 line)) as (λ b. IsSoundHead (cond (not b) (Err BadEpoch)
    (with_clock (columns line 1 41) count (clock_of (columns line 42 15))))) [
      | true ↦ clock_case line count e (clock_of (columns line 42 15)) refl
      | false ↦ tt
    ]

event_case : (flag : ℕ) (o : Option ℕ) → IsSoundHead (event_head flag o)
event_case = grind (arith, common_steps)

pub sound-head_of : (line : List ℕ) → IsSoundHead (head_of line)
sound-head_of line = grind (arith, common_steps, cond, event_case, count_case)

-- ---- rows after an epoch line

-- true of every open epoch
pub record IsSoundSoFar (so_far : OpenEpoch) : Type 0 where
  pub head : IsObservationHead so_far.head
  pub rows : All IsSoundRow so_far.rows
  pub typed : All (HasItsTypes so_far.types) so_far.rows
  pub apart : are_different so_far.rows ≡ true

pub sound-opened : (types : List Count) (head : ObservationHead)
    → IsObservationHead head → IsSoundSoFar (opened types head)
sound-opened = grind (arith, common_steps, typed)

abbrev pub IsNext : OpenEpoch → Result Row Fault → Type 0
IsNext so_far (Err fault) = ⊤
IsNext so_far (Ok row) = IsSoundRow row × HasItsTypes so_far.types row
    × (has_satellite row.name so_far.rows ≡ false)

new_row : (so_far : OpenEpoch) (r : Result Row Fault)
    → IsSoundRead so_far.types r → IsNext so_far (row_if_new so_far.rows r)
new_row = search rules

pub next_sound : (so_far : OpenEpoch) (line : List ℕ) → AreCounts so_far.types
    → IsNext so_far (next_row so_far line)
next_sound so_far line counts = grind (arith, common_steps, cond, new_row, sound-row_of)

pub sound-next_row : (so_far : OpenEpoch) (row : Row)
    → IsSoundSoFar so_far → IsNext so_far (Ok row) → IsSoundSoFar (with_next_row so_far row)
sound-next_row so_far row h n = search (rules, All-push, apart-push)

-- the epoch that is read, and how many lines it took
abbrev AreGood : List Count → ℕ → ℕ → Place Epoch → Type 0
AreGood types total count (Done epoch n) = IsWholeEpoch types epoch × (n ≡ count)
    × (length epoch.rows ≡ total)
AreGood types total count (Fails k fault) = ⊤
AreGood types total count NeedsMore = ⊤

good_row : (count : ℕ) (so_far : OpenEpoch) (line : List ℕ) (lines : List ReadLine)
    → ((row : Row) → IsNext so_far (Ok row)
    → AreGood so_far.types so_far.head.count count (rows_at (with_next_row so_far row) count lines))
    → (r : Result Row Fault) → IsNext so_far r → AreGood so_far.types so_far.head.count (suc count)
    (then_place (one_line r) (Content line ∷ lines)
    (λ row rest. rows_at (with_next_row so_far row) count rest))
good_row = grind (arith, common_steps)

good_rows : (count : ℕ) (so_far : OpenEpoch) (lines : List ReadLine)
    → AreCounts so_far.types → IsSoundSoFar so_far → length so_far.rows + count ≡ so_far.head.count
    → AreGood so_far.types so_far.head.count count (rows_at so_far count lines)
good_rows zero so_far lines counts h sum = grind arith
good_rows (suc count) so_far [] counts h sum = tt
good_rows (suc count) so_far (Overlong ∷ lines) counts h sum = tt
good_rows (suc count) so_far (Content line ∷ lines) counts h sum =
    grind (
      arith,
      common_steps,
      good_row count so_far line lines,
      good_rows count,
      sound-next_row so_far,
      length_push so_far.rows,
      next_sound so_far line counts,
    )

-- ---- where an epoch or an event may begin

abbrev IsReadWell : List Count → Place (Unit Epoch) → Type 0
IsReadWell types (Done (Observation epoch) n) = IsWholeEpoch types epoch × (n ≡ suc (length epoch.rows))
IsReadWell types _ = ⊤

good_unit : (types : List Count) (count : ℕ) (p : Place Epoch) (lines : List ReadLine)
    → AreGood types count count p
    → IsReadWell types (after_lines 1 (then_place p lines (λ epoch rest. Done (Observation epoch) 0)))
good_unit = grind (arith, common_steps)

-- the beginning that an epoch line is, is sound
abbrev pub IsSoundBeginning : Result Beginning Fault → Type 0
IsSoundBeginning (Err fault) = ⊤
IsSoundBeginning (Ok (EventBegins line)) = ⊤
IsSoundBeginning (Ok (EpochBegins head)) = IsObservationHead head

pub begun_sound : (line : List ℕ) (r : Result HeadLine Fault) → IsSoundHead r
    → IsSoundBeginning (begun_by line r)
begun_sound = grind (arith, common_steps)

good_begun : (types : List Count) (line : List ℕ) (lines : List ReadLine) (r : Result Beginning Fault)
    → AreCounts types → IsSoundBeginning r
    → IsReadWell types (then_place (one_line r) (Content line ∷ lines) (unit_begun types))
good_begun types line lines (Err fault) counts h = tt
good_begun types line lines (Ok (EventBegins event)) counts h = tt
good_begun types line lines (Ok (EpochBegins head)) counts h =
    good_unit types head.count (rest_at (opened types head) lines) lines
    (let all : rows_wanted (opened types head) ≡ head.count = omega arith in
    subst (λ n. AreGood types head.count n
    (rows_at (opened types head) (rows_wanted (opened types head)) lines)) all
    (good_rows (rows_wanted (opened types head))
    (opened types head) lines counts (sound-opened types head h) (omega arith)))

read_well : (types : List Count) (lines : List ReadLine) → AreCounts types
    → IsReadWell types (epoch_place types lines)
read_well = grind (arith, common_steps, good_begun, begun_sound, sound-head_of)

pub sound-epoch_place : (types : List Count) (lines : List ReadLine) (epoch : Epoch) (count : ℕ)
    → AreCounts types → epoch_place types lines ≡ Done (Observation epoch) count
    → IsWholeEpoch types epoch × (count ≡ suc (length epoch.rows))
sound-epoch_place types lines epoch count counts h = subst (IsReadWell types) h (read_well types lines counts)
