-- Epochs, one line after another.
use Rattle.std.proofs.Common.{rules, ◌≡◌, ℕ, ◌-◌, ◌<◌, zero, suc, List, [], ◌∷◌, ◌++◌, length, Option, Some}
use Rattle.std.proofs.Common.{None, Result, refl, inl, arith, append-nil}
use Rattle.std.{proofs.lemmas.{Grind.common_steps, Option.none-some}, specs.Prelude.⊤}
use Rattle.crx_base.specs.{declared.fault.Fault.Fault, meaning.AsRead.{ReadLine, Content, Overlong}}
use Rattle.crx_rinex.proofs.SteadyPlaces.{steady-here, steady-first_line, steady-then}
use Rattle.crx_rinex.specs.EpochPlaces.{EpochStep, Going, Whole, Faulty}
use Rattle.crx_rinex.specs.EpochPlaces.{after_row, epoch_step, still_open, opened_by, opened_at, open_after}
use Rattle.crx_rinex.specs.{EpochPlaces.{open_with, place_after}, Laws.{IsWantedWhereOpen, IsDecidedByOpen}}
use Rattle.crx_rinex.specs.{Steady.IsSteady, meaning.EpochPlaces.{OpenEpoch, Beginning, EventBegins}}
use Rattle.crx_rinex.specs.meaning.EpochPlaces.{EpochBegins, rows_wanted, with_next_row, rows_at}
use Rattle.crx_rinex.specs.meaning.EpochPlaces.{rest_at, beginning_of, unit_begun, epoch_place}
use Rattle.crx_rinex.specs.meaning.{Observations.{Row, Epoch}, Places.{Place, Done, Fails, NeedsMore}}
use Rattle.crx_rinex.specs.meaning.{Places.{after_lines, then_place, one_line}, Units.Unit}
use Rattle.crx_rinex.specs.meaning.Units.{Observation}
use Rattle.crx_header.specs.meaning.ObservationTypes.{Count}

-- ---- the result is certain

pub steady-rows : (count : ℕ) (so_far : OpenEpoch) → IsSteady (rows_at so_far count)
steady-rows zero so_far = steady-here _
steady-rows (suc count) so_far = grind (arith, common_steps, steady-rows count)

pub steady-rest : (so_far : OpenEpoch) → IsSteady (rest_at so_far)
steady-rest so_far = steady-rows _ so_far

pub steady-begun : (types : List Count) (beginning : Beginning) → IsSteady (unit_begun types beginning)
steady-begun types (EventBegins line) = steady-here _
steady-begun types (EpochBegins head) = search (rules, steady-then, steady-rest, steady-here)

pub steady-epoch_place : (types : List Count) → IsSteady (epoch_place types)
steady-epoch_place = search (rules, steady-then, steady-first_line, steady-begun)

-- ---- one line of an open epoch

abbrev after_step : EpochStep → List ReadLine → Place Epoch
after_step (Going so_far) lines = after_lines 1 (rest_at so_far lines)
after_step (Whole epoch) lines = Done epoch 1
after_step (Faulty fault) lines = Fails 0 fault

row_then_rest : (n : ℕ) (so_far : OpenEpoch) (line : List ℕ) (lines : List ReadLine) (r : Result Row Fault)
    → rows_wanted so_far ≡ suc n
    → then_place (one_line r) (Content line ∷ lines) (λ row rest. rows_at (with_next_row so_far row) n rest)
    ≡ after_step (after_row so_far r) lines
row_then_rest = grind (arith, common_steps)

rest_by_step : (n : ℕ) (so_far : OpenEpoch) (line : ReadLine) (lines : List ReadLine)
    → rows_wanted so_far ≡ suc n → rest_at so_far (line ∷ lines) ≡ after_step (epoch_step so_far line) lines
rest_by_step n so_far Overlong lines h = rw h refl
rest_by_step n so_far (Content line) lines h = rw h (row_then_rest n so_far line lines _ h)

-- ---- line after line

-- a step that leaves an epoch open needs one more row
abbrev IsGoing : EpochStep → Type 0
IsGoing (Going so_far) = 0 < rows_wanted so_far
IsGoing (Whole epoch) = ⊤
IsGoing (Faulty fault) = ⊤

step_wants : (so_far : OpenEpoch) (line : ReadLine) → IsGoing (epoch_step so_far line)
step_wants = grind (arith, common_steps)

step_at : (so_far : OpenEpoch) (line : ReadLine) (lines : List ReadLine)
    → 0 < rows_wanted so_far → rest_at so_far (line ∷ lines) ≡ after_step (epoch_step so_far line) lines
step_at so_far line lines h = rest_by_step (rows_wanted so_far - 1) so_far line lines (omega (arith, h))

nothing_yet : (so_far : OpenEpoch) → 0 < rows_wanted so_far → rest_at so_far [] ≡ NeedsMore
nothing_yet so_far h = grind arith

-- an epoch that stays open over some lines continues after them as the later one does
record GoesOn (so_far later : OpenEpoch) (lines : List ReadLine) : Type 0 where
  wants : 0 < rows_wanted later
  rest : (more : List ReadLine)
      → rest_at so_far (lines ++ more) ≡ after_lines (length lines) (rest_at later more)

goes_on_after : (so_far later : OpenEpoch) (line : ReadLine) (lines : List ReadLine) (step : EpochStep)
    → ((next : OpenEpoch) → 0 < rows_wanted next → open_after (Some next) lines ≡ Some later
    → GoesOn next later lines) → 0 < rows_wanted so_far → epoch_step so_far line ≡ step
    → IsGoing step → open_after (still_open step) lines ≡ Some later → GoesOn so_far later (line ∷ lines)
goes_on_after = grind (arith, common_steps, step_at, none-some)

goes_on : (so_far later : OpenEpoch) (lines : List ReadLine)
    → 0 < rows_wanted so_far → open_after (Some so_far) lines ≡ Some later → GoesOn so_far later lines
goes_on so_far later [] h left = grind arith
goes_on so_far later (line ∷ lines) h left =
    goes_on_after so_far later line lines _
    (λ next wants more. goes_on next later lines wants more) h refl (step_wants so_far line) left

-- an epoch whose lines need more is open
abbrev IsOpen : Option OpenEpoch → List ReadLine → Type 0
IsOpen begun lines = (later : OpenEpoch) × (open_after begun lines ≡ Some later)

not_wrong : {X : Type 0} (k : ℕ) (fault : Fault) → ◌≡◌ {A = Place X} (Fails k fault) NeedsMore → ⊥
not_wrong k fault h = absurd (cc)

wanted_before : {X : Type 0} (count : ℕ) (p : Place X) → after_lines count p ≡ NeedsMore → p ≡ NeedsMore
wanted_before = grind (arith, common_steps, not_wrong)

open_by : (so_far : OpenEpoch) (line : ReadLine) (lines : List ReadLine) (step : EpochStep)
    → ((next : OpenEpoch) → 0 < rows_wanted next → rest_at next lines ≡ NeedsMore → IsOpen (Some next) lines)
    → IsGoing step → after_step step lines ≡ NeedsMore → IsOpen (still_open step) lines
open_by = grind (arith, common_steps, not_wrong)

open_where_wanted : (lines : List ReadLine) (so_far : OpenEpoch)
    → 0 < rows_wanted so_far → rest_at so_far lines ≡ NeedsMore → IsOpen (Some so_far) lines
open_where_wanted [] so_far wants h = (so_far, refl)
open_where_wanted (line ∷ lines) so_far wants h =
    grind (arith, common_steps, open_by, step_at, open_where_wanted lines)

pub open_none : (begun : Option OpenEpoch) → open_after begun [] ≡ begun
open_none = grind (arith, common_steps)

open_push : (lines : List ReadLine) (begun : Option OpenEpoch) (line : ReadLine)
    → open_after begun (lines ++ line ∷ []) ≡ open_after (open_after begun lines) (line ∷ [])
open_push (l ∷ lines) (Some so_far) line = open_push lines _ line
open_push lines begun line = grind (arith, common_steps)

open_next : (lines : List ReadLine) (begun : Option OpenEpoch) (line : ReadLine) (so_far : OpenEpoch)
    → open_after begun lines ≡ Some so_far
    → open_after begun (lines ++ line ∷ []) ≡ still_open (epoch_step so_far line)
open_next lines begun line so_far h = grind (arith, common_steps, open_push, open_after, open_none)

-- ---- from the epoch line on

abbrev as_unit : Place Epoch → Place (Unit Epoch)
as_unit (Done epoch n) = Done (Observation epoch) n
as_unit (Fails k fault) = Fails k fault
as_unit NeedsMore = NeedsMore

-- an open epoch at a line continues in the lines after it
record Begins (types : List Count) (line : ReadLine) (so_far : OpenEpoch) : Type 0 where
  wants : 0 < rows_wanted so_far
  place : (lines : List ReadLine)
      → epoch_place types (line ∷ lines) ≡ after_lines 1 (as_unit (rest_at so_far lines))

begins_by : (types : List Count) (line : List ℕ) (r : Result Beginning Fault) (so_far : OpenEpoch)
    → opened_by types r ≡ Some so_far → (0 < rows_wanted so_far) × ((lines : List ReadLine) → then_place
    (one_line r) (Content line ∷ lines) (unit_begun types) ≡ after_lines 1 (as_unit (rest_at so_far lines)))
begins_by = grind (arith, common_steps)

begins : (types : List Count) (line : ReadLine) (so_far : OpenEpoch)
    → opened_at types line ≡ Some so_far → Begins types line so_far
begins types Overlong so_far h = absurd (none-some so_far h)
begins types (Content line) so_far h =
    grind (arith, common_steps, begins_by types line (beginning_of line) so_far h)

decided_by : (types : List Count) (line : List ℕ) (r : Result Beginning Fault) (lines : List ReadLine)
    → opened_by types r ≡ None
    → then_place (one_line r) (Content line ∷ lines) (unit_begun types) ≡ NeedsMore → ⊥
decided_by = grind (arith, common_steps, not_wrong)

decided : (types : List Count) (line : ReadLine) (lines : List ReadLine)
    → opened_at types line ≡ None → epoch_place types (line ∷ lines) ≡ NeedsMore → ⊥
decided = grind (arith, common_steps, not_wrong, decided_by)

unit_wanted : (p : Place Epoch) → as_unit p ≡ NeedsMore → p ≡ NeedsMore
unit_wanted = grind (arith, common_steps, not_wrong)

wanted_from : (types : List Count) (line : ReadLine) (lines : List ReadLine) (begun : Option OpenEpoch)
    → opened_at types line ≡ begun → epoch_place types (line ∷ lines) ≡ NeedsMore → IsOpen begun lines
wanted_from types line lines None e w = absurd (decided types line lines e w)
wanted_from types line lines (Some so_far) e w =
    grind (arith, common_steps, begins, open_where_wanted, unit_wanted, wanted_before)

open_from : (types : List Count) (line : ReadLine)
    (lines : List ReadLine) (begun : Option OpenEpoch) (later : OpenEpoch) → opened_at types line ≡ begun
    → open_after begun lines ≡ Some later → (so_far : OpenEpoch) × Begins types line so_far
    × GoesOn so_far later lines
open_from types line lines None later e h = absurd (none-some later h)
open_from types line lines (Some so_far) later e h =
    let b = begins types line so_far e in (so_far, b, goes_on so_far later lines b.wants h)

-- the epoch's place, lines and more lines, by the open epoch
place_by_open : (types : List Count) (line : ReadLine) (lines : List ReadLine) (later : OpenEpoch)
    → open_with types (line ∷ lines) ≡ Some later
    → (0 < rows_wanted later) × ((more : List ReadLine) → epoch_place types (line ∷ (lines ++ more))
    ≡ after_lines 1 (as_unit (after_lines (length lines) (rest_at later more))))
place_by_open types line lines later h =
    let from = open_from types line lines _ later refl h in
    grind (arith, common_steps)

wanted_by_open : (types : List Count) (lines : List ReadLine) (later : OpenEpoch)
    → open_with types lines ≡ Some later → epoch_place types lines ≡ NeedsMore
wanted_by_open types [] later h = refl
wanted_by_open types (line ∷ lines) later h =
    let by = place_by_open types line lines later h in
    grind (arith, common_steps, append-nil, nothing_yet, by.1 [])

pub wanted-open : (types : List Count) (lines : List ReadLine) → IsWantedWhereOpen types lines
wanted-open types [] = (λ w. inl refl, λ o. refl)
wanted-open types (line ∷ lines) =
    grind (
      arith,
      wanted_from types line lines (opened_at types line) refl,
      wanted_by_open types (line ∷ lines),
    )

-- the result of a step, `count` lines after the epoch line
step_place : (count : ℕ) (step : EpochStep)
    → IsGoing step → after_lines 1 (as_unit (after_lines count (after_step step [])))
    ≡ place_after (suc count) step
step_place = grind (arith, common_steps, nothing_yet)

pub next-by_open : (types : List Count) (lines : List ReadLine) (line : ReadLine) (so_far : OpenEpoch)
    → open_with types lines ≡ Some so_far → IsDecidedByOpen types lines line so_far
next-by_open types [] line so_far h = absurd (none-some so_far h)
next-by_open types (first ∷ lines) line so_far h =
    let by = place_by_open types first lines so_far h in
    let step = step_at so_far line [] by.0 in
    let place = step_place (length lines) (epoch_step so_far line) (step_wants so_far line) in
    grind (arith, by.1 (line ∷ []), open_next)
