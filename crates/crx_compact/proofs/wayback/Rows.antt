-- The rows of a satellite's run can be written.
use Rattle.crx_compact.proofs.Characters.{bytes_eq-is}
use Rattle.crx_compact.proofs.Vocabulary.{◌≡◌, ◌-◌, ◌^◌, Bool, List, Some, None}
use Rattle.crx_compact.proofs.Vocabulary.{refl, length, Option, stretch, code_at}
use Rattle.crx_compact.proofs.Vocabulary.{ℕ, ℤ, ◌∷◌, map, All, ap, Row, subst}
use Rattle.crx_compact.proofs.Vocabulary.{arith, Epoch, Marked, run_of, arc_of, Count, []}
use Rattle.crx_compact.proofs.Vocabulary.{each_place, since_full, row_named}
use Rattle.crx_compact.proofs.Vocabulary.{slice_index_or, AllByRecursion, IsValue}
use Rattle.crx_compact.proofs.Vocabulary.{value_in, AreWhole}
use Rattle.crx_compact.proofs.Vocabulary.{IsWithin}
use Rattle.crx_compact.proofs.Vocabulary.{IsMissingOrWithin, OBSERVATION_WIDTH}
use Rattle.crx_compact.proofs.Vocabulary.{IsPrintable, CLOCK_WIDTH}
use Rattle.crx_compact.proofs.Vocabulary.{WRITTEN_ORDER}
use Rattle.crx_compact.proofs.wayback.WritableEpochs.{IsTypedRow, typed-rows}
use Rattle.crx_compact.proofs.wayback.Runs.{marked, rows_before}
use Rattle.crx_compact.proofs.Vocabulary.{rules, common_steps, CodesFit}
use Rattle.crx_compact.proofs.Lists.{all-from}
use Rattle.crx_compact.proofs.arcs.Bounds.{IsNear, code-printable}
use Rattle.crx_rinex.specs.meaning.EpochLines.{IsClockOffset}
use Rattle.crx_compact.proofs.arcs.Bounds.{ten-more}

-- ---- rows of a run

-- a row of a run: it can be written, and has the run's identifier
pub record IsRowOf (types : List Count) (name : List ℕ) (row : Row) : Type 0 where
  pub is_row : IsTypedRow types row
  pub is_named : row.name ≡ name

pub found-row : (types : List Count) (name : List ℕ) (rows : List Row)
    → AllByRecursion (IsTypedRow types) rows → (r : Row) → row_named name rows ≡ Some r → IsRowOf types name r
found-row types name [] h r found = cc
found-row types name (q ∷ qs) h r found = search (rules, bytes_eq-is, found-row types name qs h.1 r)

run-rows_step : (types : List Count) (name : List ℕ) (o : Option Row) (os : List (Option Row))
    → ((r : Row) → o ≡ Some r → IsRowOf types name r) → AllByRecursion (IsRowOf types name) (stretch os)
    → AllByRecursion (IsRowOf types name) (stretch (o ∷ os))
run-rows_step types name o os h next = grind arith

pub run-rows : (types : List Count) (name : List ℕ) (epochs : List Epoch) → AreWhole types epochs
    → AllByRecursion (IsRowOf types name) (stretch (map (λ (e : Epoch). row_named name e.rows) epochs))
run-rows types name [] h = tt
run-rows types name (e ∷ es) h = run-rows_step types name _ _
    (found-row types name e.rows (typed-rows types e h.0)) (run-rows types name es h.1)

-- the run of a satellite at an epoch that has a row of it: that row, and the rows before it
pub run-begins : (full : Bool) (e : Epoch) (older : List Marked) (r : Row) → row_named r.name e.rows ≡ Some r
    → run_of r.name (marked full e ∷ older) ≡ r ∷ rows_before full r.name older
run-begins full e older r own = cc

pub rows-of_run : (types : List Count) (full : Bool) (e : Epoch) (older : List Marked)
    → AreWhole types (since_full (marked full e ∷ older)) → (r : Row) → row_named r.name e.rows ≡ Some r
    → AllByRecursion (IsRowOf types r.name) (r ∷ rows_before full r.name older)
rows-of_run types full e older h r own = subst (λ q. AllByRecursion (IsRowOf types r.name) q)
    (run-begins full e older r own) (run-rows types r.name (since_full (marked full e ∷ older)) h)

-- ---- values of a run

pub stretch-within : (width : ℕ) (os : List (Option ℤ))
    → AllByRecursion (IsMissingOrWithin width) os → AllByRecursion (IsWithin width) (stretch os)
stretch-within width (Some x ∷ os) h = (h.0, stretch-within width os h.1)
stretch-within width os h = tt

pub near-all : (width : ℕ) (xs : List ℤ)
    → AllByRecursion (IsWithin width) xs → AllByRecursion (IsNear (10 ^ (width - 1))) xs
near-all width xs h = grind (arith, common_steps, all-from, ten-more)

pub value-fits : (values : List (Option ℤ)) (j : ℕ) → All IsValue values
    → IsValue (slice_index_or values j None)
value-fits values j h = grind (arith, common_steps, h j)

pub values-fit : (types : List Count) (name : List ℕ) (j : ℕ) (run : List Row)
    → AllByRecursion (IsRowOf types name) run → AllByRecursion IsValue (map (value_in j) run)
values-fit types name j [] h = tt
values-fit types name j (r ∷ rs) h = (value-fits _ j h.0.is_row.0.ranged, values-fit types name j rs h.1)

pub clocks-fit : (types : List Count) (epochs : List Epoch)
    → AreWhole types epochs → AllByRecursion IsClockOffset (map (λ (e : Epoch). e.clock) epochs)
clocks-fit types [] h = tt
clocks-fit types (e ∷ es) h = (h.0.sound.head_sound.ranged, clocks-fit types es h.1)

pub run-printable : (types : List Count) (name : List ℕ) (run : List Row)
    → AllByRecursion (IsRowOf types name) run → (j : ℕ) → IsPrintable (code_at WRITTEN_ORDER (arc_of j run))
run-printable types name run h j =
    code-printable (10 ^ (OBSERVATION_WIDTH - 1)) _ (omega arith) (near-all OBSERVATION_WIDTH
    (arc_of j run) (stretch-within OBSERVATION_WIDTH (map (value_in j) run) (values-fit types name j run h)))

pub clock-printable : (types : List Count) (epochs : List Epoch) → AreWhole types epochs
    → IsPrintable (code_at WRITTEN_ORDER (stretch (map (λ (e : Epoch). e.clock) epochs)))
clock-printable types epochs h =
    code-printable (10 ^ (CLOCK_WIDTH - 1)) _ (omega arith) (near-all CLOCK_WIDTH _
    (stretch-within CLOCK_WIDTH (map (λ (e : Epoch). e.clock) epochs) (clocks-fit types epochs h)))

pub are-printable : (types : List Count) (m : Marked) (older : List Marked)
    → AreWhole types (since_full (m ∷ older)) → CodesFit m older
are-printable types m older h = record {
  clock = clock-printable types (since_full (m ∷ older)) h;
  cells = λ name place. run-printable types name _ (run-rows types name (since_full (m ∷ older)) h) place;
}

pub values-again : (vs : List (Option ℤ)) → each_place (length vs) (λ j. slice_index_or vs j None) ≡ vs
values-again [] = refl
values-again (v ∷ vs) = ap (λ r. v ∷ r) (values-again vs)
