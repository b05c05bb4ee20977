-- The step that a line makes in an open epoch, by its effect on a history.
use Rattle.crx_compact.proofs.Vocabulary.{◌≡◌, ◌≤◌, ◌<◌, ℕ, ◌+◌, Some, None, Err, Tail, refl, ap}
use Rattle.crx_compact.proofs.Vocabulary.{◌==◌, false, true, List, length, arith, Fault, Epoch, Reading, RowTail}
use Rattle.crx_compact.proofs.Vocabulary.{Content, row_held, HasMade, RawStep, with_rows, IsRowRead}
use Rattle.crx_compact.proofs.Vocabulary.{satellite_of, slice_get, next_step, whole_epoch, OpenHistory}
use Rattle.crx_compact.proofs.Vocabulary.{shown_epoch}
use Rattle.crx_compact.proofs.Vocabulary.{lines_to, take_all, HasPrintedLines, step_with_rows, tail_of_history}
use Rattle.crx_compact.proofs.{RowByRow.is-there}
use Rattle.std.proofs.lemmas.Option.{slice_get_past}
use Rattle.crx_compact.specs.{OpenEpochs.{Idle, Whole, Faulty, makes_epoch}}
use Rattle.std.proofs.lemmas.Grind.{common_steps}

-- ---- satellite lines

pub row-stepped : (old new : OpenHistory) (count : ℕ) (line : List ℕ)
    → IsRowRead count line old.satellites new.satellites → new ≡ record old { satellites = new.satellites }
    → next_step (with_rows (tail_of_history old) count) (Content line)
    ≡ step_with_rows (tail_of_history new) (count + 1)
row-stepped old new count line h same = grind arith

pub row-faulty : (tail : Tail) (count : ℕ) (line : List ℕ) (fault : Fault) → count < length tail.rows
    → ((row : RowTail) → slice_get tail.rows count ≡ Some row → row_held (Some row) (satellite_of row) line
    ≡ Err fault) → next_step (with_rows tail count) (Content line) ≡ Faulty fault
row-faulty tail count line fault h e = grind (arith, common_steps, is-there tail.rows count h)

-- ---- more rows, or a whole epoch

module _ (step : RawStep) (tail : Tail) (count : ℕ) (e : step ≡ step_with_rows tail count) where
  pub made-more : (count == length tail.rows) ≡ false → count ≤ length tail.rows
      → HasMade step (Reading (with_rows tail count)) None
  made-more other within = grind (arith, common_steps, is-there tail.rows count)

  module _ (h : length tail.rows ≤ count) where
    whole : step ≡ Whole (whole_epoch tail)
    whole = cc (e, slice_get_past tail.rows count h)

    pub step-whole : makes_epoch step ≡ true
    step-whole = ap makes_epoch whole

    pub made-whole : {epoch : Epoch} → epoch ≡ shown_epoch tail (length tail.rows)
        → HasMade step (Idle (Some tail)) (Some epoch)
    made-whole shown = (whole_epoch tail, whole, shown, refl)

    pub printed-whole : {lines : List (List ℕ)} → lines ≡ lines_to (length tail.rows) tail
        → HasPrintedLines step (Idle (Some tail)) true lines
    printed-whole printed = (whole_epoch tail, whole, grind (arith, take_all), refl)
