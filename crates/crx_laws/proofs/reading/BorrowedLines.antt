-- Compact lines that are borrowed one after another, and their result.
use Rattle.crx_filter.proofs.Vocabulary.{◌≡◌, refl, ℕ, suc, ◌+◌, ◌*◌, ◌≤◌, Bool, true, false, List, [], ◌∷◌, drop}
use Rattle.crx_filter.proofs.Vocabulary.{map, length, Option, Some, None, Result, Ok, Err, is_some, sym, ◌∙◌, ap}
use Rattle.crx_filter.proofs.Vocabulary.{arith, inl, inr, ◌⊎◌, true≢false, Content, Fault, OutOfMemory, Epoch}
use Rattle.crx_filter.proofs.Vocabulary.{Count, Place, Done, NeedsMore, Marked, compact_epoch, Tail, OpenRawEpoch}
use Rattle.crx_filter.proofs.Vocabulary.{RawStep, first_step, TYPES_LIMIT, is_event_line, AllByRecursion}
use Rattle.std.specs.Prelude.{slice_get, IfOk, IfErr}
use Rattle.crx_compact.specs.meaning.Compaction.{since_full}
use Rattle.crx_compact.specs.Laws.{AreWhole}
use Rattle.crx_laws.specs.BorrowedLines.{AreReadable, HasGiven, IsFaultAt}
use Rattle.crx_compact.specs.Tails.{tail_of, tail_or_nothing}
use Rattle.crx_compact.specs.OpenEpochs.{ColumnsState, Faulty, Going, HasMade, HeldEpoch, Idle, Reading}
use Rattle.crx_compact.specs.OpenEpochs.{Whole, is_idle, place_by_steps, place_of_steps, step_in}
use Rattle.crx_compact.proofs.anywriter.OurReading.{steps-read_back}
use Rattle.crx_compact.proofs.wayback.LinesInFiles.{lines-short, lines-stand}

-- an epoch is open, and reading all lines is reading the remaining lines from it; the remaining lines may be read if
-- all lines may
pub record IsMidway (place : Place HeldEpoch) (state : ColumnsState)
    (all lines : List (List ℕ)) : Type 0 where
  pub begun : OpenRawEpoch
  pub count : ℕ
  pub reading : state ≡ Reading begun
  pub left : place ≡ place_of_steps count (Going begun) (map Content lines)
  pub readable : AreReadable all → AreReadable lines

pub none-is : (lines : List (List ℕ)) → None ≡ slice_get lines 0 → lines ≡ []
none-is [] e = refl
none-is (l ∷ ls) e = absurd (true≢false (sym (ap {B = Bool} (λ (o : Option (List ℕ)). is_some o) e)))

-- ---- the epoch line

begins : (types : List Count) (tail : Option Tail) (lines : List (List ℕ)) (line : List ℕ) (step : RawStep)
    → Some line ≡ slice_get lines 0 → first_step types tail (Content line) ≡ step
    → place_by_steps types tail (map Content lines) ≡ place_of_steps 0 step (map Content (drop 1 lines))
begins types tail lines line step e h = grind arith

pub midway-begun : (types : List Count) (tail : Option Tail)
    (lines rest : List (List ℕ)) (line : List ℕ) (after : ColumnsState) → Some line ≡ slice_get lines 0
    → HasMade (first_step types tail (Content line)) after None
    → rest ≡ drop 1 lines → IsMidway (place_by_steps types tail (map Content lines)) after lines rest
midway-begun types tail lines rest line after e made r = grind arith

-- ---- the lines after it

goes-on : (place : Place HeldEpoch) (state : ColumnsState) (all lines : List (List ℕ))
    (line : List ℕ) (step : RawStep) (w : IsMidway place state all lines) → Some line ≡ slice_get lines 0
    → step_in state (Content line) ≡ step → place ≡ place_of_steps (suc w.count) step
    (map Content (drop 1 lines))
goes-on place state all lines line step w e h = grind arith

pub midway-more : (place : Place HeldEpoch) (state after : ColumnsState)
    (all lines rest : List (List ℕ)) (line : List ℕ) → IsMidway place state all lines → Some line
    ≡ slice_get lines 0
    → HasMade (step_in state (Content line)) after None → rest ≡ drop 1 lines → IsMidway place after all rest
midway-more place state after all lines rest line w e made r = grind arith

pub midway-whole : (place : Place HeldEpoch) (state after : ColumnsState) (all lines : List (List ℕ))
    (line : List ℕ) (epoch : Epoch) → IsMidway place state all lines → Some line ≡ slice_get lines 0
    → HasMade (step_in state (Content line)) after (Some epoch) → HasGiven place after (Some epoch)
midway-whole place state after all lines line epoch w e made =
    (made.0, suc (suc w.count), goes-on place state all lines line (Whole made.0) w e made.1, made.2, made.3)

pub midway-stands : (place : Place HeldEpoch) (state : ColumnsState) (all lines : List (List ℕ))
    (line : List ℕ) (fault : Fault) → IsMidway place state all lines → Some line ≡ slice_get lines 0
    → (step_in state (Content line) ≡ Faulty fault) ⊎ (fault ≡ OutOfMemory)
    → IsFaultAt place fault ⊎ (fault ≡ OutOfMemory)
midway-stands place state all lines line fault w e (inl h) =
    inl (suc w.count, goes-on place state all lines line (Faulty fault) w e h)
midway-stands place state all lines line fault w e (inr h) = inr h

pub midway-over : (place : Place HeldEpoch) (state : ColumnsState) (all lines : List (List ℕ))
    → IsMidway place state all lines → None ≡ slice_get lines 0 → place ≡ NeedsMore
midway-over place state all lines w e = cc (w.left, none-is lines e)

pub midway-idle : (place : Place HeldEpoch) (state : ColumnsState) (all lines : List (List ℕ))
    → IsMidway place state all lines → is_idle state ≡ false
midway-idle place state all lines w = ap is_idle w.reading

-- ---- what was written

abbrev stands : Place HeldEpoch → Bool
stands (Done h n) = true
stands p = false

written : (types : List Count) (tail : Option Tail) (lines : List (List ℕ)) (m : Marked) (older : List Marked)
    → AreWhole types (since_full (m ∷ older)) → lines ≡ compact_epoch (m ∷ older)
    → (m.in_full ≡ false → tail ≡ tail_or_nothing older) → place_by_steps types tail (map Content lines)
    ≡ Done (record { epoch = m.epoch; tail = tail_of (m ∷ older) }) (2 + length m.epoch.rows)
written types tail lines m older h e k = cc (e, steps-read_back types m older tail h k)

-- each of them may be read
all-readable : (lines : List (List ℕ)) → AllByRecursion (λ (line : List ℕ). length line ≤ 18
    * TYPES_LIMIT) lines
    → AllByRecursion (λ (line : List ℕ). is_event_line line ≡ false) lines → AreReadable lines
all-readable [] short no_event = tt
all-readable (line ∷ lines) short no_event = grind (arith, all-readable lines short.1 no_event.1)

readable-lines : (types : List Count) (lines : List (List ℕ)) (m : Marked) (older : List Marked)
    → AreWhole types (since_full (m ∷ older)) → lines ≡ compact_epoch (m ∷ older) → AreReadable lines
readable-lines types lines m older h e = grind (
  arith,
  all-readable (compact_epoch (m ∷ older)) (lines-short types m.in_full m.epoch older h)
      (lines-stand types m.in_full m.epoch older h).no_event,
)

pub back-given : (result : Result (Option Epoch) Fault) (types : List Count)
    (tail : Option Tail) (lines : List (List ℕ)) (after : ColumnsState) (m : Marked) (older : List Marked)
    → IfOk result (λ given. HasGiven (place_by_steps types tail (map Content lines)) after given)
    → AreWhole types (since_full (m ∷ older)) → lines ≡ compact_epoch (m ∷ older)
    → (m.in_full ≡ false → tail ≡ tail_or_nothing older)
    → IfOk result (λ given. (given ≡ Some m.epoch) × (after ≡ Idle (tail_or_nothing (m ∷ older))))
back-given (Err fault) types tail lines after m older given h e k = given
back-given (Ok None) types tail lines after m older given h e k =
    absurd (true≢false (sym (ap stands (written types tail lines m older h e k)) ∙ ap stands given))
back-given (Ok (Some epoch)) types tail lines after m older given h e k =
    grind (arith, written types tail lines m older h e k, given.2)

pub back-refused : (result : Result (Option Epoch) Fault)
    (types : List Count) (tail : Option Tail) (lines : List (List ℕ)) (m : Marked) (older : List Marked)
    → (AreReadable lines → IfErr result (λ fault. IsFaultAt
    (place_by_steps types tail (map Content lines)) fault
    ⊎ (fault ≡ OutOfMemory))) → AreWhole types (since_full (m ∷ older)) → lines ≡ compact_epoch (m ∷ older)
    → (m.in_full ≡ false → tail ≡ tail_or_nothing older) → IfErr result (λ fault. fault ≡ OutOfMemory)
back-refused (Ok given) types tail lines m older refused h e k =
    refused (readable-lines types lines m older h e)
back-refused (Err fault) types tail lines m older refused h e k =
    only (refused (readable-lines types lines m older h e))
  where
    only : IsFaultAt (place_by_steps types tail (map Content lines)) fault ⊎ (fault ≡ OutOfMemory) → fault
        ≡ OutOfMemory
    only (inl s) = absurd (true≢false (sym (ap stands (written types tail lines m older h e k))
        ∙ ap stands s.1))
    only (inr q) = q
