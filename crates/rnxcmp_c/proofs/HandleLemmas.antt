-- A handle stays sound from call to call.
use Rattle.std.proofs.{lemmas.Grind.common_steps}
use Rattle.rnxcmp_c.proofs.PieceLemmas.{none-or}
use Rattle.rnxcmp_c.proofs.Vocabulary.{◌≡◌, ◌⊎◌, inl, inr, ℕ, ◌<◌, ◌≤◌, ◌-◌, List, [], ◌++◌, length, Option}
use Rattle.rnxcmp_c.proofs.Vocabulary.{Some, None, take, drop, refl, arith, append-nil, length-append, ⊎_elim}
use Rattle.rnxcmp_c.proofs.Vocabulary.{lines_of}
use Rattle.rnxcmp_c.proofs.Vocabulary.{ended_lines_of, ended_lines-come_first, Outcome, ReaderRuns, FeedsBy}
use Rattle.rnxcmp_c.proofs.Vocabulary.{HasEndedBy, HasFedBy, ReaderStands, BothTexts, rooms}
use Rattle.rnxcmp_c.proofs.Vocabulary.{StandsBy, FilterResult, answer_now, is_some, false, limit_for, FeedsBytes}
use Rattle.rnxcmp_c.proofs.Vocabulary.{HasFed}
use Rattle.rnxcmp_c.proofs.Vocabulary.{Task, Answer, AnyEngine, HandleState, Reader}
use Rattle.rnxcmp_c.specs.Handles.{IsFresh, IsOverWith, ReaderEndsBy, ReaderHasEnded, ReaderHasPassed}
use Rattle.rnxcmp_c.specs.Holding.{HoldsNothing}
use Rattle.rnxcmp_c.proofs.{GoingLemmas.early-weaker, ReaderLemmas.{ended-as, lawful-for}}

-- the lines with an LF are at most all lines
ended-within : (fed : List ℕ) → length (ended_lines_of fed) ≤ length (lines_of fed)
ended-within fed = grind (arith, common_steps, ended_lines-come_first fed, append-nil fed, length-append)

-- a reader that was fed or ended is in the state given by the bytes fed
fed-stands : (before : List ℕ) (task : Task) (reader : Reader) (fed : List ℕ) (taken : BothTexts)
    (outcome : Option Outcome) → HasFedBy before task reader fed taken outcome
    → StandsBy task reader fed taken outcome
fed-stands before task reader fed taken None runs = runs
fed-stands before task reader fed taken (Some outcome) over =
    ended-as (rw append-nil at (over [])) (λ result is. ⊎_elim (λ failed. inl failed.0)
    (λ early. inr (inl (early-weaker (λ n at. omega (arith, at.1, ended-within fed)) refl refl early))) is)

ended-stands : {P : FilterResult → Type 0} (task : Task) (reader : Reader) (fed : List ℕ) (taken : BothTexts)
    (outcome : Option Outcome) → HasEndedBy task P reader taken outcome
    → ((result : FilterResult) → P result → IsOverWith task fed reader.held result)
    → StandsBy task reader fed taken outcome
ended-stands = grind (arith, ended-as)

-- a run that hasn't ended continues
pub runs-where_none : (task : Task) (reader : Reader) (fed : List ℕ) (taken : BothTexts)
    (outcome : Option Outcome)
    → is_some outcome ≡ false → StandsBy task reader fed taken outcome → ReaderRuns task reader fed taken
runs-where_none = grind arith

pub fed-by : (task : Task) (old new : Reader) (fed : List ℕ) (taken : BothTexts) (bytes : List ℕ) (used : ℕ)
    (answer : Answer) (outcome : Option Outcome) → is_some outcome ≡ false
    → FeedsBytes task old new fed taken bytes used answer
    → FeedsBy task old new fed taken bytes used answer outcome
fed-by = grind arith

pub ended-by_none : (task : Task) (old new : Reader) (fed : List ℕ) (taken : BothTexts) (answer : Answer)
    (outcome : Option Outcome) → is_some outcome ≡ false → ReaderHasEnded task new fed taken
    → answer ≡ answer_now new
    → ReaderEndsBy task old new fed taken answer outcome
ended-by_none = grind arith

-- bytes were fed, or the input may have no more
pub either-fed : {task : Task} {old new : Reader} {fed : List ℕ} {taken : BothTexts} {bytes : List ℕ}
    {used : ℕ}
    {answer : Answer} → FeedsBytes task old new fed taken bytes used answer
    → HasFed fed task new (fed ++ take used bytes) taken
    ⊎ ((0 < length (drop used bytes)) × (fed ++ take used bytes ≡ fed)
    × ReaderHasPassed task new (fed ++ take used bytes) taken)
either-fed {task} {old} {new} {fed} {taken} {bytes} {used} feeds = grind (arith, common_steps, inl, none-or)

pub feeds-stands : (task : Task) (old new : Reader) (fed : List ℕ) (taken : BothTexts) (bytes : List ℕ)
    (used : ℕ)
    (answer : Answer) (outcome : Option Outcome) → ReaderStands task old fed taken
    → FeedsBy task old new fed taken bytes used answer outcome
    → ReaderStands task new (fed ++ take used bytes) taken
feeds-stands task old new fed taken bytes used answer None stands feeds =
    ⊎_elim (fed-stands fed task new _ taken new.outcome) (λ passed. ended-stands task new _ taken new.outcome
    passed.2 (λ result full. inr (inr full))) (either-fed feeds)
feeds-stands task old new fed taken bytes used answer (Some outcome) stands (misused, none, same) =
    rw (same, none, append-nil fed) stands

pub ends-stands : (task : Task) (old new : Reader) (fed : List ℕ) (taken : BothTexts) (answer : Answer)
    (outcome : Option Outcome) → ReaderStands task old fed taken
    → ReaderEndsBy task old new fed taken answer outcome
    → ReaderStands task new fed taken
ends-stands task old new fed taken answer None stands (ended, answers) =
    ended-stands task new fed taken new.outcome ended (λ result is. ⊎_elim (λ whole. inl whole)
    (λ early. inr (inl (early-weaker (λ n at. omega (arith, at)) refl refl early))) is)
ends-stands task old new fed taken answer (Some outcome) stands (misused, same) = rw same stands

-- before the first byte
pub fresh-stands : (task : Task) (engine : AnyEngine) (held : HandleState) (limit : ℕ) → IsFresh task engine
    → limit_for task ≡ limit → HoldsNothing limit held
    → ReaderRuns task (record { engine = engine; held = held; fed = 0; outcome = None }) [] (rooms [] [])
fresh-stands task engine held limit fresh limited nothing_held = grind (arith, lawful-for task)
