-- The faults of an epoch of compact text can all be skipped.
use Rattle.crx_filter.proofs.Vocabulary
use Vocabulary.{common_steps, arith, ℕ, ℤ, suc, ◌≡◌, Bool, true, List, [], ◌∷◌, Option, Result, Ok, Err, ⊤}
use Vocabulary.{list_all, is_blank, ReadLine, Fault, LineTooLong, Count, Place, Fails, then_place, one_line}
use Vocabulary.{first_line, BegunEpoch, cell_read, satellite_line_read, rows_read, epoch_after_line, epoch_at}
use Vocabulary.{Satellite, RawEpoch, block_of, Past, past_of_block, and_then, is_skippable, as_observation}
use Rattle.crx_compact.{proofs.EpochLines.satellites_counted, specs.meaning.Cells.cells_read}
use Rattle.crx_compact.specs.meaning.{EpochText.{satellites_named, names_in}, Sequences.before_all}
use Rattle.{crx_filter.proofs.reading.UnitsAtLines.chosen, crx_text.specs.declared.code.Code.Code}

-- ---- results and places whose faults pass a test

abbrev pub FaultsPass : {X : Type 0} → (Fault → Bool) → Result X Fault → Type 0
FaultsPass test (Ok x) = ⊤
FaultsPass test (Err fault) = test fault ≡ true

abbrev pub FaultsPassAt : {X : Type 0} → (Fault → Bool) → Place X → Type 0
FaultsPassAt test (Fails offset fault) = test fault ≡ true
FaultsPassAt test p = ⊤

module _ (test : Fault → Bool) where
  pub place-then : {X Y : Type 0} (p : Place X) (lines : List ReadLine) (next : X → List ReadLine → Place Y)
      → FaultsPassAt test p → ((x : X) (ls : List ReadLine) → FaultsPassAt test (next x ls))
      → FaultsPassAt test (then_place p lines next)
  place-then p lines next a b = grind (arith, common_steps)

  pub place-first : test LineTooLong ≡ true → {X : Type 0} (lines : List ReadLine) (read : List ℕ → Result
      X Fault) → ((line : List ℕ) → FaultsPass test (read line)) → FaultsPassAt test (first_line lines read)
  place-first long e read a = grind (arith, common_steps)

  pub place-observation : {E : Type 0} (p : Place E) → FaultsPassAt test p
      → FaultsPassAt test (as_observation p)
  place-observation v1 a = grind (arith)

-- ---- results and places whose faults can be skipped

abbrev IsSkippableResult : {X : Type 0} → Result X Fault → Type 0
IsSkippableResult r = FaultsPass is_skippable r

abbrev pub IsSkippableAt : {X : Type 0} → Place X → Type 0
IsSkippableAt p = FaultsPassAt is_skippable p

skippable-and_then : {X Y : Type 0} (r : Result X Fault) (f : X → Result Y Fault)
    → IsSkippableResult r → ((x : X) → IsSkippableResult (f x)) → IsSkippableResult (and_then r f)
skippable-and_then v1 f a b = grind (arith)

skippable-before : {X : Type 0} (x : X) (r : Result (List X) Fault)
    → IsSkippableResult r → IsSkippableResult (before_all x r)
skippable-before x v1 a = grind (arith)

-- ---- an epoch's lines

-- earlier epochs refuse the lines of an epoch only with faults that can be skipped
record IsSkippablePast (past : Past) : Type 0 where
  clock : (code : Code) → IsSkippableResult (past.clock code)
  value : (name : List ℕ) (place : ℕ) (code : Code) → IsSkippableResult (past.value name place code)

block-skippable : (block : List RawEpoch) → IsSkippablePast (past_of_block block)
block-skippable block = search (arith)

named-skippable : (types : List Count) (earlier names : List (List ℕ))
    → IsSkippableResult (satellites_named types earlier names)
named-skippable types earlier [] = tt
named-skippable types earlier (name ∷ names) =
    grind (arith, common_steps, skippable-before, named-skippable types (name ∷ earlier) names)

counted-skippable : (types : List Count) (text : List ℕ) (count : Option ℕ)
    → IsSkippableResult (satellites_counted types text count)
counted-skippable types text count =
    grind (arith, common_steps, chosen, list_all, is_blank, satellites_named, names_in, named-skippable)

-- an epoch line that was read, by the earlier epochs
abbrev IsBegunWell : Result BegunEpoch Fault → Type 0
IsBegunWell (Ok begun) = IsSkippablePast begun.past
IsBegunWell (Err fault) = is_skippable fault ≡ true

begun-well : (line : List ℕ) (past : Past)
    → IsSkippablePast past → (r : Result (List Satellite) Fault) → IsSkippableResult r → IsBegunWell
    (and_then r (λ satellites. Ok (record { line = line; past = past; satellites = satellites })))
begun-well line past h v1 a = grind (arith)

cell-skippable : (malformed : Fault) (value : Code → Result (Option ℤ) Fault) (code : Option Code)
    → is_skippable malformed ≡ true
    → ((c : Code) → IsSkippableResult (value c)) → IsSkippableResult (cell_read malformed value code)
cell-skippable malformed value v1 a b = grind (arith, skippable-and_then)

cells-skippable : (value : ℕ → Code → Result (Option ℤ) Fault) → ((place : ℕ) (c : Code) → IsSkippableResult
    (value place c)) → (texts : List (List ℕ)) → IsSkippableResult (cells_read value texts)
cells-skippable value h [] = tt
cells-skippable value h (text ∷ texts) =
    let rest = cells-skippable (λ place. value (suc place)) (λ place c. h (suc place) c) texts in
    search (skippable-and_then, cell-skippable, skippable-before, rest)

row_line-skippable : (past : Past) → IsSkippablePast past
    → (satellite : Satellite) (line : List ℕ) → IsSkippableResult (satellite_line_read past satellite line)
row_line-skippable past h satellite line = grind (arith, common_steps, skippable-and_then, cells-skippable)

rows_read-skippable : (past : Past) → IsSkippablePast past
    → (satellites : List Satellite) (lines : List ReadLine) → IsSkippableAt (rows_read past satellites lines)
rows_read-skippable past h [] lines = tt
rows_read-skippable past h (satellite ∷ satellites) lines =
    let rest = rows_read-skippable past h satellites in
    search (place-then, place-first, row_line-skippable, rest)

begun_line-skippable : (r : Result BegunEpoch Fault) → IsBegunWell r → (lines : List ReadLine)
    → IsSkippableAt (then_place (one_line r) lines (λ begun others. epoch_after_line begun others))
begun_line-skippable v1 h lines = grind (arith, place-then, place-first, cell-skippable, rows_read-skippable)

pub epoch-skippable : (types : List Count) (older : List RawEpoch) (lines : List ReadLine)
    → IsSkippableAt (epoch_at types older lines)
epoch-skippable types older lines = grind
    (arith, common_steps, begun_line-skippable, begun-well, counted-skippable, block-skippable, block_of)
