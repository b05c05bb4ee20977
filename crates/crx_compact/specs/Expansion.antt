-- Further definitions for code and proofs, after meaning/Expansion.
use Rattle.std.specs.Prelude.{ℕ, ◌*◌, ℤ, List, ◌∷◌, map, length, Option, Result, Ok, [], Err}
use Rattle.crx_text.specs.meaning.Columns.{columns}
use Rattle.crx_rinex.specs.meaning.Observations.{Row, Epoch}
use Rattle.crx_base.specs.declared.fault.Fault.{Fault}
use Rattle.crx_base.specs.declared.limits.TheConstants.{OBSERVATION_WIDTH, CLOCK_WIDTH, HEAD_WIDTH}
use Rattle.crx_text.specs.meaning.EachPlace.{each_place}
use Rattle.crx_compact.specs.meaning.Sequences.{and_then, before_all}
use Rattle.crx_compact.specs.meaning.Expansion.{RawRow, RawEpoch, block_of, overlaid, raw_run_of, marks_of, code_in}
use Rattle.crx_compact.specs.meaning.ArcValues.{value_of}

-- all items, or the first error
abbrev pub all_ok : {X E : Type 0} → List (Result X E) → Result (List X) E
all_ok [] = Ok []
all_ok (Err e ∷ rs) = Err e
all_ok (Ok x ∷ rs) = before_all x (all_ok rs)

-- ---- texts

-- the epoch text of a block's newest epoch
abbrev pub text_of : List RawEpoch → List ℕ
text_of block = overlaid (map (λ (e : RawEpoch). e.line) block)

-- the indicators of a run's newest epoch, for `count` types
abbrev pub indicators_of : ℕ → List RawRow → List ℕ
indicators_of count run = columns (overlaid (marks_of run)) 1 (2 * count)

-- ---- values

abbrev pub value_in_run : List RawRow → ℕ → Result (Option ℤ) Fault
value_in_run run place = value_of OBSERVATION_WIDTH (map (code_in place) run)

-- ---- epochs

-- the row of a run's newest line
abbrev pub row_from : List RawRow → RawRow → Result Row Fault
row_from run raw =
    and_then (all_ok (each_place (length raw.codes) (value_in_run run))) (λ values.
    Ok (record { name = raw.name; values = values; flags = indicators_of (length raw.codes) run }))

abbrev pub clock_from : List RawEpoch → Result (Option ℤ) Fault
clock_from block = value_of CLOCK_WIDTH (map (λ (e : RawEpoch). e.clock) block)

abbrev pub rows_from : List RawEpoch → List RawRow → Result (List Row) Fault
rows_from block rows = all_ok (map (λ (r : RawRow). row_from (raw_run_of r.name block) r) rows)

-- the epoch that the newest raw epoch of a block stands for, or the first fault of its values
abbrev pub epoch_of_block : List RawEpoch → RawEpoch → Result Epoch Fault
epoch_of_block block raw =
    and_then (clock_from block) (λ clock.
    and_then (rows_from block raw.rows) (λ rows.
    Ok (record { head = columns (text_of block) 1 HEAD_WIDTH; clock = clock; rows = rows })))

-- the epoch that a raw epoch stands for after older ones
abbrev pub epoch_from : RawEpoch → List RawEpoch → Result Epoch Fault
epoch_from raw older = epoch_of_block (block_of (raw ∷ older)) raw
