-- The steps of a reader, line by line, agree with reading all lines so far at once.
use Rattle.crx_compact.proofs.Vocabulary.{◌≡◌, Satellite, rows_read, tail_named, opened_raw, held_after}
use Rattle.crx_compact.proofs.Vocabulary.{refl, List, [], arith, Fault, Count, Place, Fails, padded}
use Rattle.crx_compact.proofs.Vocabulary.{rules, ℕ, Result, Content, ReadRow, ArcTail, RowTail, RawStep}
use Rattle.crx_compact.proofs.Vocabulary.{opening, suc, patched, ReadLine, one_line, and_then, ReadCell, held_row}
use Rattle.crx_compact.proofs.Vocabulary.{row_step, ◌+◌, ◌∷◌, ◌++◌, map, Some, None, Ok, Err, sym, ◌∙◌, ap, Done}
use Rattle.crx_compact.proofs.Vocabulary.{Tail, length, clock_line_read, epoch_after_line, tail_for_line}
use Rattle.crx_compact.proofs.Vocabulary.{step_with_rows, Option, after_lines, epoch_begun, arc_of_code}
use Rattle.crx_compact.proofs.Vocabulary.{shown_value, common_steps, option_map, true≢false, then_place}
use Rattle.crx_compact.proofs.Vocabulary.{BegunEpoch, whole_epoch, tail_opened, take_all, map-map, shown_row}
use Rattle.crx_compact.proofs.Vocabulary.{HeldEpoch, with_rows, next_step, placed_as, satellite_line_read}
use Rattle.crx_compact.proofs.Vocabulary.{epoch_of_rows, whole_or_awaiting, raw_step_with_row, past_of_tail}
use Rattle.crx_compact.proofs.Vocabulary.{before_clock, place_of_step, append_assoc, length-append}
use Rattle.crx_compact.proofs.{placing.LookUps.at-seam, ShownRows.set-next}
use Rattle.crx_compact.proofs.{soundness.Soundness.{Paired, RowFacts, rows-facts}}
use Rattle.crx_compact.proofs.reading.PaddedRows.{row-opened, row-shows}
use Rattle.std.specs.Option.{is_some}
use Rattle.crx_compact.specs.OpenEpochs.{OpenRawEpoch, rows_before, raw_step_with_clock, place_of_steps}
use Rattle.crx_compact.specs.OpenEpochs.{first_step, open_raw_after, RawStep.Going}
use Rattle.crx_compact.specs.ReadingLaws.{is_wanted, StepsAgree, WantedWhereOpen, StepsFromOpen}
use Rattle.std.proofs.lemmas.Option.{slice_get_past}

-- ---- the satellite lines

abbrev tail_with : List ℕ → Option ArcTail → List RowTail → Tail
tail_with text arc rows = record { text = text; clock = arc; rows = rows }

-- the epoch that the rows so far make with those read after them
abbrev rows_placed : Tail → List ℕ → Option ArcTail → List RowTail → Place (List ReadRow) → Place HeldEpoch
rows_placed before text arc rows p =
    placed_as (λ more. whole_epoch (tail_with text arc (rows ++ map (held_row before) more))) p

abbrev row_onto : ReadRow → List ReadLine → Place (List ReadRow) → Place (List ReadRow)
row_onto read lines p = then_place p lines (λ more rest. Done (read ∷ more) 0)

one-more : (before : Tail) (text : List ℕ) (arc : Option ArcTail)
    (rows : List RowTail) (read : ReadRow) (lines : List ReadLine) (count : ℕ) (p : Place (List ReadRow))
    → after_lines (suc (suc count)) (rows_placed before text arc (rows ++ held_row before read ∷ []) p)
    ≡ after_lines (suc count) (rows_placed before text arc rows (after_lines 1 (row_onto read lines p)))
one-more before text arc rows read lines count p = grind (arith, common_steps, append_assoc)

-- the lines of the expected satellites, one step each
abbrev StepsRead : Tail → List ℕ → Option ArcTail → List RowTail → List Satellite → ℕ → List ReadLine → Type 0
StepsRead before text arc rows awaited count lines =
    place_of_steps count
    (step_with_rows (tail_with text arc (rows ++ rows_before before awaited)) (length rows)) lines
    ≡ after_lines (suc count) (rows_placed before text arc rows
    (rows_read (past_of_tail before) awaited lines))

rows-steps : (before : Tail) (text : List ℕ) (arc : Option ArcTail) (rows : List RowTail)
    (awaited : List Satellite) (count : ℕ) (lines : List ReadLine)
    → StepsRead before text arc rows awaited count lines
rows-steps before text arc rows [] count lines = grind (arith, common_steps, tail_with, slice_get_past)
rows-steps before text arc rows (s ∷ ss) count (Content line ∷ lines) =
    let tail : Tail = tail_with text arc (rows ++ rows_before before (s ∷ ss)) in
    let there = at-seam rows (rows_before before ss) (padded s (tail_named s.name before)) in
    (λ j. place_of_steps count (whole_or_awaiting tail (length rows) (there j)) (Content line ∷ lines))
    ∙ (λ j. place_of_steps (suc count) (row_step (with_rows tail (length rows)) (there j) line) lines)
    ∙ (λ j. place_of_steps (suc count)
    (raw_step_with_row (with_rows tail (length rows)) (row-opened before s line j)) lines)
    ∙ step (satellite_line_read (past_of_tail before) s line)
    (λ read. rows-steps before text arc (rows ++ held_row before read ∷ []) ss (suc count) lines)
  where
    step : (r : Result ReadRow Fault)
        → ((read : ReadRow)
        → StepsRead before text arc (rows ++ held_row before read ∷ []) ss (suc count) lines)
        → place_of_steps (suc count) (raw_step_with_row
        (with_rows (tail_with text arc (rows ++ rows_before before (s ∷ ss))) (length rows))
        (and_then r (λ (read : ReadRow). Ok (held_row before read)))) lines
        ≡ after_lines (suc count) (rows_placed before text arc rows (then_place (one_line r)
        (Content line ∷ lines) (λ row more. row_onto row more (rows_read (past_of_tail before) ss more))))
    step (Err q) next = ap {B = Place HeldEpoch} (λ k. Fails k q) (omega arith)
    step (Ok read) next =
        let left : RowTail = held_row before read in
        let many : suc (length rows) ≡ length (rows ++ left ∷ []) = search (rules, length-append) in
        let set = set-next rows (rows_before before ss) (padded s (tail_named s.name before)) left in
        let more = rows_read (past_of_tail before) ss lines in
        cc (next read, one-more before text arc rows read lines count more)
rows-steps before text arc rows (s ∷ ss) count lines = grind (arith, at-seam)

-- ---- the clock line and the epoch line

abbrev read_begun : Tail → List ℕ → List Satellite → BegunEpoch
read_begun before line satellites =
    record { line = line; past = past_of_tail before; satellites = satellites }

-- rows are shown by their tails
rows-shown : (before : Tail) (satellites : List Satellite) (lines : List (List ℕ)) (rows : List ReadRow)
    → Paired (RowFacts (past_of_tail before)) satellites lines rows
    → map (λ (r : ReadRow). r.row) rows ≡ map shown_row (map (held_row before) rows)
rows-shown before (s ∷ ss) (l ∷ ls) (r ∷ rs) h = cc
    (row-shows before s l r h.0, rows-shown before ss ls rs h.1)
rows-shown before satellites lines rows h = grind arith

-- a clock is shown by its tail
clock-shown : (before : Tail) (line : List ℕ) (cell : ReadCell) → clock_line_read (past_of_tail before) line
    ≡ Ok cell → shown_value (arc_of_code cell.code before.clock) ≡ cell.value
clock-shown before line cell e = grind (arith, common_steps)

read_rows-held : (before : Tail) (line : List ℕ) (satellites : List Satellite) (cell : ReadCell)
    (tail : Option Tail) (lines : List ReadLine) (p : Place (List ReadRow)) → tail_for_line tail line
    ≡ Some before → shown_value (arc_of_code cell.code before.clock) ≡ cell.value → rows_read
    (past_of_tail before) satellites lines ≡ p → placed_as (held_after tail) (after_lines 1 (after_lines 1
    (then_place p lines (λ rows rest. Done (epoch_of_rows (read_begun before line satellites) cell rows) 0))))
    ≡ after_lines 2 (rows_placed before (patched before.text line) (arc_of_code cell.code before.clock) [] p)
read_rows-held before line satellites cell tail lines (Done rows n) h clock e =
    grind (arith, common_steps, rows-facts, map-map, take_all, rows-shown)
read_rows-held before line satellites cell tail lines p h clock e = grind arith

clock-steps : (before : Tail) (line : List ℕ) (satellites : List Satellite)
    (tail : Option Tail) (lines : List ReadLine) → tail_for_line tail line ≡ Some before
    → placed_as (held_after tail) (after_lines 1 (epoch_after_line (read_begun before line satellites) lines))
    ≡ place_of_steps 0 (Going (before_clock (tail_opened before line satellites))) lines
clock-steps before line satellites tail (Content text ∷ lines) h =
    step (clock_line_read (past_of_tail before) text) refl
  where
    step : (r : Result ReadCell Fault) → clock_line_read (past_of_tail before) text ≡ r
        → placed_as (held_after tail) (after_lines 1 (then_place (one_line r) (Content text ∷ lines)
        (λ clock others. then_place (rows_read (past_of_tail before) satellites others) others
        (λ rows rest. Done (epoch_of_rows (read_begun before line satellites) clock rows) 0))))
        ≡ place_of_steps 1 (raw_step_with_clock (before_clock (tail_opened before line satellites)) r) lines
    step (Err q) e = refl
    step (Ok cell) e = read_rows-held before line satellites cell tail lines (rows_read
        (past_of_tail before) satellites lines) h (clock-shown before text cell e) refl ∙ sym (rows-steps
        before (patched before.text line) (arc_of_code cell.code before.clock) [] satellites 1 lines)
clock-steps before line satellites tail lines h = refl

pub steps-agree : (types : List Count) (tail : Option Tail) (lines : List ReadLine)
    → StepsAgree types tail lines
steps-agree types tail (Content line ∷ lines) = by_tail _ refl
  where
    by_line : (before : Tail) (r : Result (List Satellite) Fault) → tail_for_line tail line ≡ Some before →
        placed_as (held_after tail) (then_place (one_line (and_then r (λ ss. Ok (read_begun before line ss))))
        (Content line ∷ lines) (λ b others. epoch_after_line b others))
        ≡ place_of_steps 0 (opening (and_then r (λ ss. Ok (before_clock (tail_opened before line ss))))) lines
    by_line before (Err q) h = refl
    by_line before (Ok satellites) h = clock-steps before line _ tail lines h

    by_tail : (t : Option Tail) → tail_for_line tail line ≡ t → placed_as (held_after tail)
        (then_place (one_line (epoch_begun types line (option_map past_of_tail t))) (Content line ∷ lines)
        (λ b others. epoch_after_line b others)) ≡ place_of_steps 0 (opening (opened_raw types line t)) lines
    by_tail None h = refl
    by_tail (Some before) h = by_line before _ h
steps-agree types tail lines = refl

-- ---- the open epoch

wanted-steps : (count : ℕ) (s : RawStep) (lines : List ReadLine)
    → is_wanted (place_of_steps count s lines) ≡ is_some (open_raw_after s lines)
wanted-steps count (Going begun) (line ∷ lines) = wanted-steps (suc count) (next_step begun line) lines
wanted-steps count s lines = refl

wanted-placed : {X Y : Type 0} (f : X → Y) (p : Place X) → is_wanted (placed_as f p) ≡ is_wanted p
wanted-placed f p = grind arith

pub wanted-where_open : (types : List Count) (tail : Option Tail) (lines : List ReadLine)
    → WantedWhereOpen types tail lines
wanted-where_open types tail [] = refl
wanted-where_open types tail (line ∷ lines) =
    cc (wanted-placed (held_after tail) _, steps-agree types tail (line ∷ lines), wanted-steps 0 _ lines)

-- one more step, if the lines so far make an open epoch
step-more : (count : ℕ) (s : RawStep) (lines : List ReadLine) (line : ReadLine) (begun : OpenRawEpoch)
    → open_raw_after s lines ≡ Some begun → (place_of_steps count s (lines ++ line ∷ [])
    ≡ place_of_step (suc (count + length lines)) (next_step begun line))
    × (open_raw_after s (lines ++ line ∷ []) ≡ open_raw_after (next_step begun line) [])
step-more count (Going so_far) (l ∷ ls) line begun h =
    let rest = step-more (suc count) (next_step so_far l) ls line begun h in (search (rules, rest.0), rest.1)
step-more count s lines line begun h = grind arith

pub steps-from_open : StepsFromOpen
steps-from_open types tail [] line begun h = absurd (true≢false (sym (ap is_some h)))
steps-from_open types tail (l ∷ ls) line begun h =
    let more = step-more 0 (first_step types tail l) ls line begun h in
    grind (arith, steps-agree types tail (l ∷ (ls ++ line ∷ [])), more)
