-- The state after epochs that are read is within the limits.
use Rattle.crx_filter.proofs.Vocabulary.{◌≡◌, refl, ℕ, zero, suc, ◌+◌, ◌*◌, ◌≤◌, ◌<◌, ℤ, List, [], ◌∷◌}
use Rattle.crx_filter.proofs.Vocabulary.{length, map, take, Option, Some, None, Result, Ok, Err, ⊤}
use Rattle.crx_filter.proofs.Vocabulary.{AllByRecursion, sym, ◌∙◌, ap, subst, arith, length-map}
use Rattle.crx_filter.proofs.Vocabulary.{character_at, without_end_blanks, columns, code_of, ReadLine, Content}
use Rattle.crx_filter.proofs.Vocabulary.{Overlong, Fault, BadClock, Truncated, NAME_WIDTH, TYPES_LIMIT, Place}
use Rattle.crx_filter.proofs.Vocabulary.{Done, types_of_satellite, Count, and_then, begins_epoch, Satellite}
use Rattle.crx_filter.proofs.Vocabulary.{cell_read, clock_line_read, satellite_line_read, satellites_of_line, Tail}
use Rattle.crx_filter.proofs.Vocabulary.{OpenRawEpoch, RawStep, first_step, next_step, open_raw_after}
use Rattle.std.specs.Prelude.{slice_get, IfSome, slice_index_or, slice_set}
use Rattle.std.specs.Option.{option_map}
use Rattle.std.proofs.lemmas.List.{length-set, length-take}
use Rattle.std.proofs.lemmas.Option.{same_Some, slice_get_within}
use Rattle.crx_text.proofs.Characters.{length-columns}
use Rattle.crx_text.specs.meaning.Codes.{coded_number}
use Rattle.crx_text.specs.Texts.{patched}
use Rattle.crx_text.specs.declared.code.Code.{Code}
use Rattle.crx_text.specs.declared.code.Code.TheVariants.{Missing, Start, Step}
use Rattle.crx_base.specs.declared.limits.TheConstants.{ORDER_LIMIT, SATELLITES_LIMIT}
use Rattle.crx_header.specs.meaning.ObservationTypes.{IsAllowedCount}
use Rattle.crx_header.specs.ObservationTypes.{AreCounts}
use Rattle.crx_header.proofs.Counts.{allowed_of}
use Rattle.crx_compact.specs.meaning.Sequences.{named}
use Rattle.crx_compact.specs.meaning.Cells.{ReadCell}
use Rattle.crx_compact.specs.meaning.CompactPlaces.{ReadRow}
use Rattle.crx_compact.specs.ArcTails.{ArcTail, IsBoundedArc}
use Rattle.crx_compact.specs.Tails.{RowTail, IsBoundedRowTail, IsBoundedTail}
use Rattle.crx_compact.specs.Steps.{tail_named, cell_of_tail, flags_of_tail}
use Rattle.crx_compact.specs.ArcSteps.{onto_sum, differences_by, arc_of_code}
use Rattle.crx_compact.specs.HeldRows.{held_from, past_of_row, past_of_tail}
use Rattle.crx_compact.specs.Placing.{padded, satellite_of}
use Rattle.crx_compact.specs.OpenEpochs.{tail_for_line, HeldEpoch, OpenClock, Before, After, Going, Whole}
use Rattle.crx_compact.specs.OpenEpochs.{Faulty, arc_in, awaited_row, before_clock, line_step, opened_raw}
use Rattle.crx_compact.specs.OpenEpochs.{opening, past_of_clock, place_of_steps, raw_step_with_clock}
use Rattle.crx_compact.specs.OpenEpochs.{raw_step_with_row, row_step, rows_before, tail_opened, tail_so_far}
use Rattle.crx_compact.specs.OpenEpochs.{whole_or_awaiting, IsBoundedOpen, IsBoundedStep}
use Rattle.crx_compact.specs.ReadingLaws.{ReadAreBounded}
use Rattle.crx_text.proofs.EachPlace.{each_place-all, length-each_place}
use Rattle.crx_compact.proofs.SoundTexts.{length-held}
use Rattle.crx_compact.proofs.Vocabulary.{after_cells, cells_of}
use Rattle.crx_compact.proofs.soundness.WholeEpochs.{typed-parts}
use Rattle.crx_compact.proofs.soundness.Soundness.{AreReadCells, IsReadCell, RowFacts, line-facts, read-cell}
use Rattle.crx_compact.proofs.GoodResults.{if-err}
use Rattle.crx_compact.proofs.{EpochLines.{line-facts_of, named-few, names_of, text-few}}

-- ---- orders of codes that are read

abbrev HasOrder : Code → Type 0
HasOrder Missing = ⊤
HasOrder (Start order value) = order ≤ ORDER_LIMIT
HasOrder (Step number) = ⊤

step-ordered : (o : Option ℤ) → IfSome (option_map Step o) HasOrder
step-ordered None = tt
step-ordered (Some number) = tt

code-ordered : (text : List ℕ) → IfSome (code_of text) HasOrder
code-ordered [] = tt
code-ordered (c ∷ []) = step-ordered (coded_number (c ∷ []))
code-ordered (c ∷ d ∷ cs) = grind arith

cell-ordered : (value : Code → Result (Option ℤ) Fault) (text : List ℕ) (cell : ReadCell)
    → IsReadCell value text cell → HasOrder cell.code
cell-ordered value text cell h = subst (λ o. IfSome o HasOrder) h.coded (code-ordered text)

cells-ordered : (value : ℕ → Code → Result (Option ℤ) Fault) (texts : List (List ℕ)) (cells : List ReadCell)
    → AreReadCells value texts cells → AllByRecursion HasOrder (map (λ (c : ReadCell). c.code) cells)
cells-ordered value [] [] h = tt
cells-ordered value (t ∷ ts) (c ∷ cs) h =
    (cell-ordered (value 0) t c h.0, cells-ordered (λ j. value (suc j)) ts cs h.1)
cells-ordered value texts cells h = absurd h

-- ---- arcs

onto-few : (d : ℤ) (es : List ℤ) → length (onto_sum d es) ≤ suc (length es)
onto-few d [] = omega arith
onto-few d (e ∷ es) = omega arith

differences-few : (number : ℤ) (ds : List ℤ) → length (differences_by number ds) ≤ suc (length ds)
differences-few number [] = omega arith
differences-few number (d ∷ ds) =
    let rest = differences-few number ds in
    let one = onto-few d (differences_by number ds) in
    omega (arith, rest, one)

arc-read : (code : Code) (arc : Option ArcTail) → HasOrder code → IfSome arc (IsBoundedArc ORDER_LIMIT)
    → IfSome (arc_of_code code arc) (IsBoundedArc ORDER_LIMIT)
arc-read Missing arc h k = tt
arc-read (Start order value) arc h k = record { order = h; few = omega arith }
arc-read (Step number) None h k = tt
arc-read (Step number) (Some arc) h k = grind (
  arith,
  differences-few number (take arc.order arc.differences),
  length-take arc.order arc.differences,
)

-- a property of all things of a list, and of the default
all-index : {X : Type 0} (P : X → Type 0) (d : X) (xs : List X) (place : ℕ)
    → P d → AllByRecursion P xs → P (slice_index_or xs place d)
all-index P d [] place h k = h
all-index P d (x ∷ xs) zero h k = k.0
all-index P d (x ∷ xs) (suc place) h k = all-index P d xs place h k.1

abbrev IsBoundedCell : Option ArcTail → Type 0
IsBoundedCell cell = IfSome cell (IsBoundedArc ORDER_LIMIT)

arc-kept : (place : ℕ) (row : Option RowTail)
    → IfSome row (IsBoundedRowTail ORDER_LIMIT) → IfSome (cell_of_tail place row) (IsBoundedArc ORDER_LIMIT)
arc-kept place None h = tt
arc-kept place (Some row) h = all-index IsBoundedCell None row.cells place tt h.cells

named-bounded : (name : List ℕ) (rows : List RowTail) → AllByRecursion (IsBoundedRowTail ORDER_LIMIT) rows
    → IfSome (named (λ (r : RowTail). r.name) name rows) (IsBoundedRowTail ORDER_LIMIT)
named-bounded name [] h = tt
named-bounded name (row ∷ rows) h = grind (arith, named-bounded name rows h.1)

-- ---- rows

-- the state of a satellite after its line
row-read : (row : RowTail) (line : List ℕ) (read : ReadRow) → IsBoundedRowTail ORDER_LIMIT row
    → RowFacts (past_of_row row.cells row.flags) (satellite_of row) line read
    → IsBoundedRowTail ORDER_LIMIT (held_from row.cells row.flags read)
row-read row line read h facts =
    let marks = after_cells (length row.cells) line in
    let texts = cells_of (length row.cells) line in
    let codes = map (λ (c : ReadCell). c.code) facts.cells in
    let many : length codes ≡ length row.cells =
    length-map facts.cells (λ (c : ReadCell). c.code) ∙ facts.counted in
    let most : length row.cells ≤ TYPES_LIMIT = h.few in
    let cell : ℕ → Option ArcTail = λ place. arc_of_code (slice_index_or codes place Missing)
    (slice_index_or row.cells place None) in
    subst (λ r. IsBoundedRowTail ORDER_LIMIT (held_from row.cells row.flags r)) facts.is_read (record {
      name = h.name;
      flags = omega (arith, most, many, length-held (length codes) (patched row.flags marks));
      few = omega (arith, length-each_place (length codes) cell, many, most);
      cells = each_place-all (λ (c : Option ArcTail). IfSome c (IsBoundedArc ORDER_LIMIT)) (length codes) cell
          (λ place. arc-read (slice_index_or codes place Missing) (slice_index_or row.cells place None)
          (all-index HasOrder Missing codes place tt (cells-ordered ((past_of_row row.cells row.flags).value
          row.name) texts facts.cells facts.are_read))
          (all-index IsBoundedCell None row.cells place tt h.cells));
    })

all-there : {X : Type 0} (P : X → Type 0) (xs : List X) (place : ℕ) (x : X)
    → AllByRecursion P xs → slice_get xs place ≡ Some x → P x
all-there P [] place x h e = cc
all-there P (y ∷ ys) zero x h e = subst P (same_Some y x e) h.0
all-there P (y ∷ ys) (suc place) x h e = all-there P ys place x h.1 e

all-set : {X : Type 0} (P : X → Type 0) (xs : List X) (place : ℕ) (x : X)
    → AllByRecursion P xs → P x → AllByRecursion P (slice_set xs place x)
all-set P [] place x h k = tt
all-set P (y ∷ ys) zero x h k = (k, h.1)
all-set P (y ∷ ys) (suc place) x h k = (h.0, all-set P ys place x h.1 k)

-- ---- steps

so-far-bounded : (begun : OpenRawEpoch) → IsBoundedOpen begun → IsBoundedTail ORDER_LIMIT (tail_so_far begun)
so-far-bounded begun h = record { text = h.text; clock = h.clock; few = h.few; rows = h.rows }

went-on : (tail : Tail) (count : ℕ) (row : Option RowTail)
    → IsBoundedTail ORDER_LIMIT tail → count ≤ length tail.rows
    → IsBoundedStep (whole_or_awaiting tail count row)
went-on tail count None h come = h
went-on tail count (Some row) h come =
    record { text = h.text; clock = h.clock; few = h.few; rows = h.rows; come = come }

clock-came : (begun : OpenRawEpoch) (line : List ℕ) (r : Result ReadCell Fault)
    → clock_line_read (past_of_clock (arc_in begun.clock)) line ≡ r
    → IsBoundedOpen begun → IsBoundedStep (raw_step_with_clock begun r)
clock-came begun line (Err fault) e h = tt
clock-came begun line (Ok cell) e h =
    let arc : Option ArcTail = arc_in begun.clock in
    let value = (past_of_clock arc).clock in
    let text = without_end_blanks line in
    let read = if-err (begins_epoch line) Truncated (cell_read BadClock value (code_of text)) cell e in
    let after = arc-read cell.code arc
    (cell-ordered value text cell (read-cell BadClock value text cell read))
    h.clock in
    went-on (record (tail_so_far begun) { clock = arc_of_code cell.code arc }) begun.count (awaited_row begun)
    (record { text = h.text; clock = after; few = h.few; rows = h.rows }) h.come

row-came : (begun : OpenRawEpoch) (row : RowTail) (line : List ℕ) (r : Result ReadRow Fault)
    → satellite_line_read (past_of_row row.cells row.flags) (satellite_of row) line ≡ r
    → IsBoundedOpen begun → awaited_row begun ≡ Some row → IsBoundedStep (raw_step_with_row begun
    (and_then r (λ (read : ReadRow). Ok (held_from row.cells row.flags read))))
row-came begun row line (Err fault) e h there = tt
row-came begun row line (Ok read) e h there =
    let left : RowTail = held_from row.cells row.flags read in
    let rows : List RowTail = slice_set begun.rows begun.count left in
    let same : length rows ≡ length begun.rows = length-set begun.rows begun.count left in
    let few : length begun.rows ≤ SATELLITES_LIMIT = h.few in
    let inside : begun.count < length begun.rows = slice_get_within begun.rows begun.count row there in
    let kept = all-there (IsBoundedRowTail ORDER_LIMIT) begun.rows begun.count row h.rows there in
    let made = row-read row line read kept (line-facts (past_of_row row.cells row.flags)
    (satellite_of row) line read e) in
    went-on (record (tail_so_far begun) { rows = rows }) (suc begun.count) (slice_get rows (suc begun.count))
    (record {
      text = h.text;
      clock = h.clock;
      few = omega (arith, same, few);
      rows = all-set (IsBoundedRowTail ORDER_LIMIT) begun.rows begun.count left h.rows made;
    }) (omega (arith, same, inside))

row-stepped : (begun : OpenRawEpoch) (row : Option RowTail) (line : List ℕ)
    → awaited_row begun ≡ row → IsBoundedOpen begun → IsBoundedStep (row_step begun row line)
row-stepped begun None line there h = so-far-bounded begun h
row-stepped begun (Some row) line there h = row-came begun row line
    (satellite_line_read (past_of_row row.cells row.flags) (satellite_of row) line) refl h there

line-came : (begun : OpenRawEpoch) (clock : OpenClock) (line : List ℕ)
    → begun.clock ≡ clock → IsBoundedOpen begun → IsBoundedStep (line_step begun clock line)
line-came begun (Before arc) line e h = clock-came begun line (clock_line_read (past_of_clock arc) line)
    (ap (λ (c : OpenClock). clock_line_read (past_of_clock (arc_in c)) line) e) h
line-came begun (After arc) line e h = row-stepped begun (awaited_row begun) line refl h

next-bounded : (begun : OpenRawEpoch) (line : ReadLine) → IsBoundedOpen begun
    → IsBoundedStep (next_step begun line)
next-bounded begun Overlong h = tt
next-bounded begun (Content line) h = line-came begun begun.clock line refl h

-- ---- the epoch line

-- the state of the satellites after an epoch line
rows-opened : (types : List Count) (before : Tail) (satellites : List Satellite)
    → AreCounts types → AllByRecursion (IsBoundedRowTail ORDER_LIMIT) before.rows
    → AllByRecursion (λ (s : Satellite). types_of_satellite types s.name ≡ Some s.count) satellites
    → AllByRecursion (λ (name : List ℕ). length name ≡ NAME_WIDTH) (names_of satellites)
    → AllByRecursion (IsBoundedRowTail ORDER_LIMIT) (rows_before before satellites)
rows-opened types before [] counts h known named = tt
rows-opened types before (s ∷ ss) counts h known named =
    let typed = typed-parts types s.name s.count known.0 in
    let P : Option ℕ → Type 0 = λ o. IfSome o IsAllowedCount in
    let allowed : IsAllowedCount s.count = subst P typed.found
    (allowed_of types (character_at s.name 1) counts) in
    let few : s.count ≤ TYPES_LIMIT = allowed.1 in
    let kept : Option RowTail = tail_named s.name before in (
      record {
        name = named.0;
        flags = omega (arith, few, length-held s.count (flags_of_tail kept));
        few = omega (arith, few, length-each_place s.count (λ k. cell_of_tail k kept));
        cells = each_place-all (λ (c : Option ArcTail). IfSome c (IsBoundedArc ORDER_LIMIT)) s.count
            (λ k. cell_of_tail k kept) (λ k. arc-kept k kept (named-bounded s.name before.rows h));
      },
      rows-opened types before ss counts h known.1 named.1,
    )

opened-bounded : (types : List Count) (before : Tail) (line : List ℕ) (r : Result (List Satellite) Fault)
    → AreCounts types → IsBoundedTail ORDER_LIMIT before
    → satellites_of_line types (past_of_tail before) line ≡ r
    → IsBoundedStep (opening (and_then r (λ satellites. Ok
    (before_clock (tail_opened before line satellites)))))
opened-bounded types before line (Err fault) counts h e = tt
opened-bounded types before line (Ok satellites) counts h e =
    let facts = line-facts_of types (past_of_tail before) line satellites e in
    let text = patched before.text line in
    let opened = length-map satellites (λ (s : Satellite). padded s (tail_named s.name before)) in
    record {
      text = text-few types before line satellites e;
      clock = h.clock;
      few = omega (arith, opened, named-few types before line satellites e);
      rows = rows-opened types before satellites counts h.rows facts.named.known
          (subst (λ (ns : List (List ℕ)). AllByRecursion (λ (name : List ℕ). length name ≡ NAME_WIDTH) ns)
          (sym facts.named.same) (each_place-all (λ (name : List ℕ). length name ≡ NAME_WIDTH) facts.count
          (λ k. columns text (42 + 3 * k) 3) (λ k. length-columns text (42 + 3 * k) 3)));
      come = omega arith;
    }

begun-bounded : (types : List Count) (tail : Option Tail) (line : List ℕ)
    → AreCounts types → IfSome tail (IsBoundedTail ORDER_LIMIT)
    → IsBoundedStep (opening (opened_raw types line tail))
begun-bounded types None line counts h = tt
begun-bounded types (Some before) line counts h =
    opened-bounded types before line (satellites_of_line types (past_of_tail before) line) counts h refl

first-bounded : (types : List Count) (tail : Option Tail) (line : ReadLine)
    → AreCounts types → IfSome tail (IsBoundedTail ORDER_LIMIT) → IsBoundedStep (first_step types tail line)
first-bounded types tail Overlong counts h = tt
first-bounded types tail (Content line) counts h =
    begun-bounded types (tail_for_line tail line) line counts (grind arith)

pub read-bounded : ReadAreBounded
read-bounded = record { first = first-bounded; next = next-bounded }

-- ---- all lines so far

pub open-bounded : (lines : List ReadLine) (step : RawStep)
    → IsBoundedStep step → IfSome (open_raw_after step lines) IsBoundedOpen
open-bounded [] (Going begun) h = h
open-bounded (line ∷ lines) (Going begun) h = open-bounded lines (next_step begun line)
    (next-bounded begun line h)
open-bounded lines step h = tt

-- the state after an epoch, if there is one at some lines
abbrev pub OfHeld : Place HeldEpoch → Type 0
OfHeld (Done held count) = IsBoundedTail ORDER_LIMIT held.tail
OfHeld p = ⊤

pub place-bounded : (lines : List ReadLine) (count : ℕ) (step : RawStep)
    → IsBoundedStep step → OfHeld (place_of_steps count step lines)
place-bounded [] count (Going begun) h = tt
place-bounded (line ∷ lines) count (Going begun) h =
    place-bounded lines (suc count) (next_step begun line) (next-bounded begun line h)
place-bounded lines count (Whole held) h = h
place-bounded lines count (Faulty fault) h = tt
