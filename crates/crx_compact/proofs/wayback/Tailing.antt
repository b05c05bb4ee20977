-- The tail of the epochs determines the next epoch's lines and the next tail: so an epoch is coded after others.
use Rattle.crx_compact.proofs.Vocabulary.{◌≡◌, text_difference, satellite_line, index-each_place, lines_after_tail}
use Rattle.crx_compact.proofs.Vocabulary.{refl, [], Option, Epoch, Marked, run_of, arc_of, tail_of, no_tail}
use Rattle.crx_compact.proofs.Vocabulary.{ℕ, ℤ, Bool, true, List, ◌∷◌, map, Some, Row, Tail, common_steps}
use Rattle.crx_compact.proofs.Vocabulary.{if◌then◌else◌, indicators_before, tail_written_after}
use Rattle.crx_compact.proofs.Vocabulary.{option_map, epoch_line, get_or_past, row_line_in, row_tail_in}
use Rattle.crx_compact.proofs.Vocabulary.{WRITTEN_ORDER, cell_of_tail, flags_of_tail, are_different, compact_epoch}
use Rattle.crx_compact.proofs.Vocabulary.{back_to, stretch, epoch_text, row_named, RowTail, tail_named, tail_after}
use Rattle.crx_compact.proofs.{Vocabulary.{arc_tail, rules, arith, IsSoundEpoch}, arcs.Arcs.{code-next, arc-next}}
use Rattle.crx_compact.proofs.{Lists.mapped-same, wayback.Rows.run-begins, Identifiers.each-own}
use Rattle.crx_compact.proofs.{wayback.Runs.{marked, named-made, rows_before}, SoundTexts.before-trimmed}
use Rattle.crx_compact.specs.{Tails.{row_tail, tail_or_nothing}, Laws.{EpochByTail}}

-- ---- a satellite in a tail

abbrev start : Bool → List Marked → Tail
start full older = if full then no_tail else tail_of older

tail-found : (name : List ℕ) (m : Marked) (older : List Marked) → tail_named name (tail_of (m ∷ older))
    ≡ option_map (row_tail (run_of name (m ∷ older))) (row_named name m.epoch.rows)
tail-found name m older = named-made (λ (r : Row). r.name) (λ (t : RowTail). t.name)
    (λ n r. row_tail (run_of n (m ∷ older)) r) (λ n r. refl) name m.epoch.rows

cell-left : (full : Bool) (name : List ℕ) (older : List Marked) (j : ℕ) → cell_of_tail j
    (tail_named name (start full older)) ≡ arc_tail WRITTEN_ORDER (arc_of j (rows_before full name older))
cell-left full name older j = grind (arith, common_steps, tail-found, index-each_place, get_or_past)

flags-left : (full : Bool) (older : List Marked) (r : Row)
    → text_difference (indicators_before (r ∷ rows_before full r.name older)) r.flags
    ≡ text_difference (flags_of_tail (tail_named r.name (start full older))) r.flags
flags-left full older r = grind (arith, common_steps, tail-found, before-trimmed)

-- ---- one row more

row-by_tail : (full : Bool) (e : Epoch) (older : List Marked) (r : Row)
    → row_named r.name e.rows ≡ Some r
    → (satellite_line (run_of r.name (marked full e ∷ older)) r ≡ row_line_in (start full older).rows r)
    × (row_tail (run_of r.name (marked full e ∷ older)) r ≡ row_tail_in (start full older).rows r)
row-by_tail full e older r own =
    search (rules, run-begins, code-next, cell-left, flags-left, arc-next)

-- ---- one epoch more

abbrev clocks_before : Bool → List Marked → List (Option ℤ)
clocks_before full older = map (λ (q : Epoch). q.clock)
    (map (λ (m : Marked). m.epoch) (if full then [] else back_to (λ (m : Marked). m.in_full) older))

pub epoch-by_tail : (m : Marked) (older : List Marked) → are_different m.epoch.rows ≡ true
    → EpochByTail m older
epoch-by_tail m older h =
    let full = m.in_full in
    let e = m.epoch in
    let ms = m ∷ older in
    let rows = (start full older).rows in
    let own = each-own (λ (r : Row). r.name) e.rows h in
    let code = code-next e.clock (clocks_before full older) in
    let arc = arc-next e.clock (clocks_before full older) in
    let lines = mapped-same (λ (r : Row). satellite_line (run_of r.name ms) r) (row_line_in rows)
    (λ r here. (row-by_tail full e older r here).0) e.rows own in
    let tails = mapped-same (λ (r : Row). row_tail (run_of r.name ms) r) (row_tail_in rows)
    (λ r here. (row-by_tail full e older r here).1) e.rows own in
    let clock : arc_tail WRITTEN_ORDER (stretch (clocks_before full older)) ≡ (start full older).clock =
    grind arith in
    let text : epoch_line m older ≡ text_difference (start full older).text (epoch_text e) =
    grind (arith, before-trimmed) in
    record { lines = cc; tail = cc }

-- ---- an epoch coded after others

pub lines-coded : (full : Bool) (epoch : Epoch) (held : Option Tail) (epochs : List Marked)
    → IsSoundEpoch epoch → held ≡ tail_or_nothing epochs
    → lines_after_tail (tail_written_after full held) epoch ≡ compact_epoch (marked full epoch ∷ epochs)
lines-coded full epoch held epochs h e =
    let made = epoch-by_tail (marked full epoch) epochs h.apart in grind (arith, made.lines)

pub tail-coded : (full : Bool) (epoch : Epoch) (held : Option Tail) (epochs : List Marked)
    → IsSoundEpoch epoch → held ≡ tail_or_nothing epochs
    → tail_after (tail_written_after full held) epoch ≡ tail_of (marked full epoch ∷ epochs)
tail-coded full epoch held epochs h e =
    let made = epoch-by_tail (marked full epoch) epochs h.apart in grind (arith, made.tail)
