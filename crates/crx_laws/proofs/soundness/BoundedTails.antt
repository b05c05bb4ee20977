-- The state after epochs is within the limits.
use Rattle.crx_filter.proofs.Vocabulary.{ℕ, suc, ◌-◌, ℤ, List, [], ◌∷◌, length, map, Option, AllByRecursion, arith}
use Rattle.crx_filter.proofs.Vocabulary.{length-map, Row, Count, Marked}
use Rattle.std.specs.Prelude.{min, IfSome}
use Rattle.crx_base.specs.declared.limits.TheConstants.{WRITTEN_ORDER}
use Rattle.crx_compact.specs.meaning.Differences.{difference}
use Rattle.crx_compact.specs.meaning.Compaction.{epoch_text, run_of, arc_of, clock_arc}
use Rattle.crx_compact.specs.ArcTails.{ArcTail, arc_tail, IsBoundedArc}
use Rattle.crx_compact.specs.Tails.{row_tail, IsBoundedRowTail}
use Rattle.crx_compact.specs.Laws.{WrittenAreBounded}
use Rattle.crx_text.proofs.EachPlace.{each_place-all, length-each_place}
use Rattle.crx_compact.proofs.wayback.LinesInFiles.{few-satellites, text-short}
use Rattle.crx_compact.proofs.wayback.WritableEpochs.{IsTypedRow, typed-rows}
use Rattle.crx_text.proofs.EndBlanks.{few_kept}
use Rattle.crx_rinex.proofs.ReadingBack.{name-length}

pub arc-bounded : (order : ℕ) (values : List ℤ) → IfSome (arc_tail order values) (IsBoundedArc order)
arc-bounded order [] = tt
arc-bounded order (a ∷ older) = grind (
  arith,
  length-each_place (suc (min (length (a ∷ older) - 1) order)) (λ i. difference i (a ∷ older)),
)

row-bounded : (types : List Count) (run : List Row) (r : Row)
    → IsTypedRow types r → IsBoundedRowTail WRITTEN_ORDER (row_tail run r)
row-bounded types run r h =
    let trimmed = few_kept r.flags in
    let many = length-each_place (length r.values) (λ j. arc_tail WRITTEN_ORDER (arc_of j run)) in
    record {
      name = name-length r h.0;
      flags = omega (arith, trimmed, h.0.paired, h.0.counted.1);
      few = omega (arith, many, h.0.counted.1);
      cells = each_place-all (λ (c : Option ArcTail). IfSome c (IsBoundedArc WRITTEN_ORDER)) (length r.values)
          (λ j. arc_tail WRITTEN_ORDER (arc_of j run)) (λ j. arc-bounded WRITTEN_ORDER (arc_of j run));
    }

rows-bounded : (types : List Count) (ms : List Marked) (rows : List Row)
    → AllByRecursion (IsTypedRow types) rows
    → AllByRecursion (IsBoundedRowTail WRITTEN_ORDER) (map (λ (r : Row). row_tail (run_of r.name ms) r) rows)
rows-bounded types ms [] h = tt
rows-bounded types ms (r ∷ rs) h = (row-bounded types (run_of r.name ms) r h.0, rows-bounded types ms rs h.1)

pub written-bounded : WrittenAreBounded
written-bounded types m older h =
    let trimmed = few_kept (epoch_text m.epoch) in
    let short = text-short types m.epoch h.0 in
    let few = few-satellites types m.epoch h.0 in
    let many = length-map m.epoch.rows (λ (r : Row). row_tail (run_of r.name (m ∷ older)) r) in
    record {
      text = omega (arith, trimmed, short);
      clock = arc-bounded WRITTEN_ORDER (clock_arc (m ∷ older));
      few = omega (arith, many, few);
      rows = rows-bounded types (m ∷ older) m.epoch.rows (typed-rows types m.epoch h.0);
    }
