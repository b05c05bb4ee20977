use Rattle.crx_compact.proofs.Vocabulary.{◌≡◌, ◌<◌, ◌≤◌, ◌+◌, ◌-◌, ◌*◌, ◌++◌, ◌∷◌}
use Rattle.crx_compact.proofs.Vocabulary.{List, None, ℕ, sym, ◌∙◌, arith, []}
use Rattle.crx_compact.proofs.Vocabulary.{length, length-each_place, length-map}
use Rattle.crx_compact.proofs.Vocabulary.{map, take, get_or, shown_value, Option}
use Rattle.crx_compact.proofs.{CellsFor.{value-there}, PlaceByPlace.print-on}
use Rattle.std.specs.Prelude.{slice_index, ℤ}
use Rattle.std.proofs.{lemmas.Grind.get_or_default_zero}
use Rattle.crx_text.specs.meaning.Numbers.{observation_text}
use Rattle.crx_compact.specs.ArcTails.{ArcTail}
use Rattle.crx_compact.specs.{Placing.cells_for, ShownRows.AreFirstPrinted}
use Rattle.crx_compact.proofs.satellite.print_cells.Goals as goal

next : (arcs : List (Option ArcTail)) (count k at : ℕ) (flags old new after : List ℕ)
    (arc : Option ArcTail) (value : Option ℤ) → k < length arcs → length arcs ≤ count
    → length flags ≡ 2 * count → arc ≡ get_or arcs k arc → value ≡ shown_value arc
    → take (at + 16 * k + 16) after ≡ take (at + 16 * k) new
    ++ (observation_text value ++ slice_index flags (2 * k) ∷ slice_index flags (2 * k + 1) ∷ [])
    → AreFirstPrinted k count (map shown_value (cells_for count arcs)) flags at old new
    → AreFirstPrinted (k + 1) count (map shown_value (cells_for count arcs)) flags at old after
next arcs count k at flags old new after arc value here all paired is shown put made =
    let many : length (map shown_value (cells_for count arcs)) ≡ count =
    grind (arith, length-map, length-each_place) in
    let there : get_or (map shown_value (cells_for count arcs)) k None ≡ value =
    value-there arcs count k arc is here all ∙ sym shown in
    let from : at + 16 * (k + 1) ≡ at + 16 * k + 16 = omega arith in
    rw from (print-on _ flags (take (at + 16 * k) new) _ _ count k many (omega (arith, here, all))
    (rw (
      there,
      get_or_default_zero flags (2 * k) 32 (omega (arith, here, all, paired)),
      get_or_default_zero flags (2 * k + 1) 32 (omega (arith, here, all, paired)),
    ) put) made)

pub loop-pair-preserved : goal.loop-pair-preserved
loop-pair-preserved c =
    let k : ℕ = 2 * c.loop-pair.pair in
    let from : ℕ = c.args.at + 16 * k in
    let within : k + 1 < length c.args.arcs.now = omega (arith, c.loop-pair-test.true) in
    let behind : from + 16 ≡ c.args.at + 16 * (k + 1) = omega arith in
    let more : 2 * (c.loop-pair.pair + 1) ≡ k + 1 + 1 = omega arith in
    record {
      cells = λ count paired all.
          let first =
          next c.args.arcs.now count k c.args.at c.args.flags.now _ _ c.obs_print_cell.new.bytes
          c.index-arcs-index.result c.value.result (omega (arith, within)) all paired c.index-arcs-index.is
          c.value.ensures.value c.obs_print_cell.ensures.written
          (c.loop-pair.invariant.cells count paired all) in
          rw more (next c.args.arcs.now count (k + 1) c.args.at c.args.flags.now _ _
          c.obs_print_cell-in-loop-pair.new.bytes c.index-arcs-other.result
          c.value-in-loop-pair.result within all
          paired c.index-arcs-other.is c.value-in-loop-pair.ensures.value
          (rw behind at c.obs_print_cell-in-loop-pair.ensures.written) first);
      long = omega arith;
    }

pub returns-clause-put : goal.returns-clause-put
returns-clause-put c = λ count paired all.
    let last : ℕ = length c.args.arcs.now - 1 in
    let done : 2 * c.loop-pair.pair ≡ last = omega (arith, c.loop-pair-test.false, c.if-arcs-eq0.false) in
    let more : length c.args.arcs.now ≡ last + 1 = omega (arith, c.if-arcs-eq0.false) in
    let made = rw done at (c.loop-pair.invariant.cells count paired all) in
    rw more (next c.args.arcs.now count last c.args.at c.args.flags.now _ _ c.obs_print_cell-2.new.bytes
    c.index-arcs-last.result c.value-2.result (omega (arith, more)) all paired c.index-arcs-last.is
    c.value-2.ensures.value c.obs_print_cell-2.ensures.written made)
