use Rattle.crx_compact.proofs.Vocabulary.{◌≡◌, ◌≤◌, ◌*◌, ℕ, length, map, shown_value}
use Rattle.crx_compact.specs.{Placing.cells_for, ShownRows.AreFirstPrinted}
use Rattle.crx_compact.proofs.satellite.print_cells.Given as goal

-- each turn prints two more cells
abbrev pub invariant-loop-pair : goal.invariant-loop-pair
invariant-loop-pair l = record {
  cells : (count : ℕ) → length l.flags ≡ 2 * count → length l.arcs ≤ count
      → AreFirstPrinted (2 * l.pair) count (map shown_value (cells_for count l.arcs)) l.flags l.at
      l.initial.bytes l.bytes;
  long : length l.bytes ≡ length l.initial.bytes;
}
