use Rattle.crx_compact.proofs.Vocabulary.{◌≡◌, ◌+◌, ◌*◌, ◌++◌, None, columns, length, drop, replicate, take}
use Rattle.crx_text.specs.meaning.PrintedCells.{printed_cells}
use Rattle.crx_compact.proofs.satellite.print_missing.Given as goal

-- the remaining cells complete the bytes up to the end
abbrev pub invariant-loop-index : goal.invariant-loop-index
invariant-loop-index l = record {
  cells : take (l.at + 16 * l.index) l.bytes ++ printed_cells (drop l.index (replicate l.count None))
      (drop (2 * l.index) (columns l.flags 1 (2 * l.count)))
      ≡ take (l.at + 16 * l.first) l.initial.bytes ++ printed_cells (drop l.first (replicate l.count None))
      (drop (2 * l.first) (columns l.flags 1 (2 * l.count)));
  long : length l.bytes ≡ length l.initial.bytes;
}
