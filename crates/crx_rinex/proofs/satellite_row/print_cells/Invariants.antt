use Rattle.std.proofs.Common.{◌≡◌, ◌+◌, ◌*◌, ◌++◌, length, drop, take}
use Rattle.crx_text.specs.meaning.PrintedCells.{printed_cells}
use Rattle.crx_rinex.proofs.satellite_row.print_cells.Given as goal

-- the remaining cells complete the bytes up to the end
abbrev pub invariant-loop-k : goal.invariant-loop-k
invariant-loop-k l = record {
  cells : take l.end l.bytes ++ printed_cells (drop l.k l.values) (drop (2 * l.k) l.flags)
      ≡ take l.at l.initial.bytes ++ printed_cells l.values l.flags;
  end : l.end ≡ l.at + 16 * l.k;
  long : length l.bytes ≡ length l.initial.bytes;
}
