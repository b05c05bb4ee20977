use Rattle.std.proofs.Common.{◌≡◌, ◌≤◌, length, take}
use Rattle.std.specs.Prelude.{filter, is_some}
use Rattle.crx_rinex.proofs.row_buffer.RowBuffer.observations.Given as goal

abbrev pub invariant-loop-k : goal.invariant-loop-k
invariant-loop-k l = record {
  counted : l.count ≡ length (filter is_some (take l.k l.values));
  within : l.count ≤ l.k;
}
