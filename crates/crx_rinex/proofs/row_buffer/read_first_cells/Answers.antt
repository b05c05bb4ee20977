use Rattle.std.proofs.lemmas.{Bool.and_from, Grind.common_steps}
use Rattle.std.proofs.Common.{arith, ℕ, ◌≡◌, ◌+◌, ◌∙◌, subst, sym}
use Rattle.crx_base.specs.Padded.{line_in}
use Rattle.crx_rinex.proofs.Cells.{cells_none, whole_columns}
use Rattle.crx_rinex.specs.SatelliteLines.{AreCellsRead, AreSeen}
use Rattle.crx_rinex.proofs.row_buffer.read_first_cells.Goals.{Joined-not-branch}
use Rattle.crx_rinex.proofs.row_buffer.read_first_cells.Goals.{then-not-branch, else-not-branch}
use Rattle.crx_rinex.proofs.row_buffer.read_first_cells.Goals as goal

-- with one more cell all indicators were seen, if the cell's were
seen : (c : Joined-not-branch) → AreSeen c.if-not-branch.is_seen (c.loop-k.k + 1) c.read_cell.new.flags
seen c = elim c.if-not-branch.branch [
  | then-not-branch w ↦ grind (arith, common_steps)
  | else-not-branch w ↦ λ is. c.in_ok-read_cell.ensures.seen c.loop-k.is_seen c.loop-k.invariant.seen
      (and_from _ _ (sym w.is_seen-is ∙ is) w.if-not-branch.false)
]

pub loop-k-preserved : goal.loop-k-preserved
loop-k-preserved c = record {
  read = c.in_ok-read_cell.ensures.read (line_in c.args.line) c.loop-k.invariant.read
      (grind (arith, common_steps, line_in, whole_columns));
  seen = seen c;
  others = grind (arith, common_steps);
}

pub returns-in_err-read_cell-clause-refused : goal.returns-in_err-read_cell-clause-refused
returns-in_err-read_cell-clause-refused c none =
    grind (arith, common_steps, line_in, whole_columns, cells_none)

pub returns-in_err-is_last_seen-clause-refused : goal.returns-in_err-is_last_seen-clause-refused
returns-in_err-is_last_seen-clause-refused c none = grind (arith, common_steps, line_in, cells_none)

pub returns-clause-read : goal.returns-clause-read
returns-clause-read c =
    let line = line_in c.args.line in
    let all : c.loop-k.k ≡ c.min-whole.result = omega (arith, c.loop-k.auto.k-end, c.loop-k-test.false) in
    let before = subst (λ (n : ℕ). AreCellsRead n line c.loop-k.values c.loop-k.flags) all
    c.loop-k.invariant.read in
    let read = c.in_ok-is_last_seen.ensures.read line before (grind (arith, common_steps, line_in)) in
    let seen = c.in_ok-is_last_seen.ensures.seen in
    grind (arith, common_steps, line_in, all, before, read, seen)
