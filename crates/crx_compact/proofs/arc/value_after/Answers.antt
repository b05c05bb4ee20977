use Rattle.std.proofs.Common.{rules, ◌≤◌, ◌<◌, length, pos, ◌+ℤ◌, slice_index_or, FitsSigned, w64, to_z}
use Rattle.std.proofs.Common.{arith}
use Rattle.crx_compact.proofs.arcs.Running.{same-bits, first-fits, sum-fits, sum-step, newest-by}
use Rattle.crx_compact.proofs.arc.value_after.Goals as goal

pub loop-difference-init : goal.loop-difference-init
loop-difference-init c = rw (same-bits _ c.ranges.number) (search (rules, newest-by))

pub overflow_add-value : goal.overflow_add-value
overflow_add-value c =
    let few : c.loop-difference.difference-index ≤ 9 = omega arith in
    let fits : FitsSigned w64 (slice_index_or c.args.differences.now c.loop-difference.difference-index (pos
    0)) = search (rules, first-fits) in
    rw (same-bits _ fits) (search (rules, sum-fits, c.loop-difference.invariant))

pub loop-difference-preserved : goal.loop-difference-preserved
loop-difference-preserved c =
    let few : c.loop-difference.difference-index ≤ 9 = omega arith in
    let here : c.loop-difference.difference-index < length c.args.differences.now = omega arith in
    let fits : FitsSigned w64 (slice_index_or c.args.differences.now c.loop-difference.difference-index (pos
    0)) = search (rules, first-fits) in
    let more : FitsSigned w64 (to_z w64 c.loop-difference.value-bits +ℤ slice_index_or
    c.args.differences.now c.loop-difference.difference-index (pos 0)) = search (rules, sum-fits) in
    rw (same-bits _ fits, same-bits _ more)
    (sum-step c.loop-difference.difference-index
    _ (to_z w64 c.loop-difference.value-bits) c.args.differences.now here c.loop-difference.invariant)
