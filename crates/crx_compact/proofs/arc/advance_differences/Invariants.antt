use Rattle.std.proofs.Common.{◌≡◌, length, take}
use Rattle.crx_compact.specs.ArcSteps.{differences_after}
use Rattle.crx_compact.proofs.arcs.Running.{Advanced}
use Rattle.crx_compact.proofs.arc.advance_differences.Given as goal

-- the differences up to the order are replaced place by place
abbrev pub invariant-loop-index : goal.invariant-loop-index
invariant-loop-index l = record {
  made : Advanced l.index (differences_after l.fn.value (take l.order l.initial.differences))
      (take l.order l.differences) l.next;
  long : length l.differences ≡ length l.initial.differences;
}
