use Rattle.crx_filter.proofs.Vocabulary.{map, length, Content}
use Rattle.crx_laws.proofs.reading.BorrowedLines.{IsMidway}
use Rattle.crx_compact.specs.OpenEpochs.{place_by_steps, tail_held}
use Rattle.crx_laws.proofs.read_back.read_coded.Given as goal

abbrev pub invariant-loop-line : goal.invariant-loop-line
invariant-loop-line l = IsMidway (place_by_steps l.fn.types
    (tail_held l.fn.columns) (map Content l.fn.coded.lines)) l.columns l.fn.coded.lines
    l.coded.lines

abbrev pub decreases-loop-line : goal.decreases-loop-line
decreases-loop-line l = length l.coded.lines
