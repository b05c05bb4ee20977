use Rattle.std.proofs.Common.{rules}
use Rattle.rnxcmp_c.proofs.{ReaderLemmas.filter-is, Vocabulary.{run_for, sym}}
use Rattle.rnxcmp_c.proofs.engines.end_engine.Goals as goal

pub returns-in-Compacting-clause-ends : goal.returns-in-Compacting-clause-ends
returns-in-Compacting-clause-ends c =
    search (rules, filter-is, c.take_last.ensures.ends, c.in-Compacting.is)

pub returns-in-Expanding-clause-ends : goal.returns-in-Expanding-clause-ends
returns-in-Expanding-clause-ends c task fed taken is_of going = c.take_last-in-Expanding.ensures.ends
    (run_for task) fed taken
    (sym (filter-is task _ (rw c.in-Expanding.is at is_of)), rw c.in-Expanding.is at going)

pub returns-in-Checking-clause-ends : goal.returns-in-Checking-clause-ends
returns-in-Checking-clause-ends c =
    search (rules, filter-is, c.take_last-in-Checking.ensures.ends, c.in-Checking.is)
