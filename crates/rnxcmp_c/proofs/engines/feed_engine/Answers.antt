use Rattle.rnxcmp_c.proofs.{ReaderLemmas.filter-is, Vocabulary.{run_for, sym}}
use Rattle.rnxcmp_c.proofs.engines.feed_engine.Goals as goal

pub take_bytes-requires : goal.take_bytes-requires
take_bytes-requires c =
    let asked = rw c.in-Compacting.is at c.requires in
    record { going = (_, _, _, (sym (filter-is asked.0 _ asked.3), asked.4), asked.5) }

pub returns-in-Compacting-clause-fed : goal.returns-in-Compacting-clause-fed
returns-in-Compacting-clause-fed c task fed taken is_of going = c.take_bytes.ensures.fed (run_for task)
    fed taken
    (sym (filter-is task _ (rw c.in-Compacting.is at is_of)), rw c.in-Compacting.is at going)

pub take_bytes-requires-in-Expanding : goal.take_bytes-requires-in-Expanding
take_bytes-requires-in-Expanding c =
    let asked = rw c.in-Expanding.is at c.requires in
    record { going = (_, _, _, (sym (filter-is asked.0 _ asked.3), asked.4), asked.5) }

pub returns-in-Expanding-clause-fed : goal.returns-in-Expanding-clause-fed
returns-in-Expanding-clause-fed c task fed taken is_of going = c.take_bytes-in-Expanding.ensures.fed
    (run_for task) fed taken
    (sym (filter-is task _ (rw c.in-Expanding.is at is_of)), rw c.in-Expanding.is at going)

pub take_bytes-requires-in-Checking : goal.take_bytes-requires-in-Checking
take_bytes-requires-in-Checking c =
    let asked = rw c.in-Checking.is at c.requires in
    record { going = (_, _, _, (sym (filter-is asked.0 _ asked.3), asked.4), asked.5) }

pub returns-in-Checking-clause-fed : goal.returns-in-Checking-clause-fed
returns-in-Checking-clause-fed c task fed taken is_of going = c.take_bytes-in-Checking.ensures.fed
    (run_for task) fed taken
    (sym (filter-is task _ (rw c.in-Checking.is at is_of)), rw c.in-Checking.is at going)
