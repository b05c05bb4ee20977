use Rattle.crx_filter.proofs.{Vocabulary.{common_steps, arith, inl, refl}}
use Rattle.crx_filter.proofs.{steps.CompactionParts.{row-lost, rows-few}}
use Rattle.crx_filter.proofs.steps.CompactionParts.{row-known, row-refused, row-written, rows-there}
use Rattle.crx_filter.proofs.compaction.compact_row.Goals as goal

pub encode_row-requires : goal.encode_row-requires
encode_row-requires c = grind (arith, common_steps, rows-few)

pub returns-in_err-read_row-clause-refused : goal.returns-in_err-read_row-clause-refused
returns-in_err-read_row-clause-refused c = grind (arith, common_steps, row-refused)

pub returns-in-Ok-false-clause-refused : goal.returns-in-Ok-false-clause-refused
returns-in-Ok-false-clause-refused c = grind (arith, common_steps, row-refused, inl, row-known, rows-there)

pub returns-in-Err-clause-refused : goal.returns-in-Err-clause-refused
returns-in-Err-clause-refused c = grind (arith, common_steps, row-lost, rows-there)

pub returns-in-Ok-true-clause-written : goal.returns-in-Ok-true-clause-written
returns-in-Ok-true-clause-written c =
    let read = c.in_ok-read_row.ensures in
    let encoded = c.in-Ok-true.ensures in
    let took = c.take_row.ensures in
    row-written _ _ _ _ _ c.requires.together read.same _ _ _ _
    c.requires.open read.ok read.row
    refl encoded.answer c.in-Ok-true.field-0-test (encoded.written c.in-Ok-true.field-0-test)
    took.takes took.rows
