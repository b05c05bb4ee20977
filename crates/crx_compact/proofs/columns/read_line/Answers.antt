use Rattle.std.proofs.lemmas.Grind.{common_steps}
use Rattle.crx_compact.proofs.Vocabulary.{arith, rules, length-set}
use Rattle.crx_compact.proofs.Vocabulary.{tail_of_history}
use Rattle.crx_compact.proofs.{PrintedBlocks.rows-kept}
use Rattle.crx_compact.proofs.reading.Announced.{row-announced, rows-allowed, rows-few}
use Rattle.crx_compact.proofs.reading.StepsByCode.{row-faulty, row-stepped}
use Rattle.crx_base.specs.Padded.{line_in}
use Rattle.crx_compact.proofs.columns.read_line.Goals as goal

pub read_row-requires-clause-allowed : goal.read_row-requires-clause-allowed
read_row-requires-clause-allowed c =
    rows-allowed c.args.history.now (rw c.in-SatelliteLine.is at c.requires.sound).0

pub returns-in_err-read_row-in-SatelliteLine-clause-err :
    goal.returns-in_err-read_row-in-SatelliteLine-clause-err
returns-in_err-read_row-in-SatelliteLine-clause-err c =
    grind (
      arith,
      row-faulty (tail_of_history c.args.history.now) c.args.count.now
          (line_in c.args.line) c.in_err-read_row-in-SatelliteLine.field-0.0,
    )

pub overflow_add-count : goal.overflow_add-count
overflow_add-count c = grind (arith, common_steps, rows-few, c.in-SatelliteLine.is, c.requires.sound)

pub returns-in_ok-read_row-in-SatelliteLine-clause-ok : goal.returns-in_ok-read_row-in-SatelliteLine-clause-ok
returns-in_ok-read_row-in-SatelliteLine-clause-ok c =
    search (rules, length-set, row-stepped, row-announced, rows-kept)
