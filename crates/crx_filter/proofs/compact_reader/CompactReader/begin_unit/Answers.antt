use Rattle.crx_compact.specs.OpenEpochs.{tail_held}
use Rattle.crx_filter.proofs.CompactSteps.{begun-wants}
use Rattle.crx_filter.proofs.Vocabulary.{arith, common_steps}
use Rattle.crx_filter.proofs.compact_reader.CompactReader.begin_unit.Goals as goal

pub invariant_of-self-2 : goal.invariant_of-self-2
invariant_of-self-2 c =
    let self = c.args.self.now in
    record {
      consistent = begun-wants self.types
          (tail_held c.deref_mut.result.now) c.args.line.now
          c.begin.new.self c.in_ok-begin.ensures.made;
    }

pub returns-clause-unprinted : goal.returns-clause-unprinted
returns-clause-unprinted c block opened = c.begin.ensures.unprinted block

pub returns-in_err-begin-clause-reads : goal.returns-in_err-begin-clause-reads
returns-in_err-begin-clause-reads c = grind (arith, common_steps)
