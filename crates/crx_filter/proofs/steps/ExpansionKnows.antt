-- The step of an expansion at a line that it takes, in the words of a direction.
use Rattle.crx_filter.proofs.Vocabulary.{common_steps, arith, ℕ, true, Bool, List, Choices, InputLine, Fault, Result, refl}
use Rattle.crx_filter.proofs.Vocabulary.{expansion, expansion_state}
use Rattle.crx_compact.specs.Blocks.{PendingLines}
use Rattle.crx_filter.specs.CompactReaders.{ReadsCompactLine, compact_reader_parts}
use Rattle.crx_filter.specs.DirectionParts.{DirectionTakes}
use Rattle.crx_filter.specs.ExpansionParts.{ExpansionState as Expansion}
use Rattle.crx_filter.specs.declared.compact_reader.CompactReader.{CompactReader}
use Rattle.std.specs.Prelude.{⊤}

abbrev pub expansion_of : CompactReader → PendingLines → Expansion
expansion_of reader lines = record { reader = reader; lines = lines }

-- a reader's result for a line is an expansion's
pub reader-takes : (old new : CompactReader) {served : Choices → Type 0} (number : ℕ) (line : InputLine)
    (result : Result Bool Fault) (ready : List (List ℕ)) → ReadsCompactLine old line.content result ready new
    → DirectionTakes expansion (λ cs. cs) expansion_state served (compact_reader_parts old) number line
    result ready (compact_reader_parts new) (λ choices. true) 0 0 (λ choices lines. ⊤) (λ choices lines. ⊤)
reader-takes old new number line result ready reads = record {
  reads = grind (arith, common_steps, reads.takes);
  serving = λ choices served. refl;
  counts = grind (arith, common_steps);
  notes = grind (arith, common_steps);
  stays = grind (arith, common_steps);
}
