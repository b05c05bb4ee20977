-- Both directions are lawful filters.
use Rattle.crx_filter.proofs.Vocabulary.{arith, refl, map, map-append, as_read, Choices, compaction_filter}
use Rattle.crx_filter.proofs.{Vocabulary.{expansion_filter, IsLawful}}
use Rattle.crx_filter.proofs.following.DirectionSteps.{compaction-goes, expansion-goes}
use Rattle.crx_filter.proofs.reading.ReadingFaults.{rinex-found, rinex-found-at-end}
use Rattle.crx_filter.proofs.reading.ReadingFaults.{compact-found, compact-found-at-end}
use Rattle.crx_filter.proofs.reading.{Prefixes.{output-grows, output-goes_on}}
use Rattle.crx_filter.proofs.reading.{StaysEnded.{rinex-stays, compact-stays}}

pub compaction-lawful : (choices : Choices) → IsLawful (compaction_filter choices)
compaction-lawful choices = record {
  nothing = refl;
  decided = λ lines more at e. grind (
    arith,
    map-append as_read lines more,
    rinex-stays choices.skip (map as_read lines) (map as_read more) at e,
  );
  grows = output-grows (compaction-goes choices refl);
  goes_on = output-goes_on (compaction-goes choices refl);
  found = λ lines at e. rinex-found choices.skip (map as_read lines) at e;
  found_at_end = λ lines at e. rinex-found-at-end choices.skip (map as_read lines) at e;
}

pub expansion-lawful : (choices : Choices) → IsLawful (expansion_filter choices)
expansion-lawful choices = record {
  nothing = refl;
  decided = λ lines more at e. grind (
    arith,
    map-append as_read lines more,
    compact-stays choices.skip (map as_read lines) (map as_read more) at e,
  );
  grows = output-grows (expansion-goes choices refl);
  goes_on = output-goes_on (expansion-goes choices refl);
  found = λ lines at e. compact-found choices.skip (map as_read lines) at e;
  found_at_end = λ lines at e. compact-found-at-end choices.skip (map as_read lines) at e;
}
