-- Both directions follow their filters line by line.
use Rattle.crx_filter.proofs.Vocabulary
use Vocabulary.{arith, [], map, refl, length-map, reverse-append, append-nil}
use Vocabulary.{flat_map-append, as_read, compaction, compaction_state, expansion, expansion_state}
use Vocabulary.{compaction_filter, expansion_filter}
use Rattle.crx_filter.proofs.following.{Compaction.compaction-carried_out, CompactedOn.compacted-on}
use Rattle.crx_filter.proofs.{following.ExpandedOn.expanded-on, reading.EndOfInput.{compaction-ended, expansion-ended}}
use Rattle.crx_filter.specs.EngineLaws.{IsLawfulDirection}
use Rattle.crx_filter.proofs.following.CutOffWarnings.{cut-off, expansion-cut-off}
use Rattle.std.proofs.Common.{ap, length, Some}
use Rattle.std.proofs.lemmas.Grind.{common_steps}

pub compaction-goes : IsLawfulDirection compaction (λ choices. choices) (λ choices lines. []) compaction_state
    compaction_filter
compaction-goes choices taken = record {
  follows = grind (arith, common_steps, compacted-on choices, flat_map-append);
  ends = λ lines. grind (arith, compaction-ended choices (map as_read lines), reverse-append, append-nil);
  number = λ lines. length-map lines as_read;
  cut = λ lines line. ap Some (cut-off (compaction-carried_out choices) 1 (length (map as_read lines))
      (map as_read lines) (as_read line) (omega arith));
  too_long_first = λ types kept. refl;
  too_long_next = λ so_far. refl;
}

pub expansion-goes : IsLawfulDirection expansion (λ choices. choices) (λ choices lines. []) expansion_state
    expansion_filter
expansion-goes choices taken = record {
  follows = grind (arith, common_steps, expanded-on choices, flat_map-append);
  ends = λ lines. grind (arith, expansion-ended choices (map as_read lines), reverse-append, append-nil);
  number = λ lines. length-map lines as_read;
  cut = λ lines line. ap Some (expansion-cut-off choices (map as_read lines) (as_read line));
  too_long_first = λ types kept. refl;
  too_long_next = λ so_far. refl;
}
