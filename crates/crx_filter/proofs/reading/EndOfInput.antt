-- The end of the input, in both directions.
use Rattle.crx_filter.proofs
use proofs.Vocabulary.{◌+◌, List, [], length, drop, arith, length-drop, ReadLine, Done, Choices, reading_from}
use proofs.Vocabulary.{rinex_place, rinex_reading, compact_place, first_lines, common_steps}
use Rattle.crx_filter.specs.Laws.{IsCompactionEnded, IsExpansionEnded}
use proofs.following.{Compaction.compaction-carried_out, Expansion.expansion-carried_out}
use proofs.reading.{CompactPrefixes.{remains, reading-at, whole-at}, Resuming.by_place, EndAtStops.next-end}
use proofs.reading.{Forward.rinex-forward, ForwardCompact.compact-forward, Stopping.reading-stopped}

pub compaction-ended : (choices : Choices) (lines : List ReadLine) → IsCompactionEnded choices lines
compaction-ended choices lines =
    let r = rinex_reading choices.skip lines in
    next-end (compaction-carried_out choices) r.items r.stop (length lines)
    (reading-stopped rinex_place rinex-forward choices.skip [] 1 (length lines + 1) lines (omega arith))

pub expansion-ended : (choices : Choices) (lines : List ReadLine) → IsExpansionEnded choices lines
expansion-ended choices lines = by_place (first_lines lines) (λ two count e.
    let h = remains lines [] (Done two count) e in
    let r = reading_from compact_place choices.skip [] (count + 1) (drop count lines) in
    let end = next-end (expansion-carried_out choices) r.items r.stop (length lines)
    (reading-stopped compact_place compact-forward choices.skip [] (count + 1) (length lines + 1)
    (drop count lines) (omega (arith, length-drop count lines, h.0))) in
    grind (arith, common_steps, reading-at, whole-at, end)) (λ offset fault e. grind (arith, e))
    (λ e. grind (arith, e))
