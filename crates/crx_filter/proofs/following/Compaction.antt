-- Compaction line by line reads, keeps and writes as the compaction of all lines does.
use Rattle.crx_filter.proofs.Vocabulary.{common_steps, arith, ◌≡◌, List, Epoch}
use Rattle.crx_filter.proofs.Vocabulary.{Marked, OpenEpoch, Written, Choices, Item}
use Rattle.crx_filter.proofs.Vocabulary.{types_in_force, epochs_accepted, is_at_every, is_in_full, marked_epochs}
use Rattle.crx_filter.proofs.Vocabulary.{compact_unit, compaction, written_of}
use Rattle.crx_compact.{proofs.wayback.Tailing.epoch-by_tail, specs.Laws.tail_before}
use Rattle.{crx_compact.specs.Steps.tail_written_after}
use Rattle.{crx_filter.proofs.following.Agreement.{IsCarriedOut, Meaning}}
use Rattle.crx_filter.proofs.following.Rinex.{AreSame, rinex_meaning, either-same, agree-begins}
use Rattle.crx_filter.proofs.following.Rinex.{agree-continues, no-lines}
use Rattle.crx_filter.proofs.reading.{Forward.rinex-forward, Types.counts-in_force}
use Rattle.crx_rinex.proofs.SoundEpochs.{sound-epoch_place}

-- ---- reading an epoch

-- the epoch after some items, marked whether it is full
abbrev marked : Choices → List (Item Epoch) → Epoch → Marked
marked choices items epoch = record { in_full = is_in_full choices.every items; epoch = epoch }

-- the tail that the next epoch continues from
same-tail : (choices : Choices) (items : List (Item Epoch)) (epoch : Epoch)
    → tail_before (marked choices items epoch) (marked_epochs choices.every items) ≡ tail_written_after
    (is_at_every choices.every (epochs_accepted items)) (written_of choices.every items).tail
same-tail choices items epoch = grind (arith, common_steps)

pub same-epochs : (choices : Choices)
    → AreSame compaction (written_of choices.every) (compact_unit choices) choices
same-epochs choices items lines epoch count here =
    let by_tail = epoch-by_tail (marked choices items epoch) (marked_epochs choices.every items)
    (sound-epoch_place (types_in_force items) lines epoch count (counts-in_force items) here).0.sound.apart in
    grind (arith, common_steps, by_tail, either-same, same-tail choices items epoch)

abbrev pub compaction_meaning : Choices → Meaning Epoch Epoch OpenEpoch Written
compaction_meaning choices = rinex_meaning compaction (written_of choices.every) (compact_unit choices)
    choices

pub compaction-carried_out : (choices : Choices) → IsCarriedOut (compaction_meaning choices)
compaction-carried_out choices = search (rinex-forward, no-lines, agree-begins, same-epochs, agree-continues)
