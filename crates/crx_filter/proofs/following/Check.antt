-- A check line by line reads as the whole reading does, and keeps its totals.
use Rattle.crx_filter.proofs.Vocabulary
use Vocabulary.{common_steps, ℕ, List, arith, Epoch, FileUnit, printed_unit, Item, OpenEpoch, Totals}
use Vocabulary.{checking, totals_of, no_choices}
use Rattle.crx_filter.proofs.following.{Agreement.{IsCarriedOut, Meaning}}
use Rattle.crx_filter.proofs.following.{Rinex.{AreSame, rinex_meaning, either-same, agree-begins}}
use Rattle.crx_filter.proofs.{following.Rinex.{agree-continues, no-lines}, reading.Forward.rinex-forward}

-- the lines of a unit, whatever is before it
abbrev pub printed_after : List (Item Epoch) → FileUnit Epoch → List (List ℕ)
printed_after before = printed_unit

check-same : AreSame checking totals_of printed_after no_choices
check-same = grind (arith, common_steps, either-same)

abbrev pub check_meaning : Meaning Epoch Epoch OpenEpoch Totals
check_meaning = rinex_meaning checking totals_of printed_after no_choices

pub check-carried_out : IsCarriedOut check_meaning
check-carried_out =
    search (rinex-forward, no-lines, agree-begins check-same, agree-continues check-same)
