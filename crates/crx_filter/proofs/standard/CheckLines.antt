-- The printed lines for some lines of a file, and for one more line.
use Rattle.crx_filter.proofs.Vocabulary
use Vocabulary.{common_steps, arith, ℕ, zero, suc, ◌≡◌, ◌+◌, ◌-◌, Bool, false, List, [], ◌∷◌, ◌++◌, length, drop}
use Vocabulary.{Option, Some, None, Result, sym, append-nil, ⊤, map-append, none-some, ReadLine, Content, Fault}
use Vocabulary.{Row, Epoch, Count, HeaderLine, EventRecord, last_line, printed_row, printed_epoch, OpenEpoch}
use Vocabulary.{Beginning, epoch_of, with_next_row, Item, Accepted, unless_wrong, Stop, Looking}
use Vocabulary.{reading_within, rinex_place, rinex_reading, made_of_beginning, rinex_open}
use Vocabulary.{Phase, InFirstLines, InHeader, BetweenUnits, InEvent, LookingOn, Closed, Made, Step}
use Vocabulary.{made_of_unit, made_in, with_records_left, step_of_made, phase_in_body, phase_of, failed_by, Totals}
use Vocabulary.{checking, printed_open, printed_made, no_choices}
use Rattle.crx_filter.proofs.{CheckCounts.last-of, following.Agreement.state_in, reading.Resuming.by_place}
use Rattle.crx_filter.proofs.reading.Resuming.{within-here, within-wrong, within-wanted}
use Rattle.crx_rinex.specs.meaning.Printing.{printed_head}

-- ---- no line is looked for if nothing is skipped

abbrev IsFound : Stop → Type 0
IsFound (Looking number) = ⊥
IsFound stop = ⊤

within-found : (units : ℕ) (items : List (Item Epoch)) (number : ℕ) (lines : List ReadLine)
    → IsFound (reading_within rinex_place false units items number lines).stop
within-found zero items number lines = tt
within-found (suc units) items number lines = by_place (rinex_place items lines)
    (λ unit count e. rw (within-here rinex_place false units items number lines unit count e)
    (within-found units (Accepted unit ∷ items) (number + count) (drop count lines)))
    (λ offset fault e. rw (within-wrong rinex_place false units items number lines offset fault e) tt)
    (λ e. rw (within-wanted rinex_place false units items number lines e) tt)

-- the phases of a reading that skips nothing
abbrev pub IsReached : Phase OpenEpoch → Type 0
IsReached (InFirstLines count) = ⊥
IsReached LookingOn = ⊥
IsReached Closed = ⊥
IsReached phase = ⊤

body-reached : (left : ℕ) (counted : Bool) (so_far : Option OpenEpoch)
    → IsReached (phase_in_body left counted so_far)
body-reached left counted so_far = grind (arith, common_steps)

stop-reached : (items : List (Item Epoch)) (stop : Stop)
    → IsFound stop → IsReached (phase_of rinex_open (record { items = items; stop = stop }))
stop-reached items stop h = grind (arith, common_steps, body-reached)

pub phase-reached : (lines : List ReadLine) → IsReached (phase_of rinex_open (rinex_reading false lines))
phase-reached lines = let r = rinex_reading false lines in
    stop-reached r.items r.stop (within-found (length lines + 1) [] 1 lines)

-- ---- the last line of a line's outcome

-- an epoch with one more row is printed with one more line
row-printed : (so_far : OpenEpoch) (row : Row) → printed_epoch (epoch_of (with_next_row so_far row))
    ≡ printed_epoch (epoch_of so_far) ++ last_line (printed_epoch (epoch_of (with_next_row so_far row))) ∷ []
row-printed so_far row =
    grind (arith, common_steps, printed_head, map-append, printed_row, last-of, printed_epoch, epoch_of)

-- ---- one line more

-- the step of a line adds one line, unless it is a fault
abbrev pub Grows : ℕ → Phase OpenEpoch → List Count → Totals → ReadLine → Made Epoch OpenEpoch → Type 0
Grows number phase types kept line made =
    let step : Step OpenEpoch Totals = step_of_made checking
    (state_in no_choices number phase types kept) line made in
    failed_by step.answer ≡ None → step.handed_out ++ printed_open step.next.phase
    ≡ printed_open phase ++ last_line (printed_made made) ∷ []

none-open : (left : ℕ) (counted : Bool) → printed_open (with_records_left left counted) ≡ []
none-open left counted = grind (arith, common_steps)

header-grows : (number : ℕ) (is_first : Bool)
    (types : List Count) (kept : Totals) (content : List ℕ) (fault : Option Fault) → Grows number
    (InHeader is_first) types kept (Content content) (made_of_unit (unless_wrong (HeaderLine content) fault))
header-grows number is_first types kept content fault f = grind (arith, common_steps, none-some)

record-grows : (number left : ℕ) (counted : Bool) (types : List Count)
    (kept : Totals) (content : List ℕ) (fault : Option Fault) → Grows number (InEvent left counted) types kept
    (Content content) (made_of_unit (unless_wrong (EventRecord content) fault))
record-grows number left counted types kept content None f = cc (none-open (left - 1) counted)
record-grows number left counted types kept content (Some fault) f = absurd (none-some _ (sym f))

module _ (number : ℕ) (types : List Count) (kept : Totals) (content : List ℕ) where
  beginning-grows : (b : Result Beginning Fault)
      → Grows number BetweenUnits types kept (Content content) (made_of_beginning types b)
  beginning-grows b f = grind (arith, common_steps, none-some, none-open)

pub line-grows : (number : ℕ) (phase : Phase OpenEpoch) (types : List Count) (kept : Totals) (line : ReadLine)
    → IsReached phase → Grows number phase types kept line (made_in checking phase types kept line)
line-grows number phase types kept line h f = grind
    (arith, common_steps, header-grows, beginning-grows, record-grows, append-nil, row-printed, none-some)
