-- After a fault has ended the run, more lines change nothing.
use Rattle.crx_filter.proofs.Vocabulary
use Vocabulary.{common_steps, arith, ℕ, ◌≡◌, ◌+◌, Bool, List, [], ◌++◌, drop, Some, refl}
use Vocabulary.{drop-append-le, none-some, ReadLine, At, Place, Done, Fails, NeedsMore, FileUnit, Item}
use Vocabulary.{Stop, reading_from, ended_reading, whole_reading}
use Vocabulary.{IsReadForward, fault_of_stop, rinex_place, whole_rinex, rinex_reading, compact_place, first_lines}
use Vocabulary.{whole_compact, compact_reading}
use Rattle.crx_filter.proofs.reading.{ForwardCompact.compact-forward, Resuming.resumed, Forward.rinex-forward}
use Rattle.crx_filter.{proofs.reading.CompactPrefixes.{remains, reading-at, whole-at}, specs.Laws.StaysEnded}

ended-same : {E : Type 0} (skip : Bool) (items : List (Item E)) (stop : Stop) (at : At) → fault_of_stop stop
    ≡ Some at → ended_reading skip (record { items = items; stop = stop })
    ≡ record { items = items; fault = Some at }
ended-same skip items v1 at e = grind (arith, none-some)

stays-from : {E : Type 0} (place : List (Item E) → List ReadLine → Place (FileUnit E))
    → IsReadForward place → (skip : Bool) (number : ℕ) (lines more : List ReadLine) (at : At)
    → fault_of_stop (reading_from place skip [] number lines).stop ≡ Some at
    → StaysEnded (reading_from place skip [] number) (whole_reading place skip number) lines more at
stays-from place h skip number lines more at e =
    grind (arith, common_steps, reading_from, resumed, none-some, ended-same)

pub rinex-stays : (skip : Bool) (lines more : List ReadLine) (at : At) → fault_of_stop (rinex_reading skip
    lines).stop ≡ Some at → StaysEnded (rinex_reading skip) (whole_rinex skip) lines more at
rinex-stays skip lines more at e = stays-from rinex_place rinex-forward skip 1 lines more at e

-- ---- compact text

by-first_lines : (skip : Bool) (lines more : List ReadLine) (at : At) (p : Place (List (List ℕ)))
    → first_lines lines ≡ p → fault_of_stop (compact_reading skip lines).stop
    ≡ Some at → StaysEnded (compact_reading skip) (whole_compact skip) lines more at
by-first_lines skip lines more at (Done two count) e f =
    let h = remains lines more (Done two count) e in
    let split : drop count (lines ++ more) ≡ drop count lines ++ more = drop-append-le count lines more h.0 in
    let now = reading-at skip lines two count e in
    let s = stays-from compact_place compact-forward skip (count + 1) (drop count lines) more at
    (rw now at f) in
    grind (arith, common_steps, reading-at, whole-at)
by-first_lines skip lines more at (Fails offset fault) e f =
    grind (arith, remains lines more (Fails offset fault) e, compact_reading, whole_compact, fault_of_stop)
by-first_lines skip lines more at NeedsMore e f =
    grind (arith, common_steps, none-some, fault_of_stop, compact_reading)

pub compact-stays : (skip : Bool) (lines more : List ReadLine) (at : At) → fault_of_stop (compact_reading
    skip lines).stop ≡ Some at → StaysEnded (compact_reading skip) (whole_compact skip) lines more at
compact-stays skip lines more at e = by-first_lines skip lines more at (first_lines lines) refl e
