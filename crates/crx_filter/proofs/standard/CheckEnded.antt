-- The end of the input, as a check takes it; and the files that it calls standard.
use Rattle.crx_filter.proofs.Vocabulary
use Vocabulary.{common_steps, arith, ℕ, ◌≡◌, false, List, [], ◌∷◌, ◌++◌, map, length, Option, None, refl, ap}
use Vocabulary.{append-nil, none-some, InputLine, ReadLine, as_read, Fault, Count, Epoch, HeaderLine, OpenEpoch}
use Vocabulary.{Item, Accepted, Warned, is_at_start, Reading, WholeReading, fault_at_end, ended_with, whole_rinex}
use Vocabulary.{rinex_reading, Phase, kept_in, state_end, AreInPlace, failed_by, printed_items, whole_reading_of}
use Vocabulary.{Totals, checking, printed_open, no_choices, rinex_place, ◌+◌}
use Rattle.crx_filter.proofs.{following.Check.check-carried_out, reading.EndAtStops.next-end}
use Rattle.crx_filter.proofs.reading.{Forward.rinex-forward, Stopping.reading-stopped}
use Rattle.crx_filter.proofs.following.{CheckedOn.{same-state, as-many}, Agreement.state_in}
use Rattle.crx_filter.proofs.reading.{InPlace.items-in_place, AcceptedUnits.items-read}
use Rattle.crx_filter.{proofs.wayback.UnitsReadAgain.started, specs.CheckByLine.version_accepted}
use Rattle.crx_filter.specs.{CheckingLaws.IsCheckEnded, meaning.Standard.{first_header_line, version_in}}

-- ---- the end accepts and drops nothing

at-end : (items : List (Item Epoch)) (number : ℕ) (fault : Option Fault)
    → WholeReading.items (ended_with false items number fault) ≡ items
at-end items number fault = grind (arith, common_steps)

pub whole-items : (lines : List ReadLine)
    → WholeReading.items (whole_rinex false lines) ≡ Reading.items (rinex_reading false lines)
whole-items lines = grind (arith, common_steps, rinex_reading, at-end, fault_at_end)

-- and no epoch is open
none-open : (number : ℕ) (phase : Phase OpenEpoch) (types : List Count) (kept : Totals) → failed_by
    (state_end checking (state_in no_choices number phase types kept)).answer ≡ None → printed_open phase ≡ []
none-open number phase types kept e = grind (arith, common_steps, none-some)

-- ---- the version

-- the header's first line is the first of all lines
record IsFirst (items : List (Item Epoch)) : Type 0 where
  version : version_accepted items ≡ version_in (first_header_line (printed_items items))
  some : is_at_start items ≡ false → (first : List ℕ) × (rest : List (List ℕ))
      × (printed_items items ≡ first ∷ rest)

first-kept : (items : List (Item Epoch)) (more : List (List ℕ)) → IsFirst items → is_at_start items ≡ false
    → version_accepted items ≡ version_in (first_header_line (printed_items items ++ more))
first-kept items more h e = grind (arith, common_steps)

first-more : (items : List (Item Epoch)) (more : List (List ℕ)) → IsFirst items → is_at_start items ≡ false
    → (first : List ℕ) × (rest : List (List ℕ)) × (printed_items items ++ more ≡ first ∷ rest)
first-more items more h e = let some = h.some e in (some.0, some.1 ++ more, ap (λ ls. ls ++ more) some.2)

is-first : (items : List (Item Epoch)) → AreInPlace items → IsFirst items
is-first [] h = record { version = refl; some = λ e. absurd (cc) }
is-first (Accepted (HeaderLine line) ∷ []) h = record { version = refl; some = λ e. (line, [], refl) }
is-first (Accepted (HeaderLine line) ∷ item ∷ before) h =
    search (is-first (item ∷ before) h.1, first-kept, first-more)
is-first (Accepted unit ∷ before) h =
    grind (arith, common_steps, is-first before h.1, first-kept, started, first-more)
is-first (Warned at ∷ before) h = grind (arith, common_steps, is-first before h.1, started)

pub version-same : (lines : List ReadLine) → version_accepted (rinex_reading false lines).items
    ≡ version_in (first_header_line (printed_items (rinex_reading false lines).items))
version-same lines = grind (arith, common_steps, is-first, items-in_place, items-read)

-- ---- the end

-- the kept state doesn't depend on the phase
pub kept-always : (phase : Phase OpenEpoch) (kept : Totals) → kept_in checking phase kept ≡ kept
kept-always phase kept = grind (arith, common_steps)

pub check-ended : (lines : List InputLine) → IsCheckEnded lines
check-ended lines =
    let ls = map as_read lines in
    let r = rinex_reading false ls in
    let end = next-end check-carried_out r.items r.stop (length ls)
    (reading-stopped rinex_place rinex-forward false [] 1 (length ls + 1) ls (omega arith)) in
    grind (
      arith,
      common_steps,
      whole-items ls,
      end.failed,
      same-state,
      none-open,
      kept-always,
      version-same ls,
      append-nil,
    )

-- after an end without a fault one line is printed for each line read
pub whole-many : (lines : List InputLine) → WholeReading.fault (whole_reading_of lines) ≡ None
    → length (printed_items (whole_reading_of lines).items) ≡ length lines
whole-many lines good = grind (arith, common_steps, as-many, whole-items, none-open, check-ended)
