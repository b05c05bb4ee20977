-- The reading of a damaged stretch: if none of its lines is an event's first one, only epochs and warnings are read
-- from it; and reading resumes at the next line that begins with >.
use Rattle.crx_filter.proofs.Vocabulary
use Vocabulary.{common_steps, ℕ, zero, suc, ◌≡◌, ◌+◌, ◌<◌, ◌≤◌, max, ◌⊎◌, inl, inr, true, false, List, [], ◌∷◌}
use Vocabulary.{◌++◌}
use Vocabulary.{length, drop, refl, arith, ⊤, list_all, and_parts}
use Vocabulary.{ReadLine, Content, Overlong, At, begins_epoch, is_event_line}
use Vocabulary.{NeedsMore, Observation, ReadEpoch, ended_reading, warnings_in}
use Vocabulary.{Item, Accepted, Warned, types_in_force, Reading, Stop, AtLines, Looking, looked_for}
use Vocabulary.{after_fault}
use Vocabulary.{reading_within, reading_from, compact_place, IsBetweenUnits, continued_reading, by_bool}
use Vocabulary.{is_skipped, ap, AtFault}
use Rattle.crx_filter.specs.meaning.{Damage.is_inside, Stretches.begins_no_event}
use Rattle.crx_filter.proofs.damage.BlockReading.{bad-event, block-here, skipped-here}
use Rattle.crx_filter.proofs.damage.ResumedEpochs.{GoesOnAt, open-goes_on, EndsAfter, ends-inside}
use Rattle.crx_filter.proofs.{following.LinesAtStops.IsStopped}
use Rattle.crx_filter.proofs.{reading.{ForwardCompact.compact-forward, Stopping.reading-stopped}}
use Rattle.crx_filter.proofs.reading.StepInvariants.{IsKept, KeptAt, looked-kept, within-kept}
use Rattle.crx_filter.proofs.reading.Resuming.{by_place, within-here, within-wrong}
use Rattle.crx_filter.proofs.reading.Resuming.{within-wanted, looked-here, resumed}
use Rattle.crx_filter.proofs.wayback.FirstTwoLines.{all-drop}
use Rattle.std.proofs.lemmas.List.{Folds.list_all-append, drop-drop}

-- ---- the lines of a stretch, and their reading

-- only epochs and warnings
abbrev pub AreEpochs : List (Item ReadEpoch) → Type 0
AreEpochs [] = ⊤
AreEpochs (Accepted (Observation read) ∷ before) = AreEpochs before
AreEpochs (Warned at ∷ before) = AreEpochs before
AreEpochs (Accepted unit ∷ before) = ⊥

-- a reading has stopped at lines that more lines could complete to an epoch, or looks for a line that begins with >
abbrev pub IsOpen : List (Item ReadEpoch) → Reading ReadEpoch → Type 0
IsOpen items r = ((number : ℕ) × (rest : List ReadLine) × (list_all begins_no_event rest ≡ true)
    × (compact_place items rest ≡ NeedsMore) × (r ≡ record { items = items; stop = AtLines number rest }))
    ⊎ ((number : ℕ) × (r ≡ record { items = items; stop = Looking number }))

pub record IsStretchRead (items : List (Item ReadEpoch)) (r : Reading ReadEpoch) : Type 0 where
  pub news : List (Item ReadEpoch)
  pub epochs : AreEpochs news
  pub between : IsBetweenUnits (news ++ items)
  pub stops : IsOpen (news ++ items) r

pub epochs-types : (news items : List (Item ReadEpoch))
    → AreEpochs news → types_in_force (news ++ items) ≡ types_in_force items
epochs-types [] items h = refl
epochs-types (item ∷ news) items h = grind (arith, common_steps, epochs-types news items)

-- ---- the unit at such lines

-- if more lines are needed, the first one isn't an event's
wanted-no_event : (items : List (Item ReadEpoch)) (line : List ℕ) (lines : List ReadLine)
    → IsBetweenUnits items → begins_no_event (Content line) ≡ true
    → compact_place items (Content line ∷ lines) ≡ NeedsMore → is_event_line line ≡ false
wanted-no_event items line lines h text e = grind (arith, common_steps, by_bool, bad-event)

-- ---- the reading

-- only epochs and warnings were read since some items, and no line from there on begins an event
abbrev ReadsEpochs : List (Item ReadEpoch) → List (Item ReadEpoch) → List ReadLine → Type 0
ReadsEpochs items all lines = (news : List (Item ReadEpoch)) × AreEpochs news × (all ≡ news ++ items)
    × IsBetweenUnits all × (list_all begins_no_event lines ≡ true)

epochs-kept : (items : List (Item ReadEpoch)) → IsKept compact_place true (ReadsEpochs items)
epochs-kept items = record {
  here = λ all lines unit count e h.
      let read = rw e at (block-here all lines h.3 h.4) in
      rw read.1 (
        Accepted (Observation read.0) ∷ h.0,
        h.1,
        ap (λ is. Accepted (Observation read.0) ∷ is) h.2,
        record { header = (h.3).header; none = refl },
        all-drop begins_no_event count lines h.4,
      );
  passed = λ all lines at n on h. (
    Warned at ∷ h.0,
    h.1,
    ap (λ is. Warned at ∷ is) h.2,
    record { header = (h.3).header; none = refl },
    all-drop begins_no_event n lines h.4,
  );
}

is-open : (items all : List (Item ReadEpoch)) (stop : Stop) (next : ℕ)
    → KeptAt compact_place true (ReadsEpochs items) (record { items = all; stop = stop })
    → IsStopped compact_place all stop next → IsStretchRead items (record { items = all; stop = stop })
is-open items all (AtFault at) next (lines, h, left) stopped =
    absurd (cc (left.2, skipped-here all at.fault h.3 (rw left.1 at (block-here all lines h.3 h.4))))
is-open items all (AtLines number rest) next (lines, h, left) stopped = grind (arith, common_steps)
is-open items all (Looking number) next (lines, h, left) stopped = grind (arith, common_steps)

-- more lines of a stretch, after the lines read so far
pub stretch-more : (items : List (Item ReadEpoch)) (so_far lines : List ReadLine) → IsBetweenUnits items
    → IsOpen items (reading_from compact_place true [] 3 so_far) → list_all begins_no_event lines ≡ true
    → IsStretchRead items (reading_from compact_place true [] 3 (so_far ++ lines))
stretch-more items so_far lines between stops text =
    let all = reading_from compact_place true [] 3 (so_far ++ lines) in
    is-open items all.items all.stop _ (rw (resumed compact_place compact-forward true [] 3 so_far lines)
    (goes-on stops))
    (reading-stopped compact_place compact-forward true [] 3 _ (so_far ++ lines) refl)
  where
    r : Reading ReadEpoch
    r = reading_from compact_place true [] 3 so_far

    within : (number : ℕ) (ls : List ReadLine) → ReadsEpochs items items ls
        → KeptAt compact_place true (ReadsEpochs items) (reading_from compact_place true items number ls)
    within number ls h =
        within-kept compact_place true (ReadsEpochs items) (epochs-kept items) (length ls + 1) items number
        ls h

    goes-on : IsOpen items r → KeptAt compact_place true (ReadsEpochs items) (continued_reading compact_place
        true r lines)
    goes-on (inl (number, rest, none, e, is)) = rw is (within number (rest ++ lines)
        ([], tt, refl, between, rw (list_all-append begins_no_event rest lines, none) text))
    goes-on (inr (number, is)) = rw is (looked-kept compact_place true (ReadsEpochs items) items
        (reading_from compact_place true items) number lines
        (λ n. ([], tt, refl, between, all-drop begins_no_event n lines text)) within)

-- ---- few warnings

-- an epoch is open: one more warning may follow
abbrev pub pending : Stop → ℕ
pending (AtLines number (line ∷ rest)) = 1
pending stop = 0

none-found : (read : ℕ → List ReadLine → Reading ReadEpoch) (items : List (Item ReadEpoch)) (number : ℕ)
    (lines : List ReadLine) → list_all is_inside lines ≡ true
    → (last : ℕ) × (looked_for read items number lines ≡ record { items = items; stop = Looking last })
none-found read items number [] h = (number, refl)
none-found read items number (Overlong ∷ lines) h = absurd (cc h)
none-found read items number (Content line ∷ lines) h =
    grind (arith, none-found read items (number + 1) lines (and_parts (is_inside (Content line)) _ h).1)

inside-from : (n : ℕ) (lines : List ReadLine) → 0 < n → list_all is_inside (drop 1 lines) ≡ true
    → list_all is_inside (drop n lines) ≡ true
inside-from zero lines some h = absurd (omega (arith, some))
inside-from (suc n) [] some h = refl
inside-from (suc n) (line ∷ lines) some h = all-drop is_inside n lines h

pending-few : (items : List (Item ReadEpoch)) (number : ℕ) (lines : List ReadLine)
    → length (warnings_in items) + pending (AtLines number lines) ≤ length (warnings_in items) + 1
pending-few items number lines = grind (arith, common_steps)

-- if only the first of some lines begins with >, they give at most one warning, now or later
pub few-warned : (units : ℕ) (items : List (Item ReadEpoch)) (number : ℕ) (lines : List ReadLine)
    → list_all is_inside (drop 1 lines) ≡ true → length (warnings_in (reading_within compact_place true units
    items number lines).items) + pending (reading_within compact_place true units items number lines).stop
    ≤ length (warnings_in items) + 1
few-warned zero items number lines h = pending-few items number lines
few-warned (suc units) items number lines h = by_place (compact_place items lines)
    (λ unit count e. rw (within-here compact_place true units items number lines unit count e)
    (few-warned units
    (Accepted unit ∷ items) (number + count) (drop count lines)
    (rw (drop-drop 1 count lines) (inside-from (count + 1) lines (omega arith) h))))
    (λ offset fault e. rw (within-wrong compact_place true units items number lines offset fault e)
    (by_bool (is_skipped true items fault) (λ on.
    let at : At = record { line = number + offset; fault = fault } in
    let none = none-found (reading_within compact_place true units (Warned at ∷ items)) (Warned at ∷ items)
    (number + max offset 1) (drop (max offset 1) lines) (inside-from (max offset 1) lines (omega arith) h) in
    rw (on, after_fault, none.1) (omega arith)) (λ off. rw (off, after_fault) (omega arith))))
    (λ e. rw (within-wanted compact_place true units items number lines e) (pending-few items number lines))

-- ---- the next line that begins with >

-- reading resumes at some lines, after these items and a warning, if an epoch was open
pub open-continued : (items : List (Item ReadEpoch)) (r : Reading ReadEpoch) (line : List ℕ)
    (tail : List ReadLine) → IsBetweenUnits items → IsOpen items r → begins_epoch line ≡ true
    → GoesOnAt (pending r.stop) items (Content line ∷ tail) (continued_reading compact_place true r
    (Content line ∷ tail))
open-continued items r line tail between (inl (number, [], none, e, is)) begins =
    record { warnings = []; few = omega arith; number = number; same = cc (is) }
open-continued items r line tail between (inl (number, Overlong ∷ rest, none, e, is)) begins = grind arith
open-continued items r line tail between (inl (number, Content first ∷ rest, none, e, is)) begins =
    grind (arith, common_steps, open-goes_on, wanted-no_event, and_parts)
open-continued items r line tail between (inr (number, is)) begins = record {
  warnings = [];
  few = omega arith;
  number = number;
  same = cc (is, looked-here (reading_from compact_place true items) items number (Content line) tail begins);
}

-- ---- the end of the input

pub open-ends : (items : List (Item ReadEpoch)) (r : Reading ReadEpoch)
    → IsBetweenUnits items → IsOpen items r → EndsAfter (pending r.stop) items (ended_reading true r)
open-ends items r between (inl (number, [], text, e, is)) = grind arith
open-ends items r between (inl (number, line ∷ rest, text, e, is)) = grind (arith, ends-inside)
open-ends items r between (inr (number, is)) = record { warnings = []; few = omega arith; same = cc (is) }

pub open-items : (items : List (Item ReadEpoch)) (r : Reading ReadEpoch) → IsOpen items r → r.items ≡ items
open-items items r v1 = grind (arith)
