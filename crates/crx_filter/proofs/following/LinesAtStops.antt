-- One more line, wherever a reading has stopped.
use Rattle.crx_filter.proofs
use proofs.Vocabulary.{common_steps, ℕ, zero, suc, ◌≡◌, inl, ◌+◌, ◌<◌, Bool, true, false, cond, List, [], ◌∷◌}
use proofs.Vocabulary.{◌++◌, length, Option, Some, None, Result, refl, ap, sym, subst, ◌∙◌, arith, append-nil}
use proofs.Vocabulary.{append_assoc, ◌&&◌, ⊤, nat_lt, ReadLine, Content, Overlong, Fault}
use proofs.Vocabulary.{At, none-some, Place, NeedsMore, one_line, first_line}
use proofs.Vocabulary.{FileUnit, HeaderLine, EventLine, EventRecord, Observation, Item, Accepted, Warned}
use proofs.Vocabulary.{is_at_start, header_has_ended, records_left, records_count_types}
use proofs.Vocabulary.{types_in_force, unless_wrong, types_fault, header_line_fault, header_line, event_record}
use proofs.Vocabulary.{unit_place, Reading, Stop, AtFault, AtLines, Looking, can_go_on, reading_from}
use proofs.Vocabulary.{fault_at_end, continued_reading, Fed, fed, fed_once, fed_twice}
use proofs.Vocabulary.{is_again, written_lines, warnings_in, Phase, InHeader, BetweenUnits, InEvent, InEpoch}
use proofs.Vocabulary.{LookingOn, RunState, Made, Completes, Moves, Rejects, Direction, Notice, Step, made_of_unit}
use proofs.Vocabulary.{made_in, with_records_left, is_in_epoch, is_skipped_in, kept_in, failed_step}
use proofs.Vocabulary.{step_of_made, state_next, phase_in_body, phase_after_items, state_of, and_parts, by_bool}
use proofs.{ReadyLines.{again-lines, noticed-lines, failed-lines}, reading.Resuming.{from-wanted, looked-here}}
use proofs.following.Agreement.{Meaning, IsCarriedOut, IsSameUnit, Agrees, AgreeOn, AreKept, StandsAt, place}
use proofs.following.Agreement.{state_at, Follows, body-place, fed-once, fed-twice, failed-ends}
use proofs.following.Agreement.{failed-skipped}
use proofs.reading.{Resuming.{from-here, from-wrong, looked-on, wrong-within}, AcceptedUnits.allowed}
use proofs.Vocabulary.{false-true, length-append, state_end, max, ◌≤◌, drop, drop-append_seam, Done, Fails}
use proofs.Vocabulary.{looked_for}
use proofs.Vocabulary.{after_fault}
use Rattle.crx_filter.specs.LineByLine.{made_of_line}
use Rattle.crx_header.proofs.Counts.{types_of-push}

-- only in an epoch is a line fed again
pub quiet-elsewhere : {U O K : Type 0} (direction : Direction U O K) (state : RunState O K) (line : ReadLine)
    (made : Made U O) → is_in_epoch state.phase ≡ false → is_again
    (step_of_made direction state line made).answer ≡ false
quiet-elsewhere direction state line made e = grind (arith, common_steps)

-- ---- lines of the header, and an event's records

records-phase : {O : Type 0} (left : ℕ) (counted : Bool)
    → phase_in_body {O = O} left counted None ≡ with_records_left left counted
records-phase left counted = grind (arith, common_steps)

pub header-place : {E : Type 0} (beginning : List (Item E) → List ReadLine → Place (FileUnit E))
    (items : List (Item E)) (lines : List ReadLine) → header_has_ended items ≡ false
    → unit_place beginning items lines ≡ first_line lines (header_line (is_at_start items))
header-place beginning items lines e = rw e refl

pub record-place : {E : Type 0} (beginning : List (Item E) → List ReadLine → Place (FileUnit E))
    (items : List (Item E))
    (left : ℕ) (lines : List ReadLine) → header_has_ended items ≡ true → records_left items ≡ suc left
    → unit_place beginning items lines ≡ first_line lines (event_record (records_count_types items))
record-place beginning items left lines ended some = grind (arith, common_steps, nat_lt)

-- ---- a reading that has stopped

pub one_line-decided : {X : Type 0} (r : Result X Fault) → one_line r ≡ NeedsMore → ⊥
one_line-decided r e = grind (arith, common_steps)

-- if the first line is needed, none has been read
only_none : {X : Type 0} (read : List ℕ → Result X Fault) (ls : List ReadLine)
    → first_line ls read ≡ NeedsMore → ls ≡ []
only_none read ls e = grind (arith, common_steps, one_line-decided)

-- the stops that a reading can have before line `next`
abbrev pub IsStopped : {E : Type 0}
    → (List (Item E) → List ReadLine → Place (FileUnit E)) → List (Item E) → Stop → ℕ → Type 0
IsStopped place items (AtFault at) next = ⊤
IsStopped place items (AtLines number rest) next = (place items rest ≡ NeedsMore) × (number + length rest ≡
    next)
IsStopped place items (Looking number) next = (number ≡ next)
    × (header_has_ended items ≡ true) × (records_left items ≡ 0)

-- the end after whole units is no fault
pub closes-well : {E : Type 0} (items : List (Item E))
    → header_has_ended items ≡ true → records_left items ≡ 0 → fault_at_end items [] ≡ None
closes-well items e f = grind (arith, common_steps)

-- a line is looked at again if others came before it and it begins with >; otherwise none is found
module _ {E : Type 0} (read : ℕ → List ReadLine → Reading E) (items : List (Item E)) (number : ℕ)
    (rest : List ReadLine) (line : ReadLine) where
  abbrev looked : Reading E
  looked = looked_for read items (number + max (length rest) 1) (drop (max (length rest) 1) (rest ++ line ∷
      []))

  looked-again : (nat_lt 0 (length rest) && can_go_on line) ≡ true → looked ≡ read (number + length rest)
      (line ∷ [])
  looked-again goes = grind (arith, common_steps, max, drop-append_seam, looked-here)

  looked-off : (nat_lt 0 (length rest) && can_go_on line) ≡ false
      → (n : ℕ) × (looked ≡ record { items = items; stop = Looking n })
  looked-off stays = (number + length rest + 1, grind (arith, common_steps, max, drop-append_seam, looked-on))

-- ---- the outcome of a line that is fed twice

-- its outcome the second time, if it is fed again
abbrev pub last_made : {U O K : Type 0} → Direction U O K → RunState O K → ReadLine → Made U O
last_made direction state line =
    let one : Step _ _ = state_next direction state line in
    elim (is_again one.answer) [
      | true ↦ made_in direction one.next.phase one.next.types one.next.kept line
      | false ↦ made_in direction state.phase state.types state.kept line
    ]

pub last-once : {U O K : Type 0} (direction : Direction U O K) (state : RunState O K) (line : ReadLine)
    → is_again (state_next direction state line).answer ≡ false
    → last_made direction state line ≡ made_in direction state.phase state.types state.kept line
last-once direction state line e = rw (e, last_made) refl

pub last-twice : {U O K : Type 0} (direction : Direction U O K) (state : RunState O K) (line : ReadLine)
    → is_again (state_next direction state line).answer ≡ true
    → last_made direction state line ≡ made_in direction (state_next direction state line).next.phase
    (state_next direction state line).next.types (state_next direction state line).next.kept line
last-twice direction state line e = rw (e, last_made) refl

kept-with_records : {U O K : Type 0} (direction : Direction U O K) (left : ℕ) (counted : Bool) (kept : K)
    → kept_in direction (with_records_left left counted) kept ≡ kept
kept-with_records direction left counted kept = grind (arith, common_steps)

-- ---- one line more

module _ {E U O K : Type 0} {m : Meaning E U O K} (h : IsCarriedOut m) where
  -- if `P` holds of each phase in which a reading can expect more lines, it holds of this one
  pub by_phase : (P : List ReadLine → Phase O → Type 0) (items : List (Item E)) (rest : List ReadLine)
      → place m items rest ≡ NeedsMore → (header_has_ended items ≡ false → P [] (InHeader (is_at_start
      items))) → ((left : ℕ) → header_has_ended items ≡ true → records_left items ≡ suc left → P [] (InEvent
      (suc left) (records_count_types items))) → (header_has_ended items ≡ true → records_left items ≡ 0 → P
      [] BetweenUnits) → ((so_far : O) → header_has_ended items ≡ true → records_left items ≡ 0 → m.open_with
      items rest ≡ Some so_far → P rest (InEpoch so_far)) → P rest (phase_after_items items (m.open_with items
      rest))
  by_phase P items rest wanted header event between epoch =
      cases (header_has_ended items) refl (records_left items) refl (m.open_with items rest) refl
    where
      both : {ls : List ReadLine} {p : Phase O} → P ls p → rest ≡ ls → phase_after_items items
          (m.open_with items rest) ≡ p → P rest (phase_after_items items (m.open_with items rest))
      both {ls = ls} here lines phase = subst (λ l. P l (phase_after_items items (m.open_with items rest)))
          (sym lines) (subst (P ls) (sym phase) here)

      cases : (ended : Bool) → header_has_ended items ≡ ended → (left : ℕ) → records_left items ≡ left
          → (so_far : Option O) → m.open_with items rest ≡ so_far
          → P rest (phase_after_items items (m.open_with items rest))
      cases false e left some so_far opens = grind (arith, common_steps, both, only_none, header-place)
      cases true e (suc left) some so_far opens = grind (arith, common_steps, both, only_none, record-place)
      cases true e zero none None opens =
          grind (arith, common_steps, both, body-place, phase_in_body, records_count_types)
      cases true e zero none (Some so_far) opens =
          grind (arith, common_steps, both, phase_in_body, records_count_types)

  -- ---- the outcome of a line in a phase is the unit there

  -- a line that is a unit of its own, or has a fault
  copied-agrees : (items : List (Item E)) (phase : Phase O) (kept : K) (unit : List ℕ → FileUnit E)
      (same : List ℕ → FileUnit U) (fault_in : List ℕ → Option Fault) (line : ReadLine) → place m items (line
      ∷ []) ≡ first_line (line ∷ []) (λ l. unless_wrong (unit l) (fault_in l))
      → ((l : List ℕ) → IsSameUnit m items phase kept (unit l) (same l)) → Agrees m items phase kept (line ∷
      []) (made_of_line (λ l. made_of_unit (unless_wrong (same l) (fault_in l))) line)
  copied-agrees items phase kept unit same fault_in Overlong e s = (0, e)
  copied-agrees items phase kept unit same fault_in (Content l) e s = by_fault (fault_in l) e
    where
      by_fault : (o : Option Fault) → place m items (Content l ∷ []) ≡ one_line (unless_wrong (unit l) o)
          → Agrees m items phase kept (Content l ∷ []) (made_of_unit (unless_wrong (same l) o))
      by_fault None e = (1, unit l, e, s l)
      by_fault (Some fault) e = (0, e)

  -- between two units, and in an epoch
  body-agrees : (items : List (Item E)) (phase : Phase O) (kept : K) (lines : List ReadLine) (made : Made U O)
      → header_has_ended items ≡ true → records_left items ≡ 0 → AreKept m items kept
      → (length lines ≡ 1 → kept ≡ m.kept_of items) → AgreeOn m items lines made
      → Agrees m items phase kept lines made
  body-agrees items phase kept lines (Completes (EventLine l)) ended none keeps first agree =
      grind (arith, common_steps, body-place m.beginning items lines ended none, records-phase)
  body-agrees items phase kept lines (Completes (Observation held)) ended none keeps first agree =
      grind (arith, common_steps, body-place m.beginning items lines ended none)
  body-agrees items phase kept lines (Moves next) ended none keeps first agree =
      grind (arith, common_steps, body-place, h.open_open)
  body-agrees items phase kept lines (Rejects fault) ended none keeps first (offset, here) =
      (offset, body-place m.beginning items lines ended none ∙ here)
  body-agrees items phase kept lines made ended none keeps first agree = absurd agree

  some_lines : (items : List (Item E)) (so_far : O) (ls : List ReadLine)
      → m.open_with items ls ≡ Some so_far → 0 < length ls
  some_lines items so_far ls e = grind (arith, common_steps, none-some, h.none_open)

  -- the conditions if more lines are expected
  abbrev Stands : List (Item E) → List ReadLine → Phase O → Type 0
  Stands items rest phase = let kept : K = kept_in m.direction phase (m.kept_of items) in
      StandsAt m items rest phase kept × ((line : ReadLine) → Agrees m items phase kept (rest ++ line ∷ [])
      (made_in m.direction phase (types_in_force items) kept line))

  pub stands : (items : List (Item E)) (rest : List ReadLine) → place m items rest ≡ NeedsMore
      → Stands items rest (phase_after_items items (m.open_with items rest))
  stands items rest wanted = by_phase (Stands items) items rest wanted
      (λ e. (
        grind (arith, common_steps, h.forward, closes-well, nat_lt, state_end, some_lines, h.emptied_open),
        λ line. copied-agrees items _ _ HeaderLine HeaderLine (header_line_fault (is_at_start items)) line
            (header-place m.beginning items (line ∷ []) e)
            (λ l. grind (arith, common_steps, types_of-push, h.header)),
      ))
      (λ left e some. (
        grind (arith, common_steps, h.forward, closes-well, nat_lt, state_end, some_lines, h.emptied_open),
        λ line. copied-agrees items _ _ EventRecord EventRecord
            (λ l. cond (records_count_types items) (types_fault l) None) line
            (record-place m.beginning items left (line ∷ []) e some)
            (λ l. grind (arith, common_steps, records-phase, types_of-push, h.copied)),
      ))
      (λ e none. grind (arith, common_steps, closes-well, some_lines, body-agrees, inl))
      (λ so_far e none opens.
      grind (arith, common_steps, closes-well, some_lines, body-agrees, so_far, opens, length-append))

  -- while a line is looked for, the line at which reading resumes is read as between two units
  looking-stands : (items : List (Item E)) (line : ReadLine) → header_has_ended items ≡ true
      → records_left items ≡ 0 → can_go_on line ≡ true → StandsAt m items [] LookingOn (m.kept_of items)
      × Agrees m items LookingOn (m.kept_of items) (line ∷ [])
      (made_in m.direction LookingOn (types_in_force items) (m.kept_of items) line)
  looking-stands items line e none goes = grind (arith, common_steps, closes-well, body-agrees)

  -- ---- the effect of a step

  abbrev reads : List (Item E) → ℕ → List ReadLine → Reading E
  reads = reading_from (place m) m.choices.skip

  -- the state after `count` lines and their reading
  abbrev pub seen_after : ℕ → Reading E → RunState O K
  seen_after count r = state_of m.direction m.open_with m.kept_of m.choices count r

  abbrev pub FollowsAs : ℕ → List (Item E) → Reading E → Fed O K → Made U O → Type 0
  FollowsAs count items r = Follows m (seen_after count r) items r

  module _ (items : List (Item E)) (number count : ℕ) (rest : List ReadLine) (line : ReadLine) (phase : Phase
      O) (kept : K) (s : StandsAt m items rest phase kept) (counted : number + length rest ≡ count + 1) where
    abbrev state : RunState O K
    state = state_at m count phase items kept

    abbrev step : Made U O → Step O K
    step made = step_of_made m.direction state line made

    abbrev after : Reading E
    after = reads items number (rest ++ line ∷ [])

    abbrev AgreeHere : Made U O → Type 0
    AgreeHere = Agrees m items phase kept (rest ++ line ∷ [])

    -- its reading: a unit that it completes, or a fault that it decides, which ends with it
    last-here : (unit : FileUnit E) (lines : ℕ) → place m items (rest ++ line ∷ []) ≡ Done unit lines
        → after ≡ record { items = Accepted unit ∷ items; stop = AtLines (number + lines) [] }
    last-here unit lines e = from-here (place m) h.forward m.choices.skip items number (rest ++ line ∷ [])
        unit lines e ∙ grind (arith, common_steps, from-wanted, h.forward, s.wanted)

    pub wrong-last : (offset : ℕ) (fault : Fault)
        → place m items (rest ++ line ∷ []) ≡ Fails offset fault → offset ≡ length rest
    wrong-last offset fault e =
        let past : length rest ≤ offset = rw (s.wanted, e) at (h.forward.steady items rest (line ∷ [])) in
        let within = wrong-within (place m) h.forward items (rest ++ line ∷ []) offset fault e in
        omega (arith, past, within, length-append rest (line ∷ []))

    module _ (fault : Fault) (offset : ℕ) (e : place m items (rest ++ line ∷ []) ≡ Fails offset fault) where
      abbrev at : At
      at = record { line = count + 1; fault = fault }

      at-last : after ≡ after_fault m.choices.skip reads items number (rest ++ line ∷ []) (length rest) fault
      at-last = from-wrong (place m) h.forward m.choices.skip items number (rest ++ line ∷ []) (length rest)
          fault (e ∙ ap (λ n. Fails n fault) (wrong-last offset fault e))

      last-skips : is_skipped_in state fault ≡ true → after ≡ looked_for (reads (Warned at ∷ items))
          (Warned at ∷ items) (number + max (length rest) 1) (drop (max (length rest) 1) (rest ++ line ∷ []))
      last-skips on = at-last ∙ rw (s.skips fault ∙ on, counted, after_fault) refl

      -- its fault ends the run; or it is skipped, and reading resumes at this line, or finds no line to resume at
      last-ends : is_skipped_in state fault ≡ false → FollowsAs (count + 1) items after
          (fed_once (step (Rejects fault))) (Rejects fault)
      last-ends off = grind (arith, common_steps, at-last, fault, failed-ends)

      last-on : is_skipped_in state fault ≡ true → (is_in_epoch phase && can_go_on line) ≡ true
          → after ≡ reads (Warned at ∷ items) (count + 1) (line ∷ [])
      last-on on goes = last-skips on ∙ looked-again (reads (Warned at ∷ items)) (Warned at ∷ items) number
          rest line (rw (← s.inside) goes) ∙ ap (λ n. reads (Warned at ∷ items) n (line ∷ [])) counted

      last-off : is_skipped_in state fault ≡ true → (is_in_epoch phase && can_go_on line) ≡ false
          → FollowsAs (count + 1) items after (fed_once (step (Rejects fault))) (Rejects fault)
      last-off on stays = grind (arith, common_steps, last-skips, looked-off, failed-skipped, append-nil)

    followed-unit : (n : ℕ) (unit : FileUnit E) (held : FileUnit U) → IsSameUnit m items phase kept unit held
        → FollowsAs (count + 1) items (record { items = Accepted unit ∷ items; stop = AtLines n [] })
        (fed_once (step (Completes held))) (Completes held)
    followed-unit n unit held same = grind (arith, kept-with_records, noticed-lines, failed-lines)

    made-once : (made : Made U O) → Agrees m items phase kept (rest ++ line ∷ []) made
        → is_again (step made).answer ≡ false → FollowsAs (count + 1) items after (fed_once (step made)) made
    made-once (Completes held) (lines, unit, there, same) quiet = rw (last-here unit lines there)
        (followed-unit _ unit held same)
    made-once (Moves next) agree quiet = rw (from-wanted (place m) h.forward m.choices.skip items number
        (rest ++ line ∷ []) agree.0) (grind (arith, common_steps, append-nil))
    made-once (Rejects fault) (offset, there) quiet = by_bool (is_skipped_in state fault)
        (λ on. last-off fault offset there on (sym (ap (λ (t : Step _ _). is_again t.answer)
        (failed-skipped m.direction state line fault on)) ∙ quiet)) (last-ends fault offset there)
    made-once made agree quiet = absurd agree

  -- its warning, and then its outcome the second time
  followed-twice : (count : ℕ) (items : List (Item E)) (at : At) (r : Reading E) (next : RunState O K)
      (two : Step O K) (made : Made U O) → FollowsAs count (Warned at ∷ items) r (fed_once two) made
      → FollowsAs count items r (fed_twice (record { answer = Notice at true; handed_out = []; next = next })
      two) made
  followed-twice count items at r next two made f = grind (arith, common_steps, append_assoc, warnings_in)

  module _ (items : List (Item E)) (number count : ℕ) (rest : List ReadLine) (line : ReadLine) (phase : Phase
      O) (kept : K) (s : StandsAt m items rest phase kept) (counted : number + length rest ≡ count + 1) where
    abbrev here : RunState O K
    here = state_at m count phase items kept

    abbrev one : Made U O → Step O K
    one made = step_of_made m.direction here line made

    made-again : (made : Made U O) → Agrees m items phase kept (rest ++ line ∷ []) made
        → is_again (one made).answer ≡ true → FollowsAs (count + 1) items (reads items number (rest ++ line ∷
        [])) (fed_twice (one made) (state_next m.direction (one made).next line))
        (made_in m.direction (one made).next.phase (one made).next.types (one made).next.kept line)
    made-again (Rejects fault) (offset, there) on = by_bool (is_skipped_in here fault) (λ skipped.
        let both : (is_in_epoch phase && can_go_on line) ≡ true = sym (ap (λ (t : Step _ _). is_again
        t.answer) (failed-skipped m.direction here line fault skipped)) ∙ on in
        let at : At = record { line = count + 1; fault = fault } in
        let then : List (Item E) = Warned at ∷ items in
        let looking : RunState O K = state_at m count LookingOn then (m.kept_of then) in
        let is_one : failed_step m.direction here line fault
        ≡ record { answer = Notice at true; handed_out = []; next = looking } =
        rw (skipped, both, s.emptied, h.warned items at) refl in
        let stands = looking-stands then line (allowed m.choices.skip items fault (s.skips fault ∙ skipped)).0
        refl (and_parts (is_in_epoch phase) (can_go_on line) both).1 in
        rw (last-on items number count rest line phase kept s counted fault offset there skipped both, is_one)
        (followed-twice (count + 1) items at _ looking _ _ (made-once then (count + 1) count [] line LookingOn
        (m.kept_of then) stands.0 (omega arith) _ stands.1 (quiet-elsewhere m.direction looking line _
        refl))))
        (λ off. grind (arith, common_steps, false-true, failed-ends m.direction here line fault off))
    made-again (Completes held) agree on = false-true (sym (again-lines (m.direction.written here held)) ∙ on)
    made-again made agree on = false-true on

    here-line : Agrees m items phase kept (rest ++ line ∷ [])
        (made_in m.direction phase (types_in_force items) kept line) → FollowsAs (count + 1) items
        (reads items number (rest ++ line ∷ [])) (fed m.direction here line) (last_made m.direction here line)
    here-line agree =
        let made = made_in m.direction phase (types_in_force items) kept line in
        by_bool (is_again (one made).answer)
        (λ on. rw (fed-twice m.direction here line on, last-twice m.direction here line on) (made-again made
        agree on))
        (λ off. rw (fed-once m.direction here line off, last-once m.direction here line off)
        (made-once items number count rest line phase kept s counted made agree off))

  pub next-line : (items : List (Item E)) (stop : Stop) (count : ℕ) (line : ReadLine)
      → IsStopped (place m) items stop (count + 1) →
      let state : RunState O K = seen_after count (record { items = items; stop = stop }) in
      FollowsAs (count + 1) items (continued_reading
      (place m) m.choices.skip (record { items = items; stop = stop }) (line ∷ []))
      (fed m.direction state line) (last_made m.direction state line)
  next-line items (AtFault at) count line stopped = grind (arith, common_steps, append-nil, written_lines)
  next-line items (AtLines number rest) count line stopped =
      let all = stands items rest stopped.0 in
      here-line items number count rest line _ _ all.0 stopped.1 (all.1 line)
  next-line items (Looking number) count line stopped = by_bool (can_go_on line) (λ on.
      let all = looking-stands items line stopped.1 stopped.2 on in
      rw (looked-here (reads items) items number line [] on) (here-line items number count [] line LookingOn
      (m.kept_of items) all.0 (omega (arith, stopped.0)) all.1))
      (λ off. grind (arith, common_steps, looked-on (reads items) items number line, fed-once, last-once))
