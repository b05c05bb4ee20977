-- One more line, as it is fed and as it is read: the same in every direction.
use Rattle.crx_filter.proofs
use proofs.Vocabulary.{ℕ, ◌≡◌, ◌⊎◌, ◌+◌, true, false, List, [], ◌∷◌, ◌++◌, length}
use proofs.Vocabulary.{Option, Some, None, refl, ◌&&◌, nat_lt}
use proofs.Vocabulary.{ReadLine, Fault, At, Place, Done, Fails, NeedsMore, FileUnit}
use proofs.Vocabulary.{HeaderLine, EventLine, EventRecord, Observation, Choices, Count, Item, Accepted, Warned}
use proofs.Vocabulary.{is_at_start, header_has_ended, records_left, records_count_types, types_in_force}
use proofs.Vocabulary.{unit_place, Reading, is_skipped, can_go_on}
use proofs.Vocabulary.{is_skippable, fault_at_end, Phase, InHeader, InEvent, InEpoch}
use proofs.Vocabulary.{RunState, Made, Completes, Moves, Rejects, Direction, Notice, Failed, Ended, phase_after}
use proofs.Vocabulary.{types_after, may_skip, is_in_epoch, is_skipped_in, kept_in, with_phase, after_warning}
use proofs.Vocabulary.{failed_step, state_next, phase_after_items, IsReadForward, fed, fed_once, fed_twice}
use proofs.Vocabulary.{is_again, state_end, IsFollowed, Fed, written_lines, warnings_in, fault_of_stop}
use Rattle.crx_filter.specs.{LineByLine.end_step}
pub use Rattle.crx_filter.proofs.ReadyLines.{state_in}

-- ---- the conditions of a direction

-- the definitions of whole inputs for a direction, with the user's options: the unit at lines that may begin an epoch
-- or an event, and the epoch that they leave open; the state kept after some items; and the lines of a unit
pub record Meaning (E U O K : Type 0) : Type 0 where
  pub direction : Direction U O K
  pub choices : Choices
  pub beginning : List (Item E) → List ReadLine → Place (FileUnit E)
  pub open_with : List (Item E) → List ReadLine → Option O
  pub kept_of : List (Item E) → K
  pub unit_lines : List (Item E) → FileUnit E → List (List ℕ)

module _ {E U O K : Type 0} (m : Meaning E U O K) where
  abbrev pub place : List (Item E) → List ReadLine → Place (FileUnit E)
  place = unit_place m.beginning

  -- the state after `count` lines, from which these items were read
  abbrev pub state_at : ℕ → Phase O → List (Item E) → K → RunState O K
  state_at count phase items kept = state_in m.choices count phase (types_in_force items) kept

  -- the state kept between two units, and in an epoch
  abbrev pub AreKept : List (Item E) → K → Type 0
  AreKept items kept = (kept ≡ m.kept_of items) ⊎ (kept ≡ m.direction.kept_open (m.kept_of items))

  -- the same of a unit is kept and written line by line as in the whole reading
  abbrev pub IsTaken : List (Item E) → RunState O K → FileUnit E → FileUnit U → Type 0
  IsTaken items state unit held = (m.direction.kept_after state held ≡ m.kept_of (Accepted unit ∷ items))
      × (m.direction.written state held ≡ m.unit_lines items unit)

  -- an epoch that is read, and the same epoch line by line
  pub record IsSameEpoch (items : List (Item E)) (epoch : E) (held : U) : Type 0 where
    pub taken : (number : ℕ) (phase : Phase O) (types : List Count) (kept : K) → AreKept items kept
        → IsTaken items (state_in m.choices number phase types kept) (Observation epoch) (Observation held)

  -- the unit at lines that may begin an epoch or an event, and the outcome of the last of them
  abbrev pub AgreeOn : List (Item E) → List ReadLine → Made U O → Type 0
  AgreeOn items lines (Completes (EventLine line)) = (count : ℕ)
      × (m.beginning items lines ≡ Done (EventLine line) count) × (length lines ≡ 1)
  AgreeOn items lines (Completes (Observation held)) = (count : ℕ) × (epoch : E)
      × (m.beginning items lines ≡ Done (Observation epoch) count) × IsSameEpoch items epoch held
  AgreeOn items lines (Moves phase) = (so_far : O) × (phase ≡ InEpoch so_far)
      × (m.beginning items lines ≡ NeedsMore) × (m.open_with items lines ≡ Some so_far)
  AgreeOn items lines (Rejects fault) = (offset : ℕ) × (m.beginning items lines ≡ Fails offset fault)
  AgreeOn items lines made = ⊥

  -- a direction that reads, keeps and writes as the whole reading does
  pub record IsCarriedOut : Type 0 where
    pub forward : IsReadForward place
    pub wants : (items : List (Item E)) → m.beginning items [] ≡ NeedsMore
    pub none_open : (items : List (Item E)) → m.open_with items [] ≡ None
    pub wanted_open : (items : List (Item E)) (lines : List ReadLine)
        → m.beginning items lines ≡ NeedsMore → m.open_with items lines ≡ None → lines ≡ []
    pub begins : (items : List (Item E)) (line : ReadLine)
        → AgreeOn items (line ∷ []) (m.direction.begins (types_in_force items) (m.kept_of items) line)
    pub continues : (items : List (Item E)) (lines : List ReadLine) (line : ReadLine) (so_far : O)
        → m.open_with items lines ≡ Some so_far
        → AgreeOn items (lines ++ line ∷ []) (m.direction.continues so_far line)
    pub header : (items : List (Item E)) (number : ℕ) (types : List Count) (line : List ℕ)
        → IsTaken items (state_in m.choices number (InHeader (is_at_start items)) types (m.kept_of items))
        (HeaderLine line) (HeaderLine line)
    pub event : (items : List (Item E)) (number : ℕ) (phase : Phase O) (types : List Count) (line : List ℕ)
        → IsTaken items (state_in m.choices number phase types (m.kept_of items)) (EventLine line) (EventLine
        line)
    pub copied : (items : List (Item E)) (number left : ℕ) (types : List Count) (line : List ℕ)
        → IsTaken items (state_in m.choices number (InEvent left (records_count_types items)) types
        (m.kept_of items)) (EventRecord line) (EventRecord line)
    pub warned : (items : List (Item E)) (at : At) → m.direction.emptied (m.kept_of items)
        ≡ m.kept_of (Warned at ∷ items)
    pub emptied_open : (kept : K) → m.direction.emptied (m.direction.kept_open kept) ≡ m.direction.emptied
        kept
    pub open_open : (kept : K) → m.direction.kept_open (m.direction.kept_open kept) ≡ m.direction.kept_open
        kept

  -- ---- in each phase

  -- a unit that is read in a phase, and the same unit line by line: its consequences, and its lines
  pub record IsSameUnit (items : List (Item E)) (phase : Phase O) (kept : K) (unit : FileUnit E)
      (held : FileUnit U) : Type 0 where
    pub phases : phase_after_items {O = O} (Accepted unit ∷ items) None ≡ phase_after phase held
    pub types : types_in_force (Accepted unit ∷ items) ≡ types_after phase (types_in_force items) held
    pub taken : (count : ℕ) → IsTaken items (state_at count phase items kept) unit held

  -- the unit at some lines, and the outcome of the last of them
  abbrev pub Agrees : List (Item E) → Phase O → K → List ReadLine → Made U O → Type 0
  Agrees items phase kept lines (Completes held) = (count : ℕ) × (unit : FileUnit E)
      × (place items lines ≡ Done unit count) × IsSameUnit items phase kept unit held
  Agrees items phase kept lines (Moves next) = (place items lines ≡ NeedsMore)
      × (phase_after_items items (m.open_with items lines) ≡ next)
      × (kept_in m.direction next (m.kept_of items) ≡ kept_in m.direction next kept)
  Agrees items phase kept lines (Rejects fault) = (offset : ℕ) × (place items lines ≡ Fails offset fault)
  Agrees items phase kept lines made = ⊥

  -- a phase agrees with these items and lines: more lines are expected; faults are skipped in both; an epoch is open
  -- if there are lines; and the state after a fault and the fault at the end are the same
  pub record StandsAt (items : List (Item E)) (rest : List ReadLine) (phase : Phase O) (kept : K) : Type 0
    where
      pub wanted : place items rest ≡ NeedsMore
      pub skips : (fault : Fault) → is_skipped m.choices.skip items fault
          ≡ (m.choices.skip && (may_skip phase && is_skippable fault))
      pub inside : is_in_epoch phase ≡ nat_lt 0 (length rest)
      pub emptied : m.direction.emptied kept ≡ m.direction.emptied (m.kept_of items)
      pub ends : (count : ℕ) → state_end m.direction (state_at count phase items kept)
          ≡ end_step m.direction [] (state_at count phase items kept) (fault_at_end items rest)

  -- a reading after these items, and the state after it, if one more line is fed with this effect and this outcome
  pub record Follows (state_then : RunState O K) (items : List (Item E)) (r : Reading E) (line_fed : Fed O K)
      (made : Made U O) : Type 0 where
    pub followed : IsFollowed state_then (written_lines m.unit_lines items) (written_lines m.unit_lines
        r.items) (warnings_in items) (warnings_in r.items) (fault_of_stop r.stop) line_fed

-- between two units, after the header
pub body-place : {E : Type 0} (beginning : List (Item E) → List ReadLine → Place (FileUnit E))
    (items : List (Item E)) (lines : List ReadLine) → header_has_ended items ≡ true
    → records_left items ≡ 0 → unit_place beginning items lines ≡ beginning items lines
body-place beginning items lines ended none = rw (ended, none) refl

-- ---- feeding a line

module _ {U O K : Type 0} (direction : Direction U O K) where
  pub fed-once : (state : RunState O K) (line : ReadLine) → is_again (state_next direction state line).answer
      ≡ false → fed direction state line ≡ fed_once (state_next direction state line)
  fed-once state line e = rw (e, fed) refl

  pub fed-twice : (state : RunState O K) (line : ReadLine)
      → is_again (state_next direction state line).answer ≡ true → fed direction state line ≡ fed_twice
      (state_next direction state line) (state_next direction (state_next direction state line).next line)
  fed-twice state line e = rw (e, fed) refl

  pub failed-ends : (state : RunState O K) (line : ReadLine) (fault : Fault)
      → is_skipped_in state fault ≡ false → failed_step direction state line fault ≡ record {
        answer = Failed (record { line = state.number + 1; fault = fault });
        handed_out = [];
        next = with_phase direction state (Ended (record { line = state.number + 1; fault = fault }));
      }
  failed-ends state line fault e = rw e refl

  pub failed-skipped : (state : RunState O K) (line : ReadLine) (fault : Fault)
      → is_skipped_in state fault ≡ true → failed_step direction state line fault ≡ record {
        answer = Notice
            (record { line = state.number + 1; fault = fault }) (is_in_epoch state.phase && can_go_on line);
        handed_out = [];
        next = after_warning direction state (is_in_epoch state.phase && can_go_on line);
      }
  failed-skipped state line fault e = rw e refl
