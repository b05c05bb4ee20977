-- A property of each possible unit at some lines holds of the unit that is read there.
use Rattle.crx_filter.proofs.Vocabulary
use Vocabulary.{common_steps, [], take, ℕ, zero, suc, ◌≡◌, nat_lt, rules, ◌<◌, Bool, true, false, cond, List, ◌∷◌}
use Vocabulary.{Option, Some, None, Result, Ok, Err, refl, ap, arith, ⊤, is_some, character_at, ReadLine, Content}
use Vocabulary.{Overlong, Fault, BadEpoch, LineTooLong, is_event_line, records_in, event_head, epoch_head, Count}
use Vocabulary.{Beginning, EventBegins, EpochBegins, opened, begun_by, beginning_of, rest_at, unit_begun}
use Vocabulary.{epoch_place, Epoch, Place, Done, Fails, NeedsMore, after_lines, then_place, one_line, first_line}
use Vocabulary.{FileUnit, HeaderLine, EventLine, EventRecord, Observation, ReadEpoch, epoch_at, RawEpoch, Item}
use Vocabulary.{is_at_start, header_has_ended, records_left, records_count_types, unless_wrong, types_fault}
use Vocabulary.{header_line_fault, unit_place, event_line, as_observation, compact_epoch_place, by_bool}

-- a property of two values holds of the one that is chosen
pub chosen : {A : Type 0} (P : A → Type 0) (b : Bool) (x y : A) → P x → P y → P (cond b x y)
chosen P other x y h k = grind (arith, common_steps)

-- ---- units that may begin at a line of RINEX

-- a line begins an event only if it is an event's first one
abbrev IsBeginning : List ℕ → Result Beginning Fault → Type 0
IsBeginning line (Ok (EventBegins event)) =
    (event ≡ line) × (is_event_line line ≡ true) × (is_some (records_in line) ≡ true)
IsBeginning line r = ⊤

event-begun : (line : List ℕ) (o : Option ℕ) → is_event_line line ≡ true
    → records_in line ≡ o → IsBeginning line (begun_by line (event_head (character_at line 32) o))
event-begun line v1 e f = grind (arith)

epoch-begun : (line : List ℕ) (o : Option ℕ) → IsBeginning line (begun_by line (epoch_head line o))
epoch-begun line v1 = grind (arith)

line-begun : (line : List ℕ) → IsBeginning line (beginning_of line)
line-begun line = grind (arith, common_steps, event-begun, epoch-begun)

-- ---- facts at every place of a unit

module _ {E : Type 0} (P : Place (FileUnit E) → Type 0) (wanted : P NeedsMore)
    (wrong : (offset : ℕ) (fault : Fault) → P (Fails offset fault)) where
  -- a copied line, unless it has a fault
  copied-line : (unit : List ℕ → FileUnit E) (fault_in : List ℕ → Option Fault) (lines : List ReadLine)
      → ((line : List ℕ) (rest : List ReadLine) → lines ≡ Content line ∷ rest → fault_in line ≡ None
      → P (Done (unit line) 1)) → P (first_line lines (λ line. unless_wrong (unit line) (fault_in line)))
  copied-line unit fault_in lines h = grind (arith, common_steps)

  -- a header line, an event's record, or a unit that may begin there
  pub of-unit : (beginning : List (Item E) → List ReadLine → Place (FileUnit E)) (items : List (Item E))
      (lines : List ReadLine) → ((line : List ℕ) (rest : List ReadLine) → lines ≡ Content line ∷ rest
      → header_has_ended items ≡ false → header_line_fault (is_at_start items) line ≡ None → P
      (Done (HeaderLine line) 1)) → ((line : List ℕ) (rest : List ReadLine) → lines ≡ Content line ∷ rest
      → header_has_ended items ≡ true → 0 < records_left items → cond (records_count_types items)
      (types_fault line) None ≡ None → P (Done (EventRecord line) 1)) → (header_has_ended items ≡ true
      → records_left items ≡ 0 → P (beginning items lines)) → P (unit_place beginning items lines)
  of-unit beginning items lines header copied begun = by_bool (header_has_ended items)
      (λ on. body on (records_left items) refl) (λ off. rw off (copied-line HeaderLine
      (header_line_fault (is_at_start items)) lines (λ line rest is. header line rest is off)))
    where
      body : header_has_ended items ≡ true → (n : ℕ) → records_left items ≡ n
          → P (unit_place beginning items lines)
      body on zero none = rw (on, none) (begun on none)
      body on (suc left) some =
          let more : nat_lt 0 (suc left) ≡ true = search rules in
          rw (on, some, more) (copied-line EventRecord
          (λ line. cond (records_count_types items) (types_fault line) None) lines
          (λ line rest is. copied line rest is on (omega (arith, some))))

  observed : (p : Place E) → ((epoch : E) (count : ℕ) → p ≡ Done epoch count
      → P (Done (Observation epoch) count)) → P (as_observation p)
  observed p h = grind (arith, common_steps)

-- the beginning of an epoch or an event of RINEX
module _ (P : Place (FileUnit Epoch) → Type 0) (wanted : P NeedsMore)
    (wrong : (offset : ℕ) (fault : Fault) → P (Fails offset fault)) where
  pub of-rinex : (types : List Count) (lines : List ReadLine) → ((line : List ℕ) (rest : List ReadLine)
      → lines ≡ Content line ∷ rest → is_event_line line ≡ true → is_some (records_in line) ≡ true → P
      (Done (EventLine line) 1)) → ((epoch : Epoch) (count : ℕ) → epoch_place types lines ≡ Done
      (Observation epoch) count → P (Done (Observation epoch) count)) → P (epoch_place types lines)
  of-rinex types [] event epoch = wanted
  of-rinex types (Overlong ∷ lines) event epoch = wrong 0 LineTooLong
  of-rinex types (Content line ∷ lines) event epoch = by_beginning (beginning_of line) refl (line-begun line)
    where
      by_rest : (head : _) → beginning_of line ≡ Ok (EpochBegins head) → (p : Place Epoch)
          → rest_at (opened types head) lines ≡ p
          → P (after_lines 1 (then_place p lines (λ (e : Epoch) rest. Done (Observation e) 0)))
      by_rest head e h f = grind (arith, common_steps)

      by_beginning : (r : Result Beginning Fault) → beginning_of line ≡ r → IsBeginning line r
          → P (then_place (one_line r) (Content line ∷ lines) (unit_begun types))
      by_beginning (Err fault) e h = wrong 0 fault
      by_beginning (Ok (EventBegins other)) e h = rw h.0 (event line lines refl h.1 h.2)
      by_beginning (Ok (EpochBegins head)) e h = by_rest head e (rest_at (opened types head) lines) refl

-- the beginning of an epoch or an event of compact text
module _ (P : Place (FileUnit ReadEpoch) → Type 0) (wanted : P NeedsMore)
    (wrong : (offset : ℕ) (fault : Fault) → P (Fails offset fault)) where
  pub of-compact : (types : List Count) (raws : List RawEpoch) (lines : List ReadLine) → ((line : List ℕ)
      (rest : List ReadLine) → lines ≡ Content line ∷ rest → is_event_line line ≡ true → is_some (records_in
      line) ≡ true → P (Done (EventLine line) 1)) → ((read : ReadEpoch) (count : ℕ) → epoch_at types raws
      lines ≡ Done read count → P (Done (Observation read) count)) → P (compact_epoch_place types raws lines)
  of-compact types raws [] event read = wanted
  of-compact types raws (Overlong ∷ lines) event read = observed P wanted wrong _ read
  of-compact types raws (Content line ∷ lines) event read = by_bool (is_event_line line)
      (λ on. rw on (by_count on (records_in line) refl)) (λ off. rw off (observed P wanted wrong _ read))
    where
      by_count : is_event_line line ≡ true → (o : Option ℕ) → records_in line ≡ o
          → P (one_line (event_line line))
      by_count on None e = rw (e, event_line) (wrong 0 BadEpoch)
      by_count on (Some count) e = rw (e, event_line) (event line lines refl on (ap is_some e))

-- ---- the unit at a place

-- a copied line is the first of some lines, if it may be there; and an epoch is read from them, between units
abbrev pub StandsAt : {E : Type 0} → (List ReadLine → E → ℕ → Type 0) → List (Item E) → List ReadLine
    → FileUnit E → ℕ → Type 0
StandsAt IsRead items lines (HeaderLine line) count = (take count lines ≡ Content line ∷ [])
    × (header_has_ended items ≡ false) × (header_line_fault (is_at_start items) line ≡ None)
StandsAt IsRead items lines (EventLine line) count = (take count lines ≡ Content line ∷ [])
    × (header_has_ended items ≡ true) × (records_left items ≡ 0) × (is_event_line line ≡ true)
    × (is_some (records_in line) ≡ true)
StandsAt IsRead items lines (EventRecord line) count = (take count lines ≡ Content line ∷ [])
    × (header_has_ended items ≡ true) × (0 < records_left items)
    × (cond (records_count_types items) (types_fault line) None ≡ None)
StandsAt IsRead items lines (Observation epoch) count =
    (header_has_ended items ≡ true) × (records_left items ≡ 0) × IsRead lines epoch count

abbrev pub Stands : {E : Type 0} → (List ReadLine → E → ℕ → Type 0) → List (Item E) → List ReadLine
    → Place (FileUnit E) → Type 0
Stands IsRead items lines (Done unit count) = StandsAt IsRead items lines unit count
Stands IsRead items lines p = ⊤
