-- A restart in the reading of compact text: from there on the reading depends only on the types in force.
use Rattle.crx_filter.proofs
use proofs.Vocabulary.{common_steps, [], ℕ, zero, suc, ◌≡◌, ◌+◌, ◌<◌, max, Bool, true, List, ◌∷◌, ◌++◌, drop}
use proofs.Vocabulary.{Option, refl, ap, sym, ◌∙◌, arith, subst, append-nil, append_assoc, and_parts, ⊤, ReadLine}
use proofs.Vocabulary.{expanded_lines, printed_unit, fault_at_end, ended_with, ended_reading, Content, Overlong}
use proofs.Vocabulary.{Fault, At, begins_epoch, is_event_line, Place, Done, FileUnit, HeaderLine, EventRecord}
use proofs.Vocabulary.{block_of, ReadEpoch, epoch_at, Item, Accepted, Warned, header_has_ended, records_left}
use proofs.Vocabulary.{records_count_types, types_in_force, Reading, Stop, AtFault, AtLines, Looking, is_skipped}
use proofs.Vocabulary.{looked_for, reading_within, after_fault, raws_kept, empties_state, compact_place}
use proofs.Vocabulary.{starts_anew, GoOnAlike, by_bool, IsBetweenUnits, WholeReading, reading_from, EventLine}
use proofs.Vocabulary.{Observation, inl, inr, ◌⊎◌, ◌-◌}
use Rattle.{std.specs.Option.option_map, crx_filter.specs.meaning.Expanded.rinex_unit}
use Rattle.{crx_compact.proofs.reading.Forgetting.forgets, crx_filter.specs.Anew.DependsOnTypes}
use Rattle.crx_header.proofs.Counts.{types_of-push}
use proofs.{following.{Agreement.body-place, LinesAtStops.record-place}, reading.ForwardCompact.compact_beginning}
use proofs.reading.{Resuming.by_place, UnitsAtLines.{of-unit, of-compact}}

-- ---- two lists of items that are alike

-- both are in the body of a file, with the same number of records still to be read and the same types
pub record AreAlike (a b : List (Item ReadEpoch)) : Type 0 where
  pub one : header_has_ended a ≡ true
  pub two : header_has_ended b ≡ true
  pub left : records_left a ≡ records_left b
  pub counts : 0 < records_left a → records_count_types a ≡ records_count_types b
  pub types : types_in_force a ≡ types_in_force b

-- the next lines continue from the same block, or reading restarts at these lines
abbrev GoesOn : List (Item ReadEpoch) → List (Item ReadEpoch) → List ReadLine → Type 0
GoesOn a b lines =
    (block_of (raws_kept a) ≡ block_of (raws_kept b)) ⊎ (starts_anew (records_left a) lines ≡ true)

record AreSame (a b : List (Item ReadEpoch)) (lines : List ReadLine) : Type 0 where
  alike : AreAlike a b
  goes_on : GoesOn a b lines

-- the units that may follow some items
abbrev MayFollow : List (Item ReadEpoch) → FileUnit ReadEpoch → Type 0
MayFollow items (HeaderLine line) = ⊥
MayFollow items (EventRecord line) = 0 < records_left items
MayFollow items unit = ⊤

alike-unit : (a b : List (Item ReadEpoch)) (unit : FileUnit ReadEpoch)
    → MayFollow a unit → AreAlike a b → AreAlike (Accepted unit ∷ a) (Accepted unit ∷ b)
alike-unit a b unit f h = grind (arith, common_steps, types_of-push)

same-warned : (a b : List (Item ReadEpoch)) (at other : At) (lines : List ReadLine)
    → AreAlike a b → AreSame (Warned at ∷ a) (Warned other ∷ b) lines
same-warned a b at other lines h = record { alike = grind arith; goes_on = inl refl }

record-passed : (left : ℕ) (line : ReadLine) (lines : List ReadLine) → 0 < left
    → starts_anew left (line ∷ lines) ≡ true → starts_anew (left - 1) lines ≡ true
record-passed zero line lines some anew = absurd (omega arith)
record-passed (suc left) line lines some anew =
    let same : suc left - 1 ≡ left = omega arith in
    rw same anew

module _ (a b : List (Item ReadEpoch)) (h : AreAlike a b) where
  -- ---- the same unit at the same lines

  record-same : (left : ℕ) (lines : List ReadLine) → records_left a ≡ suc left
      → compact_place a lines ≡ compact_place b lines
  record-same left lines some = grind (arith, common_steps, record-place)

  anew-same : (lines : List ReadLine) → records_left a ≡ 0 → starts_anew 0 lines ≡ true
      → compact_place a lines ≡ compact_place b lines
  anew-same [] none anew = grind (arith, body-place)
  anew-same (Overlong ∷ lines) none anew = absurd (cc)
  anew-same (Content line ∷ lines) none anew = grind (arith, common_steps, body-place, and_parts, forgets, h)

  place-same : (lines : List ReadLine) → GoesOn a b lines → (n : ℕ) → records_left a ≡ n
      → compact_place a lines ≡ compact_place b lines
  place-same lines (inl same) zero none = grind arith
  place-same lines (inr anew) zero none = anew-same lines none (rw none at anew)
  place-same lines goes_on (suc left) some = record-same left lines some

  -- ---- after the unit that is read

  record-block : (line : List ℕ) → 0 < records_left a → block_of (raws_kept a) ≡ block_of (raws_kept b)
      → block_of (raws_kept (Accepted (EventRecord line) ∷ a))
      ≡ block_of (raws_kept (Accepted (EventRecord line) ∷ b))
  record-block line some same = grind (arith, common_steps, by_bool, empties_state, records_count_types)

  record-on : (line : List ℕ) (lines : List ReadLine) → 0 < records_left a → GoesOn a b (Content line ∷ lines)
      → GoesOn (Accepted (EventRecord line) ∷ a) (Accepted (EventRecord line) ∷ b) lines
  record-on line lines some (inl same) = inl (record-block line some same)
  record-on line lines some (inr anew) = inr (record-passed (records_left a) (Content line) lines some anew)

  event-on : (line : List ℕ) (lines : List ReadLine) → records_left a ≡ 0 → is_event_line line ≡ true
      → GoesOn a b (Content line ∷ lines)
      → GoesOn (Accepted (EventLine line) ∷ a) (Accepted (EventLine line) ∷ b) lines
  event-on line lines none is goes_on = grind (arith, common_steps, and_parts)

  -- an epoch whose line begins with > is its block's first
  epoch-on : (lines : List ReadLine) (read : ReadEpoch) (count : ℕ) → records_left a ≡ 0
      → epoch_at (types_in_force a) (raws_kept a) lines ≡ Done read count → GoesOn a b lines
      → block_of (read.raw ∷ raws_kept a) ≡ block_of (read.raw ∷ raws_kept b)
  epoch-on lines read count none e (inl same) = grind (arith, common_steps)
  epoch-on [] read count none e (inr anew) = absurd (cc)
  epoch-on (Overlong ∷ lines) read count none e (inr anew) = absurd (cc)
  epoch-on (Content line ∷ lines) read count none e (inr anew) =
      let begins = (and_parts (begins_epoch line) _ (rw none at anew)).0 in
      let one = forgets (types_in_force a) (raws_kept a) line lines begins in
      let two = forgets (types_in_force a) (raws_kept b) line lines begins in
      one.block read count e ∙ sym (two.block read count (two.place ∙ sym one.place ∙ e))

  abbrev Next : List ReadLine → Place (FileUnit ReadEpoch) → Type 0
  Next lines (Done unit count) = AreSame (Accepted unit ∷ a) (Accepted unit ∷ b) (drop count lines)
  Next lines p = ⊤

  next-same : (lines : List ReadLine) → GoesOn a b lines → Next lines (compact_place a lines)
  next-same lines goes_on = of-unit (Next lines) tt (λ offset fault. tt) compact_beginning a lines
      (λ line rest is open_header good. absurd (cc))
      (λ line rest is on some good.
      grind (arith, common_steps, alike-unit a b (EventRecord line) some h, record-on line rest some))
      (λ on none. of-compact (Next lines) tt (λ offset fault. tt) (types_in_force a) (raws_kept a) lines
      (λ line rest is event counted. grind (arith, common_steps, alike-unit, event-on))
      (λ read count e. record {
        alike = alike-unit a b (Observation read) tt h;
        goes_on = inl (epoch-on lines read count none e goes_on);
      }))

-- ---- the same units are read

skipped-alike : (skip : Bool) (a b : List (Item ReadEpoch)) (fault : Fault)
    → AreAlike a b → is_skipped skip a fault ≡ is_skipped skip b fault
skipped-alike skip a b fault h = rw (h.one, h.two, h.left) refl

-- a fault without the number of its line
abbrev kind_of : WholeReading ReadEpoch → Option Fault
kind_of whole = option_map (λ (at : At). at.fault) whole.fault

end-alike : (a b : List (Item ReadEpoch)) (lines : List ReadLine)
    → AreAlike a b → fault_at_end a lines ≡ fault_at_end b lines
end-alike a b lines h4 = grind (arith, common_steps)

ended-alike : (skip : Bool) (a b : List (Item ReadEpoch)) (m n : ℕ) (o : Option Fault)
    → AreAlike a b → kind_of (ended_with skip a m o) ≡ kind_of (ended_with skip b n o)
ended-alike skip a b m n o h = grind (arith, common_steps, skipped-alike)

-- two readings, each after some items, write the same and end alike; and if they began at lines of the same number,
-- they continue with the same items
pub record AreReadAlike (one_number : Type 0) (skip : Bool) (a b : List (Item ReadEpoch))
    (one two : Reading ReadEpoch) : Type 0 where
  pub same : one_number → GoOnAlike a b one two
  pub lines : List (List ℕ)
  pub first : expanded_lines one.items ≡ expanded_lines a ++ lines
  pub second : expanded_lines two.items ≡ expanded_lines b ++ lines
  pub ended : kind_of (ended_reading skip one) ≡ kind_of (ended_reading skip two)

module _ (one_number : Type 0) (skip : Bool) where
  abbrev Alike : (a b : List (Item ReadEpoch)) (one two : Reading ReadEpoch) → Type 0
  Alike = AreReadAlike one_number skip

  onto : {a b : List (Item ReadEpoch)} {item other : Item ReadEpoch} {one two : Reading ReadEpoch}
      → Alike (item ∷ a) (other ∷ b) one two → (one_number → item ≡ other) → (text : List (List ℕ))
      → expanded_lines (item ∷ a) ≡ expanded_lines a ++ text
      → expanded_lines (other ∷ b) ≡ expanded_lines b ++ text → Alike a b one two
  onto {a = a} {b = b} {item = item} h number text e f = record {
    same = λ n.
        let g = h.same n in record {
          more = g.more ++ item ∷ [];
          stop = g.stop;
          first = rw (append_assoc g.more (item ∷ []) a) g.first;
          second = rw (append_assoc g.more (item ∷ []) b, number n) g.second;
        };
    lines = text ++ h.lines;
    first = cc (h.first, e, append_assoc (expanded_lines a) text h.lines);
    second = cc (h.second, f, append_assoc (expanded_lines b) text h.lines);
    ended = h.ended;
  }

  stopped : {a b : List (Item ReadEpoch)} (one two : Stop) → (one_number → one ≡ two)
      → kind_of (ended_reading skip (record { items = a; stop = one }))
      ≡ kind_of (ended_reading skip (record { items = b; stop = two }))
      → Alike a b (record { items = a; stop = one }) (record { items = b; stop = two })
  stopped {a = a} {b = b} one two number e = record {
    same = λ n. record { more = []; stop = one; first = refl; second = cc (number n) };
    lines = [];
    first = sym (append-nil (expanded_lines a));
    second = sym (append-nil (expanded_lines b));
    ended = e;
  }

  looked : (a b : List (Item ReadEpoch)) (one two : ℕ → List ReadLine → Reading ReadEpoch) (m n : ℕ)
      (lines : List ReadLine) → (one_number → m ≡ n)
      → ((m n : ℕ) (ls : List ReadLine) → (one_number → m ≡ n) → Alike a b (one m ls) (two n ls))
      → Alike a b (looked_for one a m lines) (looked_for two b n lines)
  looked a b one two m n [] number h = stopped (Looking m) (Looking n) (λ k. ap Looking (number k)) refl
  looked a b one two m n (line ∷ lines) number h = grind (
    arith,
    common_steps,
    looked a b one two (m + 1) (n + 1) lines (λ k. ap (λ x. x + 1) (number k)) h,
  )

  -- after both lists of items, `units` units are read alike
  abbrev ReadAlike : ℕ → List (Item ReadEpoch) → List (Item ReadEpoch) → ℕ → ℕ → List ReadLine → Type 0
  ReadAlike units a b m n lines = (one_number → m ≡ n)
      → Alike a b (reading_within compact_place skip units a m
      lines) (reading_within compact_place skip units b n lines)

  lines-stopped : (a b : List (Item ReadEpoch)) (m n : ℕ) (lines : List ReadLine)
      → AreAlike a b → (one_number → m ≡ n) → Alike a b (record { items = a; stop = AtLines m lines })
      (record { items = b; stop = AtLines n lines })
  lines-stopped a b m n lines h number = grind (arith, common_steps, stopped, end-alike, ended-alike)

  -- one step: the unit is the same, and the reading after it continues alike
  one-step : (units : ℕ) (a b : List (Item ReadEpoch)) (m n : ℕ) (lines : List ReadLine)
      → AreAlike a b → compact_place a lines ≡ compact_place b lines
      → ((unit : FileUnit ReadEpoch) (count : ℕ) → compact_place a lines ≡ Done unit count → ReadAlike units
      (Accepted unit ∷ a) (Accepted unit ∷ b) (m + count) (n + count) (drop count lines))
      → ((at other : At) (i j : ℕ) (ls : List ReadLine) → ReadAlike units (Warned at ∷ a)
      (Warned other ∷ b) i j ls) → ReadAlike (suc units) a b m n lines
  one-step units a b m n lines h same next warned number = by_place (compact_place a lines)
      (λ unit count e. rw (e, sym same ∙ e, reading_within) (onto (next unit count e
      (λ k. ap (λ i. i + count) (number k))) (λ k. refl) (printed_unit (rinex_unit unit)) refl refl))
      (λ offset fault e.
      let at : ℕ → At = λ i. record { line = i + offset; fault = fault } in
      let past = max offset 1 in
      by_bool (is_skipped skip a fault) (λ on.
      rw (e, sym same ∙ e, reading_within, on, sym (skipped-alike skip a b fault h) ∙ on, after_fault)
      (onto (looked (Warned (at m) ∷ a) (Warned (at n) ∷ b) _ _ (m + past) (n + past) (drop past lines)
      (λ k. ap (λ i. i + past) (number k)) (warned (at m) (at n)))
      (λ k. ap (λ i. Warned (at i)) (number k)) []
      (sym (append-nil (expanded_lines a))) (sym (append-nil (expanded_lines b)))))
      (λ off.
      rw (e, sym same ∙ e, reading_within, off, sym (skipped-alike skip a b fault h) ∙ off, after_fault)
      (stopped (AtFault (at m)) (AtFault (at n)) (λ k. ap (λ i. AtFault (at i)) (number k)) refl)))
      (λ e. rw (e, sym same ∙ e, reading_within) (lines-stopped a b m n lines h number))

  -- from the same state the same is read
  reads-same : (units : ℕ) (a b : List (Item ReadEpoch)) (m n : ℕ) (lines : List ReadLine)
      → AreSame a b lines → ReadAlike units a b m n lines
  reads-same zero a b m n lines h = lines-stopped a b m n lines h.alike
  reads-same (suc units) a b m n lines h = one-step units a b m n lines h.alike
      (place-same a b h.alike lines h.goes_on (records_left a) refl) (λ unit count e. reads-same units _ _ _
      _ _
      (subst (Next a b h.alike lines) e (next-same a b h.alike lines h.goes_on)))
      (λ at other i j ls. reads-same units _ _ i j ls (same-warned a b at other ls h.alike))

  pub depends-on_types : (a b : List (Item ReadEpoch)) (m n : ℕ) (lines : List ReadLine)
      → IsBetweenUnits a → IsBetweenUnits b → types_in_force a ≡ types_in_force b → starts_anew 0 lines ≡ true
      → (one_number → m ≡ n) → Alike a b (reading_from compact_place skip a m lines)
      (reading_from compact_place skip b n lines)
  depends-on_types a b m n lines one two types anew = grind (arith, common_steps, reads-same)

pub on-types : DependsOnTypes
on-types skip before other number lines one two types anew =
    (depends-on_types ⊤ skip before other number number lines one two types anew (λ t. refl)).same tt
